-- If an audit lists none, tasting the registered components tells what the records say.
use Rattle.gm_looks.proofs.Common.{◌≡◌, ◌≢◌, ◌∙◌, inl, inr, ⊎_elim, ℕ, ◌*◌, ◌<◌, ◌-◌, ◌≤◌, ◌==◌, ◌||◌, ◌&&◌, not, nat_lt, Bool, true, false, if◌then◌else◌, refl, sym, ap, subst, arith, List, [], Some, None, Result, Ok, Err, cases_Bool, Image, Sizes, decode_of, encoded, IsMetadata, Metadata, Mirror, Component, disk_flags, IsOf, at_component, component_of, metadata, mirror_of, IsMirror, IsState, Records, members, name, provider, component_state, state_by, find_one, same_from, member, Provider, state_of, IsMember, IsTasted, judged, names_own, own_name, own_size, verdict, Has, Agree, AreRegistered, IsRegistered, named, IsAsRegistered, IsAudit, last_of}
use Rattle.std.proofs.lemmas.Bool.Decides.{nat_tests}
use Rattle.gm_metadata.specs.declared.flags.DiskFlags.{DiskFlags}
use Rattle.gm_metadata.specs.declared.flags.MirrorFlags.{MirrorFlags}
use Rattle.gm_metadata.proofs.Read.{encoded_decodes}
use Rattle.gm_state.specs.declared.records.Disk.{Disk}
use Rattle.gm_state.specs.declared.records.Disk.TheVariants as disk
use Rattle.gm_taste.specs.declared.tasted.Group.{Group}
use Rattle.gm_taste.specs.declared.tasted.Member.{Member}
use Rattle.gm_taste.specs.declared.tasted.Reason.{Reason}
use Rattle.gm_taste.specs.declared.tasted.Tasted.{Tasted}
use Rattle.gm_looks.specs.Agreeing.{IsTold}
use Rattle.gm_looks.proofs.Listed.{some_other, some_sectors}

-- ---- one component by itself

last_some : (n : ℕ) (sectors : ℕ → List ℕ) → 0 < n → last_of n sectors ≡ sectors (n - 1)
last_some n sectors h =
    elim (cases_Bool (n == 0)) [ inl e ↦ absurd (grind (arith, nat_tests)) | inr e ↦ rw e refl ]

-- a member that says of its state what the records do, and isn't behind, has that state
named_by : (flags : MirrorFlags) (d : Disk) (genid syncid : ℕ) (m : Metadata) → m.mflags ≡ flags
    → m.dflags ≡ disk_flags d → m.genid ≡ genid → (d ≢ disk.Inactive → m.syncid ≡ syncid)
    → named (state_of genid syncid m) ≡ Some (state_by flags d)
named_by flags disk.Inactive genid syncid m f e g s =
    let inactive : m.dflags.inactive ≡ true = ap (λ (x : DiskFlags). x.inactive) e in
    rw inactive refl
named_by flags disk.InSync genid syncid m f e g s =
    let inactive : m.dflags.inactive ≡ false = ap (λ (x : DiskFlags). x.inactive) e in
    let here : m.syncid ≡ syncid = s (λ no. (let never : ⊥ = cc in never)) in
    let current : nat_lt m.genid genid ≡ false = grind (arith, nat_tests) in
    let level : nat_lt m.syncid syncid ≡ false = grind (arith, nat_tests) in
    let whole : m.dflags.synchronizing ≡ false = ap (λ (x : DiskFlags). x.synchronizing) e in
    rw (inactive, current, level, whole) refl
named_by flags (disk.Copying forced held) genid syncid m f e g s =
    let inactive : m.dflags.inactive ≡ false = ap (λ (x : DiskFlags). x.inactive) e in
    let here : m.syncid ≡ syncid = s (λ no. (let never : ⊥ = cc in never)) in
    let current : nat_lt m.genid genid ≡ false = grind (arith, nat_tests) in
    let level : nat_lt m.syncid syncid ≡ false = grind (arith, nat_tests) in
    let copied : m.dflags.synchronizing ≡ true = ap (λ (x : DiskFlags). x.synchronizing) e in
    let force : m.dflags.force_sync ≡ forced = ap (λ (x : DiskFlags). x.force_sync) e in
    elim (cases_Bool (flags.no_autosync && not forced)) [
      | inl waits ↦ rw (inactive, current, level, copied, f, force, waits) refl
      | inr goes ↦ rw (inactive, current, level, copied, f, force, goes) refl
    ]

-- what is said of a component is found by its provider
at_found : {X : Type 0} (s : Records) → IsState s → (m : Mirror) (k : Component) → IsOf s m k
    → (f : Mirror → Component → X) → at_component s k.provider f ≡ Some (f m k)
at_found {X} s state m k o f =
    let mine = member s m.name k o.component in
    let found : component_of s k.provider ≡ Some k =
    find_one provider s.components state.components_in_order k mine.0 in
    let home : mirror_of s k.mirror ≡ Some m =
    subst (λ (n : List ℕ). mirror_of s n ≡ Some m) (sym mine.1)
    (find_one name s.mirrors state.mirrors_in_order m o.mirror) in
    rw (found, home) refl

-- mirrors of one name are one
one_mirror : (s : Records) → IsState s → (m n : Mirror) (k j : Component) → IsOf s m k → IsOf s n j
    → m.name ≡ n.name → m ≡ n
one_mirror s state m n k j o p e =
    some_other (mirror_of s n.name) m n
    (subst (λ (t : List ℕ). mirror_of s t ≡ Some m) e
    (find_one name s.mirrors state.mirrors_in_order m o.mirror))
    (find_one name s.mirrors state.mirrors_in_order n p.mirror)

-- ---- what a provider is taken to say

own_hardcoded : (hardcoded : Bool) (own k : List ℕ) → own ≡ k
    → names_own own (if hardcoded then Some k else None) ≡ true
own_hardcoded true own k e = same_from k own (sym e)
own_hardcoded false own k e = refl

own_bytes : (n p : ℕ) → p ≡ n → (512 * n == 0 || 512 * n == p * 512) ≡ true
own_bytes n p e = let bytes : 512 * n ≡ p * 512 = omega arith in
    (let same : (512 * n == p * 512) ≡ true = grind (arith, nat_tests) in
    elim (cases_Bool (512 * n == 0)) [ inl z ↦ rw z refl | inr z ↦ rw (z, same) refl ])

taken_whole : (p : Provider) (m : Metadata) → own_name p m ≡ true → own_size p m ≡ true
    → judged p (Ok m) ≡ Ok m
taken_whole p m n z = rw (n, z) refl

module _ (s : Records) (state : IsState s)
    (fits : (m : Mirror) (k : Component) → IsOf s m k → IsMetadata (metadata m k)) (size : Sizes)
    (seen : Image) (clean : IsAudit s size seen []) where
  right : (m : Mirror) (k : Component) → IsOf s m k → IsAsRegistered size seen m k
  right m k o = ⊎_elim (λ (r : IsAsRegistered size seen m k). r) (λ (none : ⊥). absurd none)
      (clean.others m k o)

  -- a registered provider is taken to say what the records say of it
  said : (p : Provider) (r : IsRegistered s size seen p)
      → verdict p ≡ Ok (metadata r.mirror r.component)
  said p r =
      let m = r.mirror in
      let k = r.component in
      let is = right m k r.of in
      let sized : p.sectors ≡ k.sectors =
      some_other (size k.provider) p.sectors k.sectors
      (subst (λ (n : List ℕ). size n ≡ Some p.sectors) r.name_is r.shown.sectors_are)
      is.size_is in
      let last : p.last ≡ encoded (metadata m k) =
      r.shown.last_is ∙ (ap (λ (n : ℕ). last_of n (seen p.name)) sized
      ∙ (ap (λ (n : List ℕ). last_of k.sectors (seen n)) r.name_is
      ∙ (last_some k.sectors (seen k.provider) (some_sectors s state m k r.of)
      ∙ is.last_is))) in
      let read : decode_of p.last ≡ Ok (metadata m k) =
      ap decode_of last ∙ encoded_decodes (metadata m k) (fits m k r.of) in
      ap (judged p) read ∙ taken_whole p (metadata m k)
      (own_hardcoded k.hardcoded p.name k.provider r.name_is)
      (own_bytes k.sectors p.sectors sized)

  module _ (ps : List Provider) (alone : AreRegistered s size seen ps) (t : Tasted)
      (tasted : IsTasted ps t) where
    same_ok : (a b : Metadata) (r : Result Metadata Reason) → r ≡ Ok a → r ≡ Ok b → a ≡ b
    same_ok a b r e f = let both = sym e ∙ f in cc

    -- a member says what the records say of its component
    record Known (g : Group) (x : Member) : Type 0 where
      mirror : Mirror
      component : Component
      of : IsOf s mirror component
      provider_is : x.provider ≡ component.provider
      says : x.metadata ≡ metadata mirror component
      name_is : mirror.name ≡ g.name
      mid_is : mirror.mid ≡ g.mid
      state_is : x.state ≡ state_of g.genid g.syncid x.metadata

    known : (g : Group) → Has t.groups.items g → (x : Member) → Has g.members.items x → Known g x
    known g there x h =
        let is : IsMember ps g x = ((tasted.groups_are g there).members_are x).0 h in
        let p = is.says.0 in
        let r = alone.each p is.says.1 in
        let e : x.metadata ≡ metadata r.mirror r.component =
        same_ok x.metadata (metadata r.mirror r.component) (verdict p) is.says.3 (said p r) in
        record {
          mirror = r.mirror;
          component = r.component;
          of = r.of;
          provider_is = sym is.says.2 ∙ r.name_is;
          says = e;
          name_is = sym (ap (λ (d : Metadata). d.name) e) ∙ is.name_is;
          mid_is = sym (ap (λ (d : Metadata). d.mid) e) ∙ is.mid_is;
          state_is = is.state_is;
        }

    -- each component of a group's mirror is a member
    member_of : (g : Group) → Has t.groups.items g → (m : Mirror) (k : Component) → IsOf s m k
        → m.name ≡ g.name → m.mid ≡ g.mid
        → Has g.members.items (record {
          provider = k.provider;
          metadata = metadata m k;
          state = state_of g.genid g.syncid (metadata m k);
        })
    member_of g there m k o named_so numbered =
        let at = alone.all m k o in
        let r = alone.each at.0 at.1 in
        let same : metadata r.mirror r.component ≡ metadata m k =
        told_once r.mirror r.component r.of (sym r.name_is ∙ at.2) in
        ((tasted.groups_are g there).members_are _).1
        (record {
          says = (at.0, at.1, at.2, said at.0 r ∙ ap Ok same);
          name_is = named_so;
          mid_is = numbered;
          state_is = refl;
        })
      where
        told_once : (n : Mirror) (j : Component) → IsOf s n j → j.provider ≡ k.provider
            → metadata n j ≡ metadata m k
        told_once n j p e =
            some_other (at_component s k.provider metadata) (metadata n j) (metadata m k)
            (subst (λ (q : List ℕ). at_component s q metadata ≡ Some (metadata n j)) e
            (at_found s state n j p metadata)) (at_found s state m k o metadata)

    -- the group has the numbers of its mirror
    module _ (g : Group) (there : Has t.groups.items g) (m : Mirror) (k : Component)
        (o : IsOf s m k) (named_so : m.name ≡ g.name) (numbered : m.mid ≡ g.mid) where
      of_mirror : (x : Member) (h : Has g.members.items x) → (known g there x h).mirror ≡ m
      of_mirror x h = let w = known g there x h in
          one_mirror s state w.mirror m w.component k w.of o (w.name_is ∙ sym named_so)

      genid_is : g.genid ≡ m.genid
      genid_is =
          let top = (tasted.groups_are g there).genid_is.reached in
          let w = known g there top.0 top.1 in
          sym top.3 ∙ (ap (λ (d : Metadata). d.genid) w.says
          ∙ ap (λ (a : Mirror). a.genid) (of_mirror top.0 top.1))

      syncid_least : m.syncid ≤ g.syncid
      syncid_least =
          let rules : IsMirror m (members s.components m.name) = state.each m o.mirror in
          let lead = rules.active in
          let of_lead : IsOf s m lead.0 = record { mirror = o.mirror; component = lead.1 } in
          let level : lead.0.syncid ≡ m.syncid =
          rules.current lead.0 lead.1
          (λ idle. (let no : disk.InSync ≡ disk.Inactive = sym lead.2 ∙ idle in cc)) in
          let top : lead.0.syncid ≤ g.syncid =
          (tasted.groups_are g there).syncid_is.bound _
          (member_of g there m lead.0 of_lead named_so numbered) (sym genid_is) in
          omega arith

      syncid_most : g.syncid ≤ m.syncid
      syncid_most =
          let top = (tasted.groups_are g there).syncid_is.reached in
          let w = known g there top.0 top.1 in
          let own : top.0.metadata.syncid ≡ w.component.syncid =
          ap (λ (d : Metadata). d.syncid) w.says in
          let under : w.component.syncid ≤ w.mirror.syncid =
          (state.each w.mirror w.of.mirror).syncids w.component w.of.component in
          let same : w.mirror.syncid ≡ m.syncid =
          ap (λ (a : Mirror). a.syncid) (of_mirror top.0 top.1) in
          let reached : top.0.metadata.syncid ≡ g.syncid = top.3 in
          omega arith

    -- so a member has the state that the records name
    state_named : (x : Member) → IsTold t x → named x.state ≡ component_state s x.provider
    state_named x told =
        let g = told.0 in
        let w = known g told.1 x told.2 in
        let m = w.mirror in
        let k = w.component in
        let genid = genid_is g told.1 m k w.of w.name_is w.mid_is in
        let low = syncid_least g told.1 m k w.of w.name_is w.mid_is in
        let high = syncid_most g told.1 m k w.of w.name_is w.mid_is in
        let syncid : g.syncid ≡ m.syncid = omega (arith, low, high) in
        let current = (state.each m w.of.mirror).current k w.of.component in
        let by_records : named (state_of g.genid g.syncid (metadata m k))
        ≡ Some (state_by m.flags k.disk) =
        named_by m.flags k.disk g.genid g.syncid (metadata m k) refl refl (sym genid)
        (λ other. current other ∙ sym syncid) in
        ap named (w.state_is ∙ ap (state_of g.genid g.syncid) w.says)
        ∙ (by_records ∙ (sym (at_found s state m k w.of (λ a j. state_by a.flags j.disk))
        ∙ ap (component_state s) (sym w.provider_is)))

    pub agree : Agree s t
    agree = record {
      all = λ m k o.
          let at = alone.all m k o in
          let r = alone.each at.0 at.1 in
          let group = tasted.all_in_groups at.0.name (metadata r.mirror r.component) (
            at.0,
            at.1,
            refl,
            said at.0 r,
          ) in
          let x = member_of group.0 group.1 r.mirror r.component r.of (sym group.2) (sym group.3) in
          (_, (group.0, group.1, x), sym r.name_is ∙ at.2);
      states = state_named;
      none_left = λ x h.
          let out = (tasted.left_are x).0 h in
          let r = alone.each out.0 out.1 in
          let both : Ok (metadata r.mirror r.component) ≡ Err x.reason =
          sym (said out.0 r) ∙ out.3 in
          (let no : ⊥ = cc in no);
    }
