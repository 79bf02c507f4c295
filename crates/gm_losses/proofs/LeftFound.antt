-- Which images are left of a mirror that is adopted, which are whole beside its source, and which
-- have other data.
use Rattle.gm_losses.proofs.Common.{◌≡◌, ◌∙◌, ◌↔◌, ◌⊎◌, ◌==◌, inl, inr, eq-eqb, eqb-true, list_any, ℕ, ◌<◌, ◌||◌, ◌&&◌, not, nat_lt, Bool, true, false, refl, sym, ap, subst, arith, List, filter, find, Option, Some, None, Ok, list_all, and_from, and_parts, cases_Bool, lt-ltb, ltb-true, or_parts, Image, Sizes, same_label, Has, any_from, found, found_none, not_both, some_any, AscendsBy-filter_map, Has-filter, Has-filter_map, filter-Has, filter_map-Has, same_from, same_is, Group, behind, state_of, IsMember, IsTasted, SaysOf, verdict, last_of, Records, AreShown, IsShown, some_other, has_member, is_adopted, is_broken, is_named, is_newest, is_no_loss, is_torn, is_whole_beside, is_whole_with, is_dirty_beside, is_active_of, active_of, is_compared, beside_source, beside_first, differing_as, adopted_as, adopted_of, adopted_among, count_differing, first_differing, reach_of, data_of, difference_as, left_as, sources_among, AreOfMirror, IsBroken, IsLeft, IsOfMirror, IsTorn, IsWholeBeside, Says, is_newer, is_whole, IsUnlikeSource, Difference, AreJust, LosesAdopted, provider_of, Loss, Differs, Left, Whole}
use Rattle.gm_metadata.specs.declared.metadata.Metadata.{Metadata}
use Rattle.gm_lists.proofs.Sorting.{all_has, has_all}
use Rattle.gm_taste.specs.declared.provider.Provider.{Provider}
use Rattle.gm_taste.specs.declared.tasted.Member.{Member}
use Rattle.gm_taste.specs.declared.tasted.Tasted.{Tasted}
use Rattle.gm_losses.proofs.DifferingFound.{first_told, is_difference, some_told, told_as, told_first, told_some}
use Rattle.gm_losses.proofs.Listed.{in_order, none_lost}
use Rattle.gm_losses.proofs.SourceFound.{active_tells, one_source, source_tells, tells_active, tells_source}

-- ---- whether a member is BROKEN

not_behind : (d : Metadata) (offset : ℕ) → is_broken (behind d offset) ≡ false
not_behind d offset =
    elim (cases_Bool (d.mflags.no_autosync && not d.dflags.force_sync)) [
      | inl e ↦ rw e refl
      | inr e ↦ rw e refl
    ]

broken_tells : (genid syncid : ℕ) (d : Metadata) → is_broken (state_of genid syncid d) ≡ true
    → (d.dflags.inactive ≡ false) × (d.genid < genid)
broken_tells genid syncid d e = elim (cases_Bool d.dflags.inactive) [
  | inl idle ↦ (let never : false ≡ true = rw idle at e in cc)
  | inr used ↦ elim (cases_Bool (nat_lt d.genid genid)) [
    | inl low ↦ (used, ltb-true d.genid genid low)
    | inr high ↦ elim (cases_Bool (nat_lt d.syncid syncid)) [
      | inl late ↦ not_both _ (rw (used, high, late) at e) (not_behind d 0)
      | inr here ↦ elim (cases_Bool d.dflags.synchronizing) [
        | inl copied ↦ not_both _ (rw (used, high, here, copied) at e) (not_behind d d.sync_offset)
        | inr whole ↦ (let never : false ≡ true = rw (used, high, here, whole) at e in cc)
      ]
    ]
  ]
]

broken_from : (genid syncid : ℕ) (d : Metadata) → d.dflags.inactive ≡ false → d.genid < genid
    → is_broken (state_of genid syncid d) ≡ true
broken_from genid syncid d used low =
    let late : nat_lt d.genid genid ≡ true = lt-ltb d.genid genid low in
    rw (used, late) refl

-- ---- what tasting takes an image to say

made : List ℕ → ℕ → List ℕ → Provider
made a n x = record { name = a; sectors = n; last = x }

one_provider : (x y : Provider) → x.name ≡ y.name → x.sectors ≡ y.sectors → x.last ≡ y.last → x ≡ y
unfolding made
one_provider x y a n l =
    let same : made x.name x.sectors x.last ≡ made y.name y.sectors y.last = cc in same

module _ (size : Sizes) (seen : Image) where
  -- a provider is shown in one way
  one_shown : (x y : Provider) → IsShown size seen x → IsShown size seen y → x.name ≡ y.name
      → x ≡ y
  one_shown x y a b e =
      let sectors : x.sectors ≡ y.sectors = some_other (size y.name) x.sectors y.sectors
      (subst (λ (q : List ℕ). size q ≡ Some x.sectors) e a.sectors_are) b.sectors_are in
      one_provider x y e sectors
      (a.last_is ∙ (ap (λ (q : List ℕ). last_of x.sectors (seen q)) e
      ∙ (ap (λ (n : ℕ). last_of n (seen y.name)) sectors ∙ sym b.last_is)))

  -- so it says one thing
  pub says_once : (p : List ℕ) (d e : Metadata) → Says size seen p d → Says size seen p e → d ≡ e
  says_once p d e a b =
      let same : a.image ≡ b.image =
      one_shown a.image b.image a.shown b.shown (a.name_is ∙ sym b.name_is) in
      let both : Ok d ≡ Ok e = sym a.taken ∙ (ap verdict same ∙ b.taken) in cc

  module _ (images : List Provider) (shown : AreShown size seen images) (t : Tasted)
      (tasted : IsTasted images t) where
    says_of : (p : List ℕ) (d : Metadata) → Says size seen p d → SaysOf images p d
    says_of p d a =
        let at = shown.all a.image.name a.image.sectors a.shown.sectors_are in
        let same : at.0 ≡ a.image = one_shown at.0 a.image (shown.each at.0 at.1) a.shown at.2 in
        (at.0, at.1, at.2 ∙ a.name_is, ap verdict same ∙ a.taken)

    of_says : (p : List ℕ) (d : Metadata) → SaysOf images p d → Says size seen p d
    of_says p d a = record {
      image = a.0;
      shown = shown.each a.0 a.1;
      name_is = a.2;
      taken = a.3;
    }

    -- ---- a group

    module _ (g : Group) (there : Has t.groups.items g) where
      is_member : (x : Member) → Has g.members.items x → IsMember images g x
      is_member x h = ((tasted.groups_are g there).members_are x).0 h

      says_member : (x : Member) → Has g.members.items x → Says size seen x.provider x.metadata
      says_member x h = of_says x.provider x.metadata (is_member x h).says

      -- a member as the group has it
      abbrev as_member : List ℕ → Metadata → Member
      as_member p d = record {
        provider = p;
        metadata = d;
        state = state_of g.genid g.syncid d;
      }

      member_of : (p : List ℕ) (d : Metadata) → IsOfMirror size seen g.name g.mid p d
          → Has g.members.items (as_member p d)
      member_of p d is = ((tasted.groups_are g there).members_are (as_member p d)).1 (record {
        says = says_of p d is.says;
        name_is = is.name_is;
        mid_is = is.mid_is;
        state_is = refl;
      })

      broken_told : (x : Member) → Has g.members.items x → is_broken x.state ≡ true
          → IsBroken size seen x.metadata
      broken_told x h e =
          let is = is_member x h in
          let tells = broken_tells g.genid g.syncid x.metadata (sym (ap is_broken is.state_is) ∙ e)
          in
          let top = (tasted.groups_are g there).genid_is.reached in
          let y = is_member top.0 top.1 in
          record {
            takes_part = tells.0;
            provider = top.0.provider;
            other = top.0.metadata;
            of = record {
              says = says_member top.0 top.1;
              name_is = y.name_is ∙ sym is.name_is;
              mid_is = y.mid_is ∙ sym is.mid_is;
            };
            behind = let low = tells.1 in let most = top.3 in omega arith;
          }

      told_broken : (x : Member) → Has g.members.items x → IsBroken size seen x.metadata
          → is_broken x.state ≡ true
      told_broken x h b =
          let is = is_member x h in
          let other = member_of b.provider b.other (record {
            says = b.of.says;
            name_is = b.of.name_is ∙ is.name_is;
            mid_is = b.of.mid_is ∙ is.mid_is;
          }) in
          let bound = (tasted.groups_are g there).genid_is.bound
          (as_member b.provider b.other) other tt in
          ap is_broken is.state_is
          ∙ broken_from g.genid g.syncid x.metadata b.takes_part
          (let low = b.behind in omega (arith, bound))

      -- ---- whether a member is torn

      torn_told : (x : Member) → Has g.members.items x → is_torn g.members.items x ≡ true
          → IsTorn size seen x.metadata
      torn_told x h e =
          let is = is_member x h in
          let parts = and_parts x.metadata.dflags.dirty
          (list_any (is_whole_with x) g.members.items) e in
          let y = some_any (is_whole_with x) g.members.items parts.1 in
          let whole = and_parts (is_whole y.0.metadata)
          (y.0.metadata.genid == x.metadata.genid) y.2 in
          let other = is_member y.0 y.1 in
          record {
            dirty = parts.0;
            provider = y.0.provider;
            other = y.0.metadata;
            of = record {
              says = says_member y.0 y.1;
              name_is = other.name_is ∙ sym is.name_is;
              mid_is = other.mid_is ∙ sym is.mid_is;
            };
            whole = whole.0;
            genid_is = eqb-true y.0.metadata.genid x.metadata.genid whole.1;
          }

      told_torn : (x : Member) → Has g.members.items x → IsTorn size seen x.metadata
          → is_torn g.members.items x ≡ true
      told_torn x h torn =
          let is = is_member x h in
          let other = member_of torn.provider torn.other (record {
            says = torn.of.says;
            name_is = torn.of.name_is ∙ is.name_is;
            mid_is = torn.of.mid_is ∙ is.mid_is;
          }) in
          and_from x.metadata.dflags.dirty (list_any (is_whole_with x) g.members.items) torn.dirty
          (any_from (is_whole_with x) g.members.items (as_member torn.provider torn.other) other
          (and_from (is_whole torn.other) (torn.other.genid == x.metadata.genid) torn.whole
          (eq-eqb torn.other.genid x.metadata.genid torn.genid_is)))

    -- ---- a group that is adopted

    module _ (name : List ℕ) (ps : List (List ℕ)) where
      named_has : (x : Member) → is_named ps x ≡ true → Has ps x.provider
      named_has x e =
          let one = some_any (λ (p : List ℕ). same_label x.provider p) ps e in
          subst (Has ps) (sym (same_is x.provider one.0 one.2)) one.1

      has_named : (x : Member) → Has ps x.provider → is_named ps x ≡ true
      has_named x h = any_from (λ (p : List ℕ). same_label x.provider p) ps x.provider h
          (same_from x.provider x.provider refl)

      -- what it is to be newer than the images that are named
      abbrev IsNewest : Metadata → Type 0
      IsNewest d = (q : List ℕ) (e : Metadata) → Has ps q → Says size seen q e
          → is_newer d e ≡ true

      module _ (g : Group) (there : Has t.groups.items g)
          (adopted : is_adopted name ps g ≡ true) where
        parts : (same_label g.name name ≡ true)
            × (list_all (has_member g.members.items) ps ≡ true)
        parts = and_parts (same_label g.name name) (list_all (has_member g.members.items) ps)
            adopted

        named_so : g.name ≡ name
        named_so = same_is g.name name parts.0

        -- each named image is a member
        named_member : (q : List ℕ) → Has ps q
            → (x : Member) × Has g.members.items x × (x.provider ≡ q)
        named_member q h =
            let one = some_any (λ (x : Member). same_label x.provider q) g.members.items
            (all_has (has_member g.members.items) ps parts.1 q h) in
            (one.0, one.1, same_is one.0.provider q one.2)

        named_says : (q : List ℕ) (h : Has ps q)
            → IsOfMirror size seen name g.mid q (named_member q h).0.metadata
        named_says q h =
            let x = named_member q h in
            let is = is_member g there x.0 x.1 in
            record {
              says = subst (λ (p : List ℕ). Says size seen p x.0.metadata) x.2
                  (says_member g there x.0 x.1);
              name_is = is.name_is ∙ named_so;
              mid_is = is.mid_is;
            }

        newest_tells : (x : Member) → is_newest g.members.items ps x ≡ true
            → IsNewest x.metadata
        newest_tells x e q d h says =
            let y = named_member q h in
            let same : y.0.metadata ≡ d = says_once q y.0.metadata d (named_says q h).says says in
            subst (λ (m : Metadata). is_newer x.metadata m ≡ true) same
            (all_has (λ (z : Member). is_newer x.metadata z.metadata)
            (filter (is_named ps) g.members.items) e y.0
            (filter-Has (is_named ps) g.members.items y.0 y.1
            (has_named y.0 (subst (Has ps) (sym y.2) h))))

        tells_newest : (x : Member) → IsNewest x.metadata
            → is_newest g.members.items ps x ≡ true
        tells_newest x newest =
            has_all (λ (z : Member). is_newer x.metadata z.metadata)
            (filter (is_named ps) g.members.items) (λ z h.
            let in_group = Has-filter (is_named ps) g.members.items z h in
            newest z.provider z.metadata (named_has z in_group.1)
            (says_member g there z in_group.0))

        -- ---- which members are whole beside a DIRTY source

        abbrev sources : List Member
        sources = sources_among g.members.items ps

        abbrev named : List Member
        named = filter (is_named ps) g.members.items

        named_there : (x : Member) → Has named x
            → Has ps x.provider × Says size seen x.provider x.metadata
        named_there x h =
            let in_group = Has-filter (is_named ps) g.members.items x h in
            (named_has x in_group.1, says_member g there x in_group.0)

        all_named : (q : List ℕ) (d : Metadata) → Has ps q → Says size seen q d
            → (x : Member) × Has named x × (x.provider ≡ q) × (x.metadata ≡ d)
        all_named q d h says =
            let y = named_member q h in (
              y.0,
              filter-Has (is_named ps) g.members.items y.0 y.1
                  (has_named y.0 (subst (Has ps) (sym y.2) h)),
              y.2,
              says_once q y.0.metadata d (named_says q h).says says,
            )

        -- a member is of the mirror, and so are the images that are named
        of_mirror : (x : Member) → Has g.members.items x
            → IsOfMirror size seen name x.metadata.mid x.provider x.metadata
        of_mirror x h =
            let is = is_member g there x h in
            record {
              says = says_member g there x h;
              name_is = is.name_is ∙ named_so;
              mid_is = refl;
            }

        are_of_mirror : (x : Member) → Has g.members.items x
            → AreOfMirror size seen name x.metadata.mid ps
        are_of_mirror x h q k =
            let is = is_member g there x h in (
              (named_member q k).0.metadata,
              record {
                says = (named_says q k).says;
                name_is = (named_says q k).name_is;
                mid_is = (named_says q k).mid_is ∙ sym is.mid_is;
              },
            )

        whole_told : (x : Member) → Has g.members.items x → is_whole_beside sources x ≡ true
            → IsWholeBeside size seen name ps x.provider
        whole_told x h e =
            let parts = and_parts (is_whole x.metadata)
            (list_any (is_dirty_beside x) sources) e in
            let b = some_any (is_dirty_beside x) sources parts.1 in
            let dirty = and_parts b.0.metadata.dflags.dirty
            (b.0.metadata.genid == x.metadata.genid) b.2 in
            record {
              metadata = x.metadata;
              of = of_mirror x h;
              named = are_of_mirror x h;
              whole = parts.0;
              source = b.0.provider;
              said = b.0.metadata;
              source_is = source_tells size seen ps named named_there all_named b.0 b.1;
              dirty = dirty.0;
              genid_is = eqb-true b.0.metadata.genid x.metadata.genid dirty.1;
            }

        -- ---- which members are left

        unneeded : (x : Member) → is_no_loss g.members.items ps x ≡ false
            → (is_named ps x ≡ false) × (is_broken x.state ≡ false)
            × (is_torn g.members.items x ≡ false)
        unneeded x e =
            let apart = or_parts (is_named ps x)
            (is_broken x.state || is_torn g.members.items x) e in
            let rest = or_parts (is_broken x.state) (is_torn g.members.items x) apart.1 in
            (apart.0, rest.0, rest.1)

        left_told : (x : Member) → Has g.members.items x
            → is_no_loss g.members.items ps x ≡ false
            → IsLeft size seen name ps x.provider (is_newest g.members.items ps x)
        left_told x h lost =
            let apart = unneeded x lost in
            record {
              metadata = x.metadata;
              of = of_mirror x h;
              named = are_of_mirror x h;
              other = λ k. not_both (is_named ps x) (has_named x k) apart.0;
              current = λ b. not_both (is_broken x.state) (told_broken g there x h b) apart.1;
              needed = λ k. not_both (is_torn g.members.items x) (told_torn g there x h k) apart.2;
              newer_is = (newest_tells x, tells_newest x);
            }

        -- an image of a mirror of which all of these are is a member
        module _ (q : List ℕ) (first : Has ps q) (p : List ℕ) (d : Metadata)
            (of : IsOfMirror size seen name d.mid p d)
            (all : AreOfMirror size seen name d.mid ps) where
          -- the group is that of its mirror
          same_mid : d.mid ≡ g.mid
          same_mid =
              let theirs = (all q first).1 in
              let mine = named_says q first in
              sym theirs.mid_is
              ∙ (ap (λ (e : Metadata). e.mid) (says_once q (all q first).0
              (named_member q first).0.metadata theirs.says mine.says) ∙ mine.mid_is)

          abbrev it : Member
          it = as_member g there p d

          is_in : Has g.members.items it
          is_in = member_of g there p d (record {
            says = of.says;
            name_is = of.name_is ∙ sym named_so;
            mid_is = same_mid;
          })

        -- an image that is whole beside a DIRTY source is told of
        module _ (q : List ℕ) (first : Has ps q) (p : List ℕ)
            (w : IsWholeBeside size seen name ps p) where
          abbrev whole_one : Member
          whole_one = it q first p w.metadata w.of w.named

          whole_is : is_whole_beside sources whole_one ≡ true
          whole_is =
              let b = tells_source size seen ps named named_there all_named w.source w.said
              w.source_is in
              let passes : (m : Metadata) → m ≡ w.said
              → m.dflags.dirty && (m.genid == w.metadata.genid) ≡ true = λ m e.
              rw e (and_from w.said.dflags.dirty (w.said.genid == w.metadata.genid) w.dirty
              (eq-eqb w.said.genid w.metadata.genid w.genid_is)) in
              and_from (is_whole w.metadata) (list_any (is_dirty_beside whole_one) sources) w.whole
              (any_from (is_dirty_beside whole_one) sources b.0 b.1 (passes b.0.metadata b.2))

          whole_as_is : left_as g.members.items ps sources whole_one ≡ Some (Whole p)
          whole_as_is = rw whole_is refl

        -- an image that is left is a member that is told of
        module _ (q : List ℕ) (first : Has ps q) (p : List ℕ) (newer : Bool)
            (left : IsLeft size seen name ps p newer)
            (apart : IsWholeBeside size seen name ps p → ⊥) where
          abbrev left_one : Member
          left_one = it q first p left.metadata left.of left.named

          left_in : Has g.members.items left_one
          left_in = is_in q first p left.metadata left.of left.named

          unnamed : is_named ps left_one ≡ false
          unnamed = elim (cases_Bool (is_named ps left_one)) [
            | inl e ↦ absurd (left.other (named_has left_one e))
            | inr e ↦ e
          ]

          unbroken : is_broken left_one.state ≡ false
          unbroken = elim (cases_Bool (is_broken left_one.state)) [
            | inl e ↦ absurd (left.current (broken_told g there left_one left_in e))
            | inr e ↦ e
          ]

          untorn : is_torn g.members.items left_one ≡ false
          untorn = elim (cases_Bool (is_torn g.members.items left_one)) [
            | inl e ↦ absurd (left.needed (torn_told g there left_one left_in e))
            | inr e ↦ e
          ]

          unlike_whole : is_whole_beside sources left_one ≡ false
          unlike_whole = elim (cases_Bool (is_whole_beside sources left_one)) [
            | inl e ↦ absurd (apart (whole_told left_one left_in e))
            | inr e ↦ e
          ]

          as_new : is_newest g.members.items ps left_one ≡ newer
          as_new = one_answer newer left.newer_is
            where
              one_answer : (b : Bool) → (b ≡ true) ↔ IsNewest left.metadata
                  → is_newest g.members.items ps left_one ≡ b
              one_answer true tells = tells_newest left_one (tells.0 refl)
              one_answer false tells = elim (cases_Bool (is_newest g.members.items ps left_one)) [
                | inl e ↦ (let never : false ≡ true = tells.1 (newest_tells left_one e) in cc)
                | inr e ↦ e
              ]

          left_is : left_as g.members.items ps sources left_one ≡ Some (Left p newer)
          left_is = rw (unlike_whole, unnamed, unbroken, untorn)
              (ap (λ (b : Bool). Some (Left p b)) as_new)

        -- ---- which members have other data than the source

        -- what is told of one, if that is
        differing_told : (y : Member) (x : Loss) → Has g.members.items y
            → differing_as size seen g.members.items ps sources y ≡ Some x
            → (sectors : ℕ) × (first : ℕ) × (x ≡ Differs y.provider sectors first)
            × IsUnlikeSource size seen name ps y.provider sectors first
        differing_told y x h e = elim (cases_Bool (is_compared g.members.items ps y)) [
          | inl on ↦ compared on (rw on at e)
          | inr off ↦ (let none : None ≡ Some x = rw off at e in
              absurd (let never : ⊥ = cc in never))
        ]
          where
            compared : is_compared g.members.items ps y ≡ true
                → beside_first size seen sources y ≡ Some x
                → (sectors : ℕ) × (first : ℕ) × (x ≡ Differs y.provider sectors first)
                × IsUnlikeSource size seen name ps y.provider sectors first
            compared on told =
                let on_both = and_parts (is_named ps y) (is_active_of named y) on in
                let b = first_told size seen sources y x told in
                let n = reach_of size b.0.provider y.provider (data_of b.0.metadata) in
                let one = seen b.0.provider in
                let other = seen y.provider in
                let some = some_told y.provider (count_differing one other n)
                (first_differing one other n) x b.2 in (
                  count_differing one other n,
                  first_differing one other n,
                  some.1,
                  record {
                    mid = y.metadata.mid;
                    named = are_of_mirror y h;
                    metadata = y.metadata;
                    active = active_tells size seen ps named named_there all_named y
                        (filter-Has (is_active_of named) named y
                        (filter-Has (is_named ps) g.members.items y h on_both.0) on_both.1);
                    source = b.0.provider;
                    said = b.0.metadata;
                    source_is = source_tells size seen ps named named_there all_named b.0 b.1;
                    some = some.0;
                    by = is_difference one other n;
                  },
                )

        -- an image that has other data is a member of which that is told
        module _ (p : List ℕ) (sectors first : ℕ)
            (u : IsUnlikeSource size seen name ps p sectors first)
            (apart : IsWholeBeside size seen name ps p → ⊥) where
          found_one : (x : Member) × Has (active_of named) x × (x.provider ≡ p)
              × (x.metadata ≡ u.metadata)
          found_one = tells_active size seen ps named named_there all_named p u.metadata u.active

          abbrev unlike_one : Member
          unlike_one = found_one.0

          is_found : Has named unlike_one × (is_active_of named unlike_one ≡ true)
          is_found = Has-filter (is_active_of named) named unlike_one found_one.1

          unlike_in : Has g.members.items unlike_one
          unlike_in = (Has-filter (is_named ps) g.members.items unlike_one is_found.0).0

          is_one_named : is_named ps unlike_one ≡ true
          is_one_named = (Has-filter (is_named ps) g.members.items unlike_one is_found.0).1

          not_as_whole : is_whole_beside sources unlike_one ≡ false
          not_as_whole = elim (cases_Bool (is_whole_beside sources unlike_one)) [
            | inl e ↦ absurd (apart (subst (IsWholeBeside size seen name ps) found_one.2
                (whole_told unlike_one unlike_in e)))
            | inr e ↦ e
          ]

          abbrev reach : ℕ
          reach = reach_of size u.source p (data_of u.said)

          -- beside each source it is told as it differs
          each_tells : (c : Member) → Has sources c
              → beside_source size seen c unlike_one ≡ Some (Differs p sectors first)
          each_tells c h =
              let theirs = source_tells size seen ps named named_there all_named c h in
              let at : c.provider ≡ u.source =
              one_source size seen ps c.provider u.source c.metadata u.said theirs u.source_is in
              let says : c.metadata ≡ u.said =
              says_once u.source c.metadata u.said
              (subst (λ (q : List ℕ). Says size seen q c.metadata) at theirs.active.says)
              u.source_is.active.says in
              let d : Difference = record { sectors = sectors; first = first } in
              let as_told : difference_as p sectors first
              ≡ difference_as p (count_differing (seen u.source) (seen p) reach)
              (first_differing (seen u.source) (seen p) reach) =
              told_as (seen u.source) (seen p) p reach d u.by in
              beside c.provider c.metadata unlike_one.provider at says found_one.2
              ∙ (sym as_told ∙ told_some p sectors first u.some)
            where
              beside : (q : List ℕ) (m : Metadata) (r : List ℕ) → q ≡ u.source → m ≡ u.said
                  → r ≡ p → difference_as r (count_differing (seen q) (seen r)
                  (reach_of size q r (data_of m))) (first_differing (seen q) (seen r)
                  (reach_of size q r (data_of m)))
                  ≡ difference_as p (count_differing (seen u.source) (seen p) reach)
                  (first_differing (seen u.source) (seen p) reach)
              beside q m r e f i = rw (e, f, i) refl

          differing_is : adopted_as size seen g.members.items ps sources unlike_one
              ≡ Some (Differs p sectors first)
          differing_is =
              let source = tells_source size seen ps named named_there all_named u.source u.said
              u.source_is in
              let on : is_compared g.members.items ps unlike_one ≡ true =
              and_from (is_named ps unlike_one) (is_active_of named unlike_one) is_one_named
              is_found.1 in
              let none : left_as g.members.items ps sources unlike_one ≡ None =
              rw (not_as_whole, is_one_named) refl in
              rw (none, on) (told_first size seen sources unlike_one source.0
              (Some (Differs p sectors first)) source.1 each_tells)

        -- ---- what is told of the group

        module _ (s : Records) where
          abbrev IsOne : Loss → Type 0
          IsOne x = LosesAdopted s size seen name ps x

          -- what is told of a member, and why
          abbrev Told : Member → Loss → Type 0
          Told y x = ((is_whole_beside sources y ≡ true) × (x ≡ Whole y.provider))
              ⊎ (((is_whole_beside sources y ≡ false)
              × (is_no_loss g.members.items ps y ≡ false)
              × (x ≡ Left y.provider (is_newest g.members.items ps y)))
              ⊎ ((is_whole_beside sources y ≡ false)
              × (differing_as size seen g.members.items ps sources y ≡ Some x)))

          told_of : (y : Member) (x : Loss)
              → adopted_as size seen g.members.items ps sources y ≡ Some x → Told y x
          told_of y x e = elim (cases_Bool (is_whole_beside sources y)) [
            | inl whole ↦ (let some : Some (Whole y.provider) ≡ Some x = rw whole at e in
                let is : x ≡ Whole y.provider = cc in inl (whole, is))
            | inr other ↦ elim (cases_Bool (is_no_loss g.members.items ps y)) [
              | inl out ↦ inr (inr (other, rw (other, out) at e))
              | inr lost ↦ (let some : Some (Left y.provider (is_newest g.members.items ps y))
                  ≡ Some x = rw (other, lost) at e in
                  let is : x ≡ Left y.provider (is_newest g.members.items ps y) = cc in
                  inr (inl (other, lost, is)))
            ]
          ]

          -- one that isn't told as whole isn't so
          not_whole : (y : Member) → Has g.members.items y → is_whole_beside sources y ≡ false
              → IsWholeBeside size seen name ps y.provider → ⊥
          not_whole y h e w =
              let q = w.source_is.active.named in
              let z = whole_one w.source q y.provider w in
              let same : z.metadata ≡ y.metadata =
              says_once y.provider z.metadata y.metadata w.of.says (says_member g there y h) in
              let whole : is_whole_beside sources z ≡ true =
              whole_is w.source q y.provider w in
              not_both (is_whole_beside sources y)
              (subst (λ (m : Metadata). is_whole m && list_any (λ (b : Member).
              b.metadata.dflags.dirty && (b.metadata.genid == m.genid)) sources ≡ true)
              same whole) e

          told_one : (x : Loss) → Has (adopted_of size seen ps (Some g)) x → IsOne x
          told_one x h =
              let from = Has-filter_map (adopted_as size seen g.members.items ps sources)
              g.members.items x h in
              let y = from.0 in
              elim (told_of y x from.2) [
                | inl t ↦ inl (y.provider, t.1, whole_told y from.1 t.0)
                | inr (inl t) ↦ inr (inl (
                  y.provider,
                  is_newest g.members.items ps y,
                  t.2,
                  left_told y from.1 t.1,
                  not_whole y from.1 t.0,
                ))
                | inr (inr t) ↦ (let d = differing_told y x from.1 t.1 in
                    inr (inr (y.provider, d.0, d.1, d.2, d.3, not_whole y from.1 t.0)))
              ]

          one_told : (q : List ℕ) → Has ps q → (x : Loss) → IsOne x
              → Has (adopted_of size seen ps (Some g)) x
          one_told q first x (inl w) =
              subst (Has (adopted_of size seen ps (Some g))) (sym w.1)
              (filter_map-Has (adopted_as size seen g.members.items ps sources) g.members.items
              (whole_one q first w.0 w.2) (Whole w.0)
              (is_in q first w.0 w.2.metadata w.2.of w.2.named)
              (rw (whole_as_is q first w.0 w.2) refl))
          one_told q first x (inr (inl h)) =
              subst (Has (adopted_of size seen ps (Some g))) (sym h.2)
              (filter_map-Has (adopted_as size seen g.members.items ps sources) g.members.items
              (left_one q first h.0 h.1 h.3 h.4) (Left h.0 h.1) (left_in q first h.0 h.1 h.3 h.4)
              (rw (left_is q first h.0 h.1 h.3 h.4) refl))
          one_told q first x (inr (inr h)) =
              subst (Has (adopted_of size seen ps (Some g))) (sym h.3)
              (filter_map-Has (adopted_as size seen g.members.items ps sources) g.members.items
              (unlike_one h.0 h.1 h.2 h.4 h.5) (Differs h.0 h.1 h.2)
              (unlike_in h.0 h.1 h.2 h.4 h.5) (differing_is h.0 h.1 h.2 h.4 h.5))

          -- what is told of a member names its provider
          differing_name : (y : Member) (x : Loss)
              → differing_as size seen g.members.items ps sources y ≡ Some x
              → y.provider ≡ provider_of x
          differing_name y x e = elim (cases_Bool (is_compared g.members.items ps y)) [
            | inl on ↦ (let b = first_told size seen sources y x (rw on at e) in
                let n = reach_of size b.0.provider y.provider (data_of b.0.metadata) in
                sym (ap provider_of (some_told y.provider
                (count_differing (seen b.0.provider) (seen y.provider) n)
                (first_differing (seen b.0.provider) (seen y.provider) n) x b.2).1))
            | inr off ↦ (let none : None ≡ Some x = rw off at e in
                absurd (let never : ⊥ = cc in never))
          ]

          keeps_name : (y : Member) (x : Loss)
              → adopted_as size seen g.members.items ps sources y ≡ Some x
              → y.provider ≡ provider_of x
          keeps_name y x e = elim (told_of y x e) [
            | inl t ↦ sym (ap provider_of t.1)
            | inr (inl t) ↦ sym (ap provider_of t.2)
            | inr (inr t) ↦ differing_name y x t.1
          ]

          pub group_lost : (q : List ℕ) → Has ps q
              → AreJust IsOne (adopted_of size seen ps (Some g))
          group_lost q first = record {
            told = told_one;
            others = one_told q first;
            order = in_order (adopted_of size seen ps (Some g))
                (AscendsBy-filter_map (adopted_as size seen g.members.items ps sources)
                (λ x. x.provider) provider_of keeps_name g.members.items
                (tasted.groups_are g there).members_ascend);
          }

      -- the mirror of an image, of which all of these are, has a group, which is adopted
      none_left : find (is_adopted name ps) t.groups.items ≡ None → (p : List ℕ) (d : Metadata)
          → IsOfMirror size seen name d.mid p d → AreOfMirror size seen name d.mid ps → ⊥
      none_left none p d mine all =
          let group = tasted.all_in_groups p d (says_of p d mine.says) in
          let g = group.0 in
          let has : (q : List ℕ) → Has ps q → has_member g.members.items q ≡ true = λ q h.
          let of = (all q h).1 in
          any_from (λ (x : Member). same_label x.provider q) g.members.items
          (as_member g group.1 q (all q h).0)
          (member_of g group.1 q (all q h).0 (record {
            says = of.says;
            name_is = of.name_is ∙ (sym mine.name_is ∙ sym group.2);
            mid_is = of.mid_is ∙ sym group.3;
          })) (same_from q q refl) in
          not_both (is_adopted name ps g)
          (and_from (same_label g.name name) (list_all (has_member g.members.items) ps)
          (same_from g.name name (group.2 ∙ mine.name_is))
          (has_all (has_member g.members.items) ps has))
          (found_none (is_adopted name ps) t.groups.items none g group.1)

      -- an image that is named is one of the mirror that all of these are of
      none_unlike : find (is_adopted name ps) t.groups.items ≡ None → (p : List ℕ)
          (sectors first : ℕ) → IsUnlikeSource size seen name ps p sectors first → ⊥
      none_unlike none p sectors first u =
          let mine = u.named p u.active.named in
          let mid : mine.0.mid ≡ u.mid = mine.1.mid_is in
          none_left none p mine.0
          (subst (λ (n : ℕ). IsOfMirror size seen name n p mine.0) (sym mid) mine.1)
          (subst (λ (n : ℕ). AreOfMirror size seen name n ps) (sym mid) u.named)

      -- what is told of all groups is what is left, or whole, or differs
      pub adopted_lost : (s : Records) (q : List ℕ) → Has ps q
          → AreJust (LosesAdopted s size seen name ps)
          (adopted_among size seen t.groups.items name ps)
      adopted_lost s q first = of_found (find (is_adopted name ps) t.groups.items) refl
        where
          none_lost_of : find (is_adopted name ps) t.groups.items ≡ None → (x : Loss)
              → LosesAdopted s size seen name ps x → ⊥
          none_lost_of e x (inl w) = none_left e w.0 w.2.metadata w.2.of w.2.named
          none_lost_of e x (inr (inl h)) = none_left e h.0 h.3.metadata h.3.of h.3.named
          none_lost_of e x (inr (inr h)) = none_unlike e h.0 h.1 h.2 h.4

          of_found : (o : Option Group) → find (is_adopted name ps) t.groups.items ≡ o
              → AreJust (LosesAdopted s size seen name ps) (adopted_of size seen ps o)
          of_found None e = none_lost (LosesAdopted s size seen name ps) (none_lost_of e)
          of_found (Some g) e =
              let at = found (is_adopted name ps) t.groups.items g e in
              group_lost g at.0 at.1 s q first
