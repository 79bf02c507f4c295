-- What a change leaves of the command's part is the part of what it leaves of the whole.
use Rattle.gm_changes.proofs.Common.{◌≡◌, ◌≢◌, ◌∙◌, inl, ℕ, ◌+◌, ◌-◌, ◌≤◌, ◌==◌, Bool, true, false, not, refl, sym, ap, ap₂, subst, List, Option, Some, None, filter, map, length, arith, unwrap_or, ne_eqb, same_label, Command, Label, Insert, Remove, Deactivate, Activate, Forget, Rebuild, Configure, Destroy, Lost, Advance, Adopt, Patch, Mirror, Component, IsOf, mirror_of, component_of, Has, put, put_all, without, without_all, Records, IsState, members, name, provider, same_is, filter-put, filter_swap, length-filter_le, Ascends-filter, found, NoMirror, NameTaken, MidTaken, Absent, ProviderTaken, CarriesMetadata, TooSmall, NotMember, DidTaken, Full, TooManyMirrors, SomeLost, LastActive, AlreadyInactive, NotInactive, NoneLost, Inactive, NotSynchronizing, LastSyncid, LastGenid, NothingGiven, NotAdoptable, WrongSize, NoMetadata, BeingFilled, BeyondEnd, advanced, new_mirror, first_component, spare, deactivated, freshened, activated, rebuilt, configured_mirror, configured, on_found, after, Seen, source_in, adopted_mirror, adopted, filter-put_all, adopted_on, adopted_mirror_is, name_of, providers_of, Changed, Makes, changed_by, IsGood, IsPartOf, IsPartToDecide, IsGoodButCount, is_asked, part_of, IsMade, LeavesPart, find_within, by_names, by_names_state, by_names_of, same_of, chosen, chosen_name, chosen_owner, part_is, is_state, whole_to_decide, not_at, named, filter-map}
use Rattle.gm_commands.specs.declared.command.Command.TheVariants as commands
use Rattle.gm_changes.proofs.MakesChange.{without_all-swap}
use Rattle.gm_changes.proofs.KeptComponents.{Keeps, keeps_configured, keeps_deactivated, keeps_freshened, keeps_where, put_mapped, where_of}

-- the test passes the mirror that the command names, and those whose components are on providers
-- that it names
record TakesIn (t : List ℕ → Bool) (c : Command) (s : Records) : Type 0 where
  name : (n : List ℕ) → name_of c ≡ Some n → t n ≡ true
  owners : (p : List ℕ) → Has (providers_of c) p → (k : Component) → Has s.components k
      → k.provider ≡ p → t k.mirror ≡ true

-- ---- what the command makes of the records of some names is what it makes of the whole, of them

module _ (t : List ℕ → Bool) (s : Records) (state : IsState s) where
  two : (ms : List Mirror) (ks : List Component) (r : Records)
      → ms ≡ filter (λ m. t m.name) r.mirrors → ks ≡ filter (λ k. t k.mirror) r.components
      → record { mirrors = ms; components = ks } ≡ by_names t r
  two ms ks r e f = ap₂ (λ a b. let p : Records = record { mirrors = a; components = b } in p) e f

  -- a record is put among the mirrors of these names
  puts_mirror : (m : Mirror) → t m.name ≡ true
      → put name m (by_names t s).mirrors ≡ filter (λ a. t a.name) (put name m s.mirrors)
  puts_mirror m e =
      sym (filter-put name (λ (a : Mirror). t a.name) m s.mirrors state.mirrors_in_order e
      (λ z h i. ap t i ∙ e))

  puts_component : (c : Command) → TakesIn t c s → (k : Component) → t k.mirror ≡ true
      → Has (providers_of c) k.provider
      → put provider k (by_names t s).components ≡ filter (λ j. t j.mirror)
      (put provider k s.components)
  puts_component c takes k e i =
      sym (filter-put provider (λ (j : Component). t j.mirror) k s.components
      state.components_in_order e (λ z h o. takes.owners k.provider i z h o))

  -- the mirror of a name that passes
  same_found : (n : List ℕ) → t n ≡ true → mirror_of (by_names t s) n ≡ mirror_of s n
  same_found n e = find_within (λ (m : Mirror). same_label m.name n)
      (λ (m : Mirror). t m.name) s.mirrors (λ m h u. ap t (same_is m.name n u) ∙ e)

  of_found : {X : Type 0} (o : Option X) (f g : X → Records)
      → ((x : X) → o ≡ Some x → f x ≡ by_names t (g x))
      → on_found o (by_names t s) f ≡ by_names t (on_found o s g)
  of_found None f g h = refl
  of_found (Some x) f g h = h x refl

  on_named : (n : List ℕ) → t n ≡ true → (f g : Mirror → Records)
      → ((m : Mirror) → mirror_of s n ≡ Some m → f m ≡ by_names t (g m))
      → on_found (mirror_of (by_names t s) n) (by_names t s) f
      ≡ by_names t (on_found (mirror_of s n) s g)
  on_named n e f g h = ap (λ o. on_found o (by_names t s) f) (same_found n e)
      ∙ of_found (mirror_of s n) f g h

  -- the found mirror has a name that passes
  found_passes : (n : List ℕ) → t n ≡ true → (m : Mirror) → mirror_of s n ≡ Some m → t m.name ≡ true
  found_passes n e m is = ap t (named s n m is).1 ∙ e

  -- a component on a provider that the command names is put in place of it
  module _ (c : Command) (takes : TakesIn t c s) (p : List ℕ) (named : Has (providers_of c) p) where
    same_at : component_of (by_names t s) p ≡ component_of s p
    same_at = find_within (λ (k : Component). same_label k.provider p)
        (λ (k : Component). t k.mirror) s.components
        (λ k h u. takes.owners p named k h (same_is k.provider p u))

    on_at : (f g : Component → Records)
        → ((k : Component) → component_of s p ≡ Some k → f k ≡ by_names t (g k))
        → on_found (component_of (by_names t s) p) (by_names t s) f
        ≡ by_names t (on_found (component_of s p) s g)
    on_at f g h = ap (λ o. on_found o (by_names t s) f) same_at ∙ of_found (component_of s p) f g h

    puts_at : (k k' : Component) → component_of s p ≡ Some k → k'.provider ≡ k.provider
        → k'.mirror ≡ k.mirror → put provider k' (by_names t s).components
        ≡ filter (λ j. t j.mirror) (put provider k' s.components)
    puts_at k k' at e f =
        let is = found (λ (j : Component). same_label j.provider p) s.components k at in
        let on : k.provider ≡ p = same_is k.provider p is.1 in
        puts_component c takes k' (ap t f ∙ takes.owners p named k is.0 on)
        (subst (λ (n : List ℕ). Has (providers_of c) n) (sym (e ∙ on)) named)

  -- components of a mirror are changed where they stand
  puts_mapped : (n : List ℕ) (f : Component → Component) → Keeps f
      → put_all provider (map f (members (by_names t s).components n)) (by_names t s).components
      ≡ filter (λ k. t k.mirror)
      (put_all provider (map f (members s.components n)) s.components)
  puts_mapped n f keeps =
      let own : List Component = (by_names t s).components in
      put_mapped n f keeps own
      (Ascends-filter (λ (k : Component). t k.mirror) provider s.components
      state.components_in_order)
      ∙ (sym (filter-map (where_of n f) (λ (k : Component). t k.mirror)
      (λ k. ap t ((keeps_where n f keeps).mirror k)) s.components)
      ∙ sym (ap (filter (λ (k : Component). t k.mirror))
      (put_mapped n f keeps s.components state.components_in_order)))

  -- a mirror counts a sync more, and its components are changed where they stand
  abbrev synced : Records → List ℕ → (ℕ → Component → Component) → Mirror → Records
  synced r n f m = record {
    mirrors = put name (record m { syncid = m.syncid + 1 }) r.mirrors;
    components = put_all provider (map (f (m.syncid + 1)) (members r.components n)) r.components;
  }

  one_sync : (n : List ℕ) → t n ≡ true → (f : ℕ → Component → Component)
      → ((syncid : ℕ) → Keeps (f syncid))
      → on_found (mirror_of (by_names t s) n) (by_names t s) (synced (by_names t s) n f)
      ≡ by_names t (on_found (mirror_of s n) s (synced s n f))
  one_sync n e f keeps =
      on_named n e (synced (by_names t s) n f) (synced s n f) (λ m is.
      two _ _ (synced s n f m)
      (puts_mirror (record m { syncid = m.syncid + 1 }) (found_passes n e m is))
      (puts_mapped n (f (m.syncid + 1)) (keeps (m.syncid + 1))))

  after_names : (x : Seen) (c : Command) → TakesIn t c s
      → after x c (by_names t s) ≡ by_names t (after x c s)
  after_names x (Label new) takes =
      let m : Mirror = new_mirror new (unwrap_or (x.size new.provider) 0) in
      let k : Component = first_component new (unwrap_or (x.size new.provider) 0) in
      let e : t new.name ≡ true = takes.name new.name refl in
      two _ _ (record { mirrors = put name m s.mirrors; components = put provider k s.components })
      (puts_mirror m e) (puts_component (Label new) takes k e (inl refl))
  after_names x (Insert new) takes =
      let e : t new.name ≡ true = takes.name new.name refl in
      on_named new.name e _ _ (λ m is.
      let k : Component = spare m new (unwrap_or (x.size new.provider) 0) in
      let u : t m.name ≡ true = found_passes new.name e m is in
      two _ _ (record {
        mirrors = put name (record m { all = m.all + 1 }) s.mirrors;
        components = put provider k s.components;
      })
      (puts_mirror (record m { all = m.all + 1 }) u)
      (puts_component (Insert new) takes k u (inl refl)))
  after_names x (Remove n p) takes =
      let e : t n ≡ true = takes.name n refl in
      on_named n e _ _ (λ m is.
      two _ _ (record {
        mirrors = put name (record m { all = m.all - 1 }) s.mirrors;
        components = without provider p s.components;
      })
      (puts_mirror (record m { all = m.all - 1 }) (found_passes n e m is))
      (filter_swap (λ (k : Component). not (same_label k.provider p))
      (λ (k : Component). t k.mirror) s.components))
  after_names x (Deactivate n p) takes =
      one_sync n (takes.name n refl) (λ i. deactivated i p) (λ i. keeps_deactivated i p)
  after_names x (Activate n p) takes =
      let c : Command = Activate n p in
      on_named n (takes.name n refl) _ _ (λ m is. on_at c takes p (inl refl) _ _ (λ k at.
      two _ _ (record {
        mirrors = s.mirrors;
        components = put provider (activated m k) s.components;
      }) refl
      (puts_at c takes p (inl refl) k (activated m k) at refl refl)))
  after_names x (Forget n) takes =
      let e : t n ≡ true = takes.name n refl in
      on_named n e _ _ (λ m is.
      let same : length (members (by_names t s).components n) ≡ length (members s.components n) =
      ap length (same_of t s n e) in
      two _ _ (record {
        mirrors = put name (record m { all = length (members s.components n) })
            s.mirrors;
        components = s.components;
      })
      (rw same (puts_mirror (record m { all = length (members s.components n) })
      (found_passes n e m is))) refl)
  after_names x (Rebuild n p) takes =
      let c : Command = Rebuild n p in
      on_at c takes p (inl refl) _ _ (λ k at.
      two _ _ (record { mirrors = s.mirrors; components = put provider (rebuilt k) s.components })
      refl (puts_at c takes p (inl refl) k (rebuilt k) at refl refl))
  after_names x (Configure n settings) takes =
      let e : t n ≡ true = takes.name n refl in
      on_named n e _ _ (λ m is.
      two _ _ (record {
        mirrors = put name (configured_mirror settings m) s.mirrors;
        components =
            put_all provider (map (configured settings) (members s.components n)) s.components;
      })
      (puts_mirror (configured_mirror settings m) (found_passes n e m is))
      (puts_mapped n (configured settings) (keeps_configured settings)))
  after_names x (commands.Clear p) takes = refl
  after_names x (Destroy n) takes =
      two _ _ (record {
        mirrors = without name n s.mirrors;
        components = filter (λ k. not (same_label k.mirror n)) s.components;
      })
      (filter_swap (λ (m : Mirror). not (same_label m.name n)) (λ (m : Mirror). t m.name) s.mirrors)
      (filter_swap (λ (k : Component). not (same_label k.mirror n))
      (λ (k : Component). t k.mirror) s.components)
  after_names x (Lost n ps) takes =
      let e : t n ≡ true = takes.name n refl in
      on_named n e _ _ (λ m is.
      two _ _ (record {
        mirrors = put name (record m { genid = m.genid + 1 }) s.mirrors;
        components = without_all provider ps s.components;
      })
      (puts_mirror (record m { genid = m.genid + 1 }) (found_passes n e m is))
      (without_all-swap ps (λ (k : Component). t k.mirror) s.components))
  after_names x (Advance n p) takes =
      let c : Command = Advance n p in
      on_named n (takes.name n refl) _ _ (λ m is. on_at c takes p (inl refl) _ _ (λ k at.
      two _ _ (record {
        mirrors = s.mirrors;
        components = put provider (advanced m k) s.components;
      }) refl
      (puts_at c takes p (inl refl) k (advanced m k) at refl refl)))
  after_names x (Patch n first sectors) takes =
      one_sync n (takes.name n refl) freshened keeps_freshened
  after_names x (Adopt n ps) takes =
      let e : t n ≡ true = takes.name n refl in
      of_found (source_in x ps) _ _ (λ b from.
      let ks : List Component = adopted x n ps b in
      let mine : (k : Component) → Has ks k → t k.mirror ≡ true =
      λ k h. ap t (adopted_mirror_is x n ps b k h) ∙ e in
      let owned : (k j : Component) → Has ks k → Has s.components j → j.provider ≡ k.provider
      → t j.mirror ≡ true =
      λ k j h i o. takes.owners k.provider (adopted_on x n ps b k h) j i o in
      two _ _ (record {
        mirrors = put name (adopted_mirror n b.metadata) s.mirrors;
        components = put_all provider ks s.components;
      })
      (puts_mirror (adopted_mirror n b.metadata) e)
      (sym (filter-put_all provider (λ (k : Component). t k.mirror) ks s.components
      state.components_in_order mine owned)))

-- ---- so of a part

module _ (part s : Records) (c : Command) (of : IsPartOf part c s) where
  abbrev passes : List ℕ → Bool
  passes = chosen s c of.mids of.state

  takes_in : TakesIn passes c s
  takes_in = record {
    name = chosen_name s c of.mids of.state;
    owners = chosen_owner s c of.mids of.state;
  }

  part_state : IsState part
  part_state = subst IsState (sym of.is) (is_state s c of.mids of.state)

  follows : (x : Seen) (ch : Changed) → Makes part x c ch → Makes s x c ch
      → changed_by ch part ≡ by_names passes (changed_by ch s)
  follows x ch p w =
      p.records ∙ (ap (after x c) (of.is ∙ part_is s c of.mids of.state)
      ∙ (after_names passes s of.state x c takes_in ∙ ap (by_names passes) (sym w.records)))

  pub leaves_part : (x : Seen) (ch : Changed) → Makes part x c ch → Makes s x c ch
      → LeavesPart part c s ch
  leaves_part x ch p w =
      let is : by_names passes (changed_by ch s) ≡ changed_by ch part = sym (follows x ch p w) in
      record {
        state = λ state. subst IsState is (by_names_state passes (changed_by ch s) state);
        own = λ m k o e. subst (λ (r : Records). IsOf r m k) is
            (by_names_of passes (changed_by ch s) m k o
            (chosen_name s c of.mids of.state m.name e));
      }

  -- ---- what nothing refuses on the whole, nothing refuses on the part

  few : (length s.mirrors == 64) ≡ false → (length part.mirrors == 64) ≡ false
  few e =
      let less : length (part_of s c of.mids).mirrors ≤ length s.mirrors =
      length-filter_le (is_asked s c of.mids) s.mirrors in
      let fewer : length part.mirrors ≤ length s.mirrors =
      subst (λ (r : Records). length r.mirrors ≤ length s.mirrors) (sym of.is) less in
      let most : length s.mirrors ≤ 64 = of.state.count in
      let apart : length s.mirrors ≢ 64 = not_at (length s.mirrors) 64 e in
      let other : length part.mirrors ≢ 64 = omega arith in
      ne_eqb (length part.mirrors) 64 other

  good_part : (x : Seen) → IsGoodButCount part x c → IsGood s x c → IsGood part x c
  good_part x but good TooManyMirrors h = few (good TooManyMirrors h)
  good_part x but good NoMirror h = but NoMirror h refl
  good_part x but good NameTaken h = but NameTaken h refl
  good_part x but good MidTaken h = but MidTaken h refl
  good_part x but good Absent h = but Absent h refl
  good_part x but good ProviderTaken h = but ProviderTaken h refl
  good_part x but good CarriesMetadata h = but CarriesMetadata h refl
  good_part x but good TooSmall h = but TooSmall h refl
  good_part x but good NotMember h = but NotMember h refl
  good_part x but good DidTaken h = but DidTaken h refl
  good_part x but good Full h = but Full h refl
  good_part x but good SomeLost h = but SomeLost h refl
  good_part x but good LastActive h = but LastActive h refl
  good_part x but good AlreadyInactive h = but AlreadyInactive h refl
  good_part x but good NotInactive h = but NotInactive h refl
  good_part x but good NoneLost h = but NoneLost h refl
  good_part x but good Inactive h = but Inactive h refl
  good_part x but good NotSynchronizing h = but NotSynchronizing h refl
  good_part x but good LastSyncid h = but LastSyncid h refl
  good_part x but good LastGenid h = but LastGenid h refl
  good_part x but good NothingGiven h = but NothingGiven h refl
  good_part x but good NotAdoptable h = but NotAdoptable h refl
  good_part x but good WrongSize h = but WrongSize h refl
  good_part x but good NoMetadata h = but NoMetadata h refl
  good_part x but good BeingFilled h = but BeingFilled h refl
  good_part x but good BeyondEnd h = but BeyondEnd h refl

pub made_leaves : (part s : Records) (x : Seen) (c : Command) → IsPartToDecide part x c s
    → (ch : Changed) → IsMade part x c ch → IsGoodButCount part x c → IsGood s x c
    → LeavesPart part c s ch
made_leaves part s x c to ch made but good =
    leaves_part part s c to.of x ch
    (made part (whole_to_decide part x c (part_state part s c to.of))
    (good_part part s c to.of x but good)) (made s to good)
