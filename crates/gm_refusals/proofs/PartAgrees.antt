-- What a command asks for is found in its part as in the whole state.
use Rattle.gm_refusals.proofs.Common.{◌≡◌, ◌∙◌, inl, inr, ℕ, ◌≤◌, ◌==◌, ◌||◌, Bool, true, false, refl, sym, ap, ap₂, subst, List, [], ◌∷◌, Option, Some, None, filter, find, map, length, is_none, is_some, arith, ◌++◌, list_any, option_map_or, cases_Bool, or_left, or_right, same_label, Command, Mirror, Component, Has, Records, IsState, members, name, provider, IsOf, mirror_of, component_of, same_from, same_is, same_refl, Has-filter, filter-Has, Ascends-filter, any_from, some_any, any_agree, filter_agree, not_both, map-Has, Refusal, NoMirror, NameTaken, MidTaken, Absent, ProviderTaken, CarriesMetadata, TooSmall, NotMember, DidTaken, Full, TooManyMirrors, SomeLost, LastActive, AlreadyInactive, NotInactive, NoneLost, Inactive, NotSynchronizing, LastSyncid, LastGenid, NothingGiven, NotAdoptable, WrongSize, NoMetadata, BeingFilled, BeyondEnd, Seen, applies, name_of, providers_of, has_mid, takes_mid, is_member_of, members_named, mirror_named, looked_at, is_awaited, is_named, is_asked, with_components, part_of, IsPartOf, IsPartToDecide, applies_to_part, needed_by}
use Rattle.std.proofs.Common.{eq-eqb}
use Rattle.std.specs.Prelude.{option_and_then}
use Rattle.gm_lists.proofs.Putting.{filter_id, length-filter_le, one}

-- ---- lists of which the rest was left out

-- if all that passes one test passes another
module _ {X : Type 0} (p q : X → Bool) where
  filter_within : (xs : List X) → ((x : X) → Has xs x → p x ≡ true → q x ≡ true)
      → filter p (filter q xs) ≡ filter p xs
  filter_within [] h = refl
  filter_within (x ∷ xs) h =
      let rest : filter p (filter q xs) ≡ filter p xs = filter_within xs (λ y k. h y (inr k)) in
      elim (cases_Bool (p x)) [
        | inl t ↦ (let u : q x ≡ true = h x (inl refl) t in rw (u, t) (ap (λ ys. x ∷ ys) rest))
        | inr t ↦ elim (cases_Bool (q x)) [ inl u ↦ rw (u, t) rest | inr u ↦ rw (u, t) rest ]
      ]

  pub find_within : (xs : List X) → ((x : X) → Has xs x → p x ≡ true → q x ≡ true)
      → find p (filter q xs) ≡ find p xs
  find_within [] h = refl
  find_within (x ∷ xs) h =
      let rest : find p (filter q xs) ≡ find p xs = find_within xs (λ y k. h y (inr k)) in
      elim (cases_Bool (p x)) [
        | inl t ↦ (let u : q x ≡ true = h x (inl refl) t in rw (u, t) refl)
        | inr t ↦ elim (cases_Bool (q x)) [ inl u ↦ rw (u, t) rest | inr u ↦ rw (u, t) rest ]
      ]

  any_within : (xs : List X) → ((x : X) → Has xs x → p x ≡ true → q x ≡ true)
      → list_any p (filter q xs) ≡ list_any p xs
  any_within [] h = refl
  any_within (x ∷ xs) h =
      let rest : list_any p (filter q xs) ≡ list_any p xs = any_within xs (λ y k. h y (inr k)) in
      elim (cases_Bool (q x)) [
        | inl u ↦ rw u (ap (λ b. p x || b) rest)
        | inr u ↦ elim (cases_Bool (p x)) [
          | inl t ↦ absurd (let both : true ≡ false = sym (h x (inl refl) t) ∙ u in
              let f : ⊥ = cc in f)
          | inr t ↦ rw (u, t) rest
        ]
      ]

-- nothing passes a test that always fails
no_one : {X : Type 0} (xs : List X) → filter (λ x. false) xs ≡ []
no_one [] = refl
no_one (x ∷ xs) = no_one xs

-- ---- the records of the mirrors whose names pass a test

module _ (t : List ℕ → Bool) (s : Records) where
  abbrev pub by_names : Records
  by_names = record {
    mirrors = filter (λ m. t m.name) s.mirrors;
    components = filter (λ k. t k.mirror) s.components;
  }

  -- with each of them its components
  pub same_of : (n : List ℕ) → t n ≡ true → members by_names.components n ≡ members s.components n
  same_of n e = filter_within (λ (k : Component). same_label k.mirror n)
      (λ (k : Component). t k.mirror) s.components (λ k h u. rw (same_is k.mirror n u) e)

  pub by_names_of : (m : Mirror) (k : Component) → IsOf s m k → t m.name ≡ true → IsOf by_names m k
  by_names_of m k o e = record {
    mirror = filter-Has (λ (a : Mirror). t a.name) s.mirrors m o.mirror e;
    component = rw (same_of m.name e) o.component;
  }

  pub by_names_state : IsState s → IsState by_names
  by_names_state state = record {
    mirrors_in_order =
        Ascends-filter (λ (m : Mirror). t m.name) name s.mirrors state.mirrors_in_order;
    components_in_order =
        Ascends-filter (λ (k : Component). t k.mirror) provider s.components
        state.components_in_order;
    count = (let less : length by_names.mirrors ≤ length s.mirrors = length-filter_le
        (λ (m : Mirror). t m.name) s.mirrors in let most : length s.mirrors ≤ 64 = state.count in
        omega arith);
    each = λ m h.
        let r = Has-filter (λ (a : Mirror). t a.name) s.mirrors m h in
        rw (same_of m.name r.1) (state.each m r.0);
    mids = λ a b h k e. state.mids a b (Has-filter (λ (m : Mirror). t m.name) s.mirrors a h).0
        (Has-filter (λ (m : Mirror). t m.name) s.mirrors b k).0 e;
    homes = λ k h.
        let r = Has-filter (λ (j : Component). t j.mirror) s.components k h in
        let home = state.homes k r.0 in (
          home.0,
          filter-Has (λ (m : Mirror). t m.name) s.mirrors home.0 home.1 (rw home.2 r.1),
          home.2,
        );
  }

-- ---- what the command asks for

module _ (s : Records) (c : Command) (mids : List ℕ) (state : IsState s) where
  abbrev kept : List Mirror
  kept = filter (is_asked s c mids) s.mirrors

  abbrev is_kept : Component → Bool
  is_kept k = list_any (λ m. same_label k.mirror m.name) kept

  -- a component of a mirror that is asked for is kept
  keeps : (k : Component) (m : Mirror) → Has s.mirrors m → m.name ≡ k.mirror
      → is_asked s c mids m ≡ true → is_kept k ≡ true
  keeps k m h e asked =
      any_from (λ (a : Mirror). same_label k.mirror a.name) kept m
      (filter-Has (is_asked s c mids) s.mirrors m h asked) (same_from k.mirror m.name (sym e))

  asked_name : (n : List ℕ) → name_of c ≡ Some n → (m : Mirror) → m.name ≡ n
      → is_asked s c mids m ≡ true
  asked_name n e m is =
      let named : is_named c m ≡ true = rw e (same_from m.name n is) in
      or_left _ _ (or_left _ _ (or_left (is_named c m) (has_mid c m) named))

  asked_provider : (p : List ℕ) → Has (providers_of c) p → (k : Component) → Has s.components k
      → k.provider ≡ p → (m : Mirror) → m.name ≡ k.mirror → is_asked s c mids m ≡ true
  asked_provider p h k there e m home =
      let on : list_any (λ q. same_label k.provider q) (providers_of c) ≡ true =
      any_from (λ (q : List ℕ). same_label k.provider q) (providers_of c) p h
      (same_from k.provider p e) in
      let of : Has (members s.components m.name) k =
      filter-Has (λ (j : Component). same_label j.mirror m.name) s.components k there
      (same_from k.mirror m.name (sym home)) in
      or_right _ _
      (any_from (λ (j : Component). list_any (λ q. same_label j.provider q) (providers_of c))
      (members s.components m.name) k of on)

  -- ---- is found in the part as in the whole

  pub same_mirror : (n : List ℕ) → name_of c ≡ Some n
      → mirror_of (part_of s c mids) n ≡ mirror_of s n
  same_mirror n e =
      find_within (λ (m : Mirror). same_label m.name n) (is_asked s c mids) s.mirrors
      (λ m h t. asked_name n e m (same_is m.name n t))

  pub same_members : (n : List ℕ) → name_of c ≡ Some n
      → members (part_of s c mids).components n ≡ members s.components n
  same_members n e =
      filter_within (λ (k : Component). same_label k.mirror n) is_kept s.components (λ k h t.
      let home = state.homes k h in
      keeps k home.0 home.1 home.2 (asked_name n e home.0 (home.2 ∙ same_is k.mirror n t)))

  pub same_component : (p : List ℕ) → Has (providers_of c) p
      → component_of (part_of s c mids) p ≡ component_of s p
  same_component p i =
      find_within (λ (k : Component). same_label k.provider p) is_kept s.components (λ k h t.
      let home = state.homes k h in
      keeps k home.0 home.1 home.2 (asked_provider p i k h (same_is k.provider p t) home.0 home.2))

  named_by : (o : Option (List ℕ)) → name_of c ≡ o
      → option_and_then (λ n. mirror_of (part_of s c mids) n) o
      ≡ option_and_then (λ n. mirror_of s n) o
  named_by None e = refl
  named_by (Some n) e = same_mirror n e

  same_named : mirror_named (part_of s c mids) c ≡ mirror_named s c
  same_named = named_by (name_of c) refl

  named_members_by : (o : Option (List ℕ)) → name_of c ≡ o
      → filter (λ k. is_member_of o k) (part_of s c mids).components
      ≡ filter (λ k. is_member_of o k) s.components
  named_members_by None e = no_one (part_of s c mids).components ∙ sym (no_one s.components)
  named_members_by (Some n) e = same_members n e

  pub same_named_members : members_named (part_of s c mids) c ≡ members_named s c
  same_named_members = named_members_by (name_of c) refl

  -- so each refusal applies to the part exactly when it applies to the whole, but for the one that
  -- asks for the count
  pub same_applies : (count : ℕ) → count ≡ length s.mirrors → (x : Seen)
      → ((m : Mirror) → Has s.mirrors m → takes_mid x c m ≡ true → Has (part_of s c mids).mirrors m)
      → (r : Refusal) → applies_to_part (part_of s c mids) count x c r ≡ applies s x c r
  same_applies count is x found NoMirror = ap is_none same_named
  same_applies count is x found NameTaken = ap is_some same_named
  same_applies count is x found MidTaken =
      any_within (takes_mid x c) (is_asked s c mids) s.mirrors
      (λ m h t. (Has-filter (is_asked s c mids) s.mirrors m (found m h t)).1)
  same_applies count is x found Absent = rw same_named_members refl
  same_applies count is x found ProviderTaken =
      any_agree _ _ (providers_of c) (λ p h. ap is_some (same_component p h))
  same_applies count is x found CarriesMetadata = refl
  same_applies count is x found TooSmall = rw same_named refl
  same_applies count is x found NotMember = rw same_named_members refl
  same_applies count is x found DidTaken = rw same_named_members refl
  same_applies count is x found Full = rw same_named refl
  same_applies count is x found TooManyMirrors = rw is refl
  same_applies count is x found SomeLost = rw (same_named_members, same_named) refl
  same_applies count is x found LastActive = rw same_named_members refl
  same_applies count is x found AlreadyInactive = rw same_named_members refl
  same_applies count is x found NotInactive = rw same_named_members refl
  same_applies count is x found NoneLost = rw (same_named_members, same_named) refl
  same_applies count is x found Inactive = rw same_named_members refl
  same_applies count is x found NotSynchronizing = rw (same_named_members, same_named) refl
  same_applies count is x found LastSyncid = rw same_named refl
  same_applies count is x found LastGenid = rw same_named refl
  same_applies count is x found NothingGiven = refl
  same_applies count is x found NotAdoptable = refl
  same_applies count is x found WrongSize = refl
  same_applies count is x found NoMetadata = refl
  same_applies count is x found BeingFilled = rw same_named_members refl
  same_applies count is x found BeyondEnd = rw same_named refl

  -- ---- the part has the mirrors of these names, and is a state

  -- a mirror that the command names, or one that is kept
  abbrev pub chosen : List ℕ → Bool
  chosen n = option_map_or (λ a. same_label n a) (name_of c) false || list_any
      (λ m. same_label n m.name) kept

  -- of a mirror's name there is one that is kept exactly when it is asked for
  kept_is : (n : List ℕ) (m : Mirror) → Has s.mirrors m → m.name ≡ n
      → list_any (λ a. same_label n a.name) kept ≡ is_asked s c mids m
  kept_is n m h e =
      elim (cases_Bool (is_asked s c mids m)) [
        | inl t ↦ any_from (λ (a : Mirror). same_label n a.name) kept m
            (filter-Has (is_asked s c mids) s.mirrors m h t) (same_from n m.name (sym e)) ∙ sym t
        | inr t ↦ elim (cases_Bool (list_any (λ a. same_label n a.name) kept)) [
          | inr u ↦ u ∙ sym t
          | inl u ↦
              let some = some_any (λ (a : Mirror). same_label n a.name) kept u in
              let r = Has-filter (is_asked s c mids) s.mirrors some.0 some.1 in
              let same : some.0 ≡ m = one name s.mirrors state.mirrors_in_order some.0 m r.0 h
              (sym (same_is n some.0.name some.2) ∙ sym e) in
              not_both (is_asked s c mids m) (sym (ap (is_asked s c mids) same) ∙ r.1) t
        ]
      ]

  chosen_is : (n : List ℕ) (m : Mirror) → Has s.mirrors m → m.name ≡ n
      → chosen n ≡ is_asked s c mids m
  chosen_is n m h e =
      elim (cases_Bool (is_named c m)) [
        | inl u ↦
            let named : option_map_or (λ a. same_label n a) (name_of c) false ≡ true = rw (← e) u in
            or_left _ _ named
            ∙ sym (or_left _ _ (or_left _ _ (or_left (is_named c m) (has_mid c m) u)))
        | inr u ↦
            let other : option_map_or (λ a. same_label n a) (name_of c) false ≡ false =
            rw (← e) u in
            ap (λ b. b || list_any (λ a. same_label n a.name) kept) other ∙ kept_is n m h e
      ]

  pub part_is : part_of s c mids ≡ by_names chosen s
  part_is =
      let ms : kept ≡ filter (λ m. chosen m.name) s.mirrors =
      filter_agree _ _ s.mirrors (λ m h. sym (chosen_is m.name m h refl)) in
      let ks : filter is_kept s.components ≡ filter (λ k. chosen k.mirror) s.components
      = filter_agree _ _ s.components (λ k h. let home = state.homes k h in
      kept_is k.mirror home.0 home.1 home.2 ∙ sym (chosen_is k.mirror home.0 home.1 home.2)) in
      ap₂ (λ l r. let p : Records = record { mirrors = l; components = r } in p) ms ks

  pub is_state : IsState (part_of s c mids)
  is_state = rw part_is (by_names_state chosen s state)

  -- the mirrors of the components on providers that the command names are chosen
  pub chosen_owner : (p : List ℕ) → Has (providers_of c) p → (k : Component) → Has s.components k
      → k.provider ≡ p → chosen k.mirror ≡ true
  chosen_owner p i k h e = let home = state.homes k h in
      chosen_is k.mirror home.0 home.1 home.2 ∙ asked_provider p i k h e home.0 home.2

  pub chosen_name : (n : List ℕ) → name_of c ≡ Some n → chosen n ≡ true
  chosen_name n e = let named : option_map_or (λ a. same_label n a) (name_of c) false
      ≡ true = rw e (same_refl n) in or_left _ _ named

-- ---- the whole is a part

pub whole_is_part : (s : Records) (c : Command) → IsState s → IsPartOf s c s
whole_is_part s c state =
    let mids : List ℕ = map (λ m. m.mid) s.mirrors in
    let asked : (m : Mirror) → Has s.mirrors m → is_asked s c mids m ≡ true = λ m h.
    or_left _ _ (or_right (is_named c m || has_mid c m) _
    (any_from (λ (i : ℕ). m.mid == i) mids m.mid (map-Has (λ (a : Mirror). a.mid) s.mirrors m h)
    (eq-eqb m.mid m.mid refl))) in
    let mirrors : filter (is_asked s c mids) s.mirrors ≡ s.mirrors =
    filter_id (is_asked s c mids) s.mirrors asked in
    let components : filter (λ k. list_any (λ m. same_label k.mirror m.name) s.mirrors) s.components
    ≡ s.components
    = filter_id _ s.components (λ k h. let home = state.homes k h in
    any_from (λ (m : Mirror). same_label k.mirror m.name) s.mirrors home.0 home.1
    (same_from k.mirror home.0.name (sym home.2))) in
    let is : s ≡ part_of s c mids =
    sym (ap (λ ms. with_components ms s.components) mirrors
    ∙ ap (λ ks. let r : Records = record { mirrors = s.mirrors; components = ks } in
    r) components) in
    record { state = state; mids = mids; is = is }

-- and serves to decide
pub whole_to_decide : (s : Records) (x : Seen) (c : Command) → IsState s → IsPartToDecide s x c s
whole_to_decide s x c state = record { of = whole_is_part s c state; found = λ m h e. h }

-- a part needs what the whole needs
pub needed_on : (part s : Records) (c : Command) → IsPartOf part c s
    → needed_by part c ≡ needed_by s c
needed_on part s c of =
    ap (λ (ks : List Component). looked_at c ++ map provider (filter (λ k. is_awaited c k) ks))
    (subst (λ (r : Records). members_named r c ≡ members_named s c) (sym of.is)
    (same_named_members s c of.mids of.state))
