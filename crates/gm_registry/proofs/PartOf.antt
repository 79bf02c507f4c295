-- What is asked for, and found by keys, is the part of the records that a command asks for.
use Rattle.gm_registry.proofs.Common.{◌≡◌, ◌∙◌, inl, inr, ℕ, Bool, true, false, ◌||◌, List, [], ◌∷◌, ◌++◌, map, filter, flat_map, refl, sym, ap, subst, IsPermutation, list_any, cases_Bool, IsPermutation-refl, IsPermutation-trans, IsPermutation-sym, IsPermutation-cons, IsPermutation-middle, IsPermutation-append_right, list_any-IsPermutation, IsPermutation-filter, IsPermutation-flat_map, same_label, Component, Mirror, Records, IsState, IsStateOf, name, Has, Ascends, label_lt, some_any, same_is, lt_irrefl, Ascends-filter, providers_of, is_called, is_asked, part_of, under, is_asked_by, Provider}
use Rattle.std.proofs.lemmas.List.Folds.{list_any-append, flat_map-map}
use Rattle.gm_commands.specs.declared.command.Command.{Command}
use Rattle.gm_lists.proofs.Finding.{filter_agree}
use Rattle.gm_registry.specs.declared.components_by_key.Key.TheVariants.{Mirror as OfMirror}

-- ---- tests of lists

-- no element passes a test that always fails
none_passes : {Y : Type 0} (ys : List Y) → list_any (λ (y : Y). false) ys ≡ false
none_passes [] = refl
none_passes (y ∷ ys) = none_passes ys

-- some element passes one of two tests
one_or_more : {Y : Type 0} (r f : Y → Bool) (ys : List Y)
    → list_any (λ y. r y || f y) ys ≡ (list_any r ys || list_any f ys)
one_or_more r f [] = refl
one_or_more r f (y ∷ ys) =
    let more = one_or_more r f ys in
    elim (cases_Bool (r y)) [
      | inl a ↦ rw a refl
      | inr a ↦ elim (cases_Bool (f y)) [
        | inl b ↦ elim (cases_Bool (list_any r ys)) [
          | inl d ↦ rw (a, b, d) refl
          | inr d
              ↦ rw (a, b, d) refl
        ]
        | inr b ↦ rw (a, b) more
      ]
    ]

module _ {Y : Type 0} (q : Y → Bool) where
  -- that some element passes two tests doesn't depend on which is made first
  either_first : (r : Y → Bool) (ys : List Y) → list_any q (filter r ys) ≡ list_any r (filter q ys)
  either_first r [] = refl
  either_first r (y ∷ ys) =
      let more = either_first r ys in
      elim (cases_Bool (q y)) [
        | inl a ↦ elim (cases_Bool (r y)) [ inl b ↦ rw (a, b, a) refl | inr b ↦ rw (a, b) more ]
        | inr a ↦ elim (cases_Bool (r y)) [ inl b ↦ rw (a, b, a) more | inr b ↦ rw (a, b) more ]
      ]

  -- some element of those that are found of each key passes
  any_found : {X : Type 0} (r : X → Y → Bool) (ys : List Y) (xs : List X)
      → list_any q (flat_map (λ x. filter (r x) ys) xs) ≡ list_any (λ y. list_any (λ x. r x y) xs)
      (filter q ys)
  any_found r ys [] = sym (none_passes (filter q ys))
  any_found r ys (x ∷ xs) =
      list_any-append q (filter (r x) ys) (flat_map (λ z. filter (r z) ys) xs)
      ∙ ((λ i. either_first (r x) ys i || any_found r ys xs i)
      ∙ sym (one_or_more (r x) (λ y. list_any (λ z. r z y) xs) (filter q ys)))

-- ---- lists in parts

-- what passes one of two tests, if nothing passes both
filter_either : {Y : Type 0} (p f : Y → Bool) → ((y : Y) → p y ≡ true → f y ≡ false) → (ys : List Y)
    → IsPermutation (filter (λ y. p y || f y) ys) (filter p ys ++ filter f ys)
filter_either p f apart [] = IsPermutation-refl []
filter_either p f apart (y ∷ ys) =
    let more = filter_either p f apart ys in
    elim (cases_Bool (p y)) [
      | inl a ↦ (let b : f y ≡ false = apart y a in rw (a, b) (IsPermutation-cons y _ _ more))
      | inr a ↦ elim (cases_Bool (f y)) [
        | inl b ↦ rw (a, b) (IsPermutation-trans _ _ _ (IsPermutation-cons y _ _ more)
            (IsPermutation-sym _ _ (IsPermutation-middle (filter p ys) y (filter f ys))))
        | inr b ↦ rw (a, b) more
      ]
    ]

none_left : {Y : Type 0} (ys : List Y) → filter (λ (y : Y). false) ys ≡ []
none_left [] = refl
none_left (y ∷ ys) = none_left ys

abbrev is_of : Mirror → Component → Bool
is_of m k = same_label k.mirror m.name

-- a component of one mirror is of none after it
apart : (m : Mirror) (ms : List Mirror) → ((n : Mirror) → Has ms n → label_lt m.name n.name ≡ true)
    → (k : Component) → is_of m k ≡ true → list_any (λ n. is_of n k) ms ≡ false
apart m ms before k mine =
    elim (cases_Bool (list_any (λ n. is_of n k) ms)) [
      | inl some ↦ (let it = some_any (λ n. is_of n k) ms some in
          let same : m.name ≡ it.0.name = sym (same_is k.mirror m.name mine)
          ∙ same_is k.mirror it.0.name it.2 in
          absurd (lt_irrefl it.0.name (subst (λ n. label_lt n it.0.name ≡ true) same
          (before it.0 it.1))))
      | inr none ↦ none
    ]

-- the components of mirrors, mirror by mirror
by_mirror : (ms : List Mirror) (ks : List Component) → Ascends name ms
    → IsPermutation (filter (λ k. list_any (λ m. is_of m k) ms) ks)
    (flat_map (λ m. filter (is_of m) ks) ms)
by_mirror [] ks up = subst (λ l. IsPermutation l []) (sym (none_left ks)) (IsPermutation-refl [])
by_mirror (m ∷ ms) ks up =
    IsPermutation-trans _ _ _ (filter_either (is_of m) (λ k. list_any (λ n. is_of n k) ms)
    (apart m ms up.0) ks)
    (IsPermutation-append_right (filter (is_of m) ks) _ _ (by_mirror ms ks up.1))

-- ---- the part

module _ (s : Records) (c : Command) (mids : List ℕ) (state : IsState s) where
  abbrev kept : List Mirror
  kept = filter (is_asked s c mids) s.mirrors

  module _ (named : List Component)
      (on : IsPermutation (flat_map (under Provider s.components) (providers_of c)) named) where
    -- by the components on named providers a mirror is asked for as by all
    asked_alike : (m : Mirror) → is_asked s c mids m ≡ is_asked_by c mids named m
    asked_alike m =
        ap (λ b. is_called c mids m || b)
        (sym (any_found (λ (k : Component). is_of m k)
        (λ p (k : Component). same_label k.provider p) s.components (providers_of c))
        ∙ list_any-IsPermutation (λ (k : Component). is_of m k) _ named on)

    pub mirrors_asked : (all : List Mirror) → IsPermutation s.mirrors all
        → IsPermutation kept (filter (is_asked_by c mids named) all)
    mirrors_asked all same =
        subst (IsPermutation kept) (filter_agree (is_asked s c mids) (is_asked_by c mids named) all
        (λ m has. asked_alike m)) (IsPermutation-filter (is_asked s c mids) s.mirrors all same)

  pub components_asked : (asked : List Mirror) (ks : List Component) → IsPermutation kept asked
      → IsPermutation (flat_map (under OfMirror s.components) (map name asked)) ks
      → IsPermutation (part_of s c mids).components ks
  components_asked asked ks same found =
      let up = Ascends-filter (is_asked s c mids) name s.mirrors state.mirrors_in_order in
      let moved = IsPermutation-flat_map (λ (m : Mirror). filter (is_of m) s.components) kept asked
      same in
      IsPermutation-trans _ _ _ (by_mirror kept s.components up)
      (IsPermutation-trans _ _ _ moved (subst (λ l. IsPermutation l ks)
      (flat_map-map (under OfMirror s.components) name asked) found))

  -- these records are those of the part, in some order
  pub is_part : (ms : List Mirror) (ks : List Component) → IsState (part_of s c mids)
      → IsPermutation kept ms → IsPermutation (part_of s c mids).components ks
      → IsStateOf ms ks (part_of s c mids)
  is_part ms ks is mine theirs = record {
    state = is;
    mirrors_are = IsPermutation-sym _ _ mine;
    components_are = IsPermutation-sym _ _ theirs;
  }
