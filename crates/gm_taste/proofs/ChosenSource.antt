-- The member that was chosen is the source.
use Rattle.gm_taste.proofs.Common.{◌≡◌, ◌∙◌, ◌⊎◌, inl, inr, ⊎_elim, ℕ, ◌<◌, Bool, true, false, ◌||◌, ◌&&◌, ◌==◌, nat_lt, refl, sym, ap, subst, arith, List, [], ◌∷◌, Option, Some, None, cases_Bool, nat_tests, Member, label_lt, Has, is_active, GoesFirst, IsFirst, goes_before, takes_place, first_of_two, first_from, lt_trans, lt_irrefl}

not_less : (a : List ℕ) → label_lt a a ≡ false
not_less a = ⊎_elim (λ (e : label_lt a a ≡ true). absurd (lt_irrefl a e))
    (λ (e : label_lt a a ≡ false). e) (cases_Bool (label_lt a a))

first_itself : (a : Member) → GoesFirst a a
first_itself a = inr (refl, not_less a.provider)

-- ---- two members, by their priorities and what the test of their names told

before_by : (p q : ℕ) (l : Bool) → (nat_lt q p || (p == q && l)) ≡ true
    → (q < p) ⊎ ((p ≡ q) × (l ≡ true))
before_by p q true e =
    elim (cases_Bool (nat_lt q p)) [
      | inl less ↦ inl (grind (arith, nat_tests))
      | inr not_less
          ↦ inr (grind (arith, nat_tests))
    ]
before_by p q false e = inl (grind (arith, nat_tests))

after_by : (p q : ℕ) (l : Bool) → (nat_lt q p || (p == q && l)) ≡ false
    → (p < q) ⊎ ((p ≡ q) × (l ≡ false))
after_by p q true e = inl (grind (arith, nat_tests))
after_by p q false e =
    elim (cases_Bool (nat_lt p q)) [
      | inl less ↦ inl (grind (arith, nat_tests))
      | inr not_less
          ↦ inr (grind (arith, nat_tests))
    ]

-- one that doesn't go before the first so far leaves that first
stays_first : (x known : Member) → goes_before x known ≡ false → GoesFirst known x
stays_first x known e =
    after_by x.metadata.priority known.metadata.priority (label_lt x.provider known.provider) e

-- a name that isn't before b isn't before x, if x is before b
not_before : (x b j : List ℕ) → label_lt x b ≡ true → label_lt j b ≡ false → label_lt j x ≡ false
not_before x b j less not_less =
    ⊎_elim (λ (e : label_lt j x ≡ true). let through :
    label_lt j b ≡ true = lt_trans j x b e less in
    let both : true ≡ false = sym through ∙ not_less in
    cc) (λ (e : label_lt j x ≡ false). e) (cases_Bool (label_lt j x))

-- one that goes before the first so far goes before all
goes_through : (x known j : Member) → goes_before x known ≡ true → GoesFirst known j → GoesFirst x j
goes_through x known j e first =
    ⊎_elim
    (λ (less : known.metadata.priority < x.metadata.priority).
    ⊎_elim (λ (l : j.metadata.priority < known.metadata.priority). inl (omega arith))
    (λ (s : (j.metadata.priority ≡ known.metadata.priority)
    × (label_lt j.provider known.provider ≡ false)).
    inl (omega (arith, s.0))) first)
    (λ (same : (x.metadata.priority ≡ known.metadata.priority)
    × (label_lt x.provider known.provider ≡ true)).
    ⊎_elim (λ (l : j.metadata.priority < known.metadata.priority). inl (omega (arith, same.0)))
    (λ (s : (j.metadata.priority ≡ known.metadata.priority)
    × (label_lt j.provider known.provider ≡ false)).
    inr (s.0 ∙ sym same.0, not_before x.provider known.provider j.provider same.1 s.1)) first)
    (before_by x.metadata.priority known.metadata.priority (label_lt x.provider known.provider) e)

-- ---- the first of all

both : (a b : Bool) → (a && b) ≡ true → (a ≡ true) × (b ≡ true)
both true b e = (refl, e)
both false b e = cc

-- an ACTIVE one that takes no place isn't before the first
not_both : (a b : Bool) → (a && b) ≡ false → a ≡ true → b ≡ false
not_both true b e t = e
not_both false b e t = cc

module _ (P : Member → Type 0) (x : Member) where
  abbrev With : Member → Type 0
  With j = P j ⊎ (x ≡ j)

  taken : (known : Option Member) → takes_place known x ≡ true → IsFirst P known
      → IsFirst With (Some x)
  taken None e none = (
    inr refl,
    e,
    λ j of active. ⊎_elim (λ (p : P j). absurd (none j p active))
        (λ (s : x ≡ j). subst (GoesFirst x) s (first_itself x)) of,
  )
  taken (Some known) e first =
      let t = both (is_active x.state) (goes_before x known) e in (
        inr refl,
        t.0,
        λ j of active. ⊎_elim (λ (p : P j). goes_through x known j t.1 (first.2 j p active))
            (λ (s : x ≡ j). subst (GoesFirst x) s (first_itself x)) of,
      )

  kept : (known : Option Member) → takes_place known x ≡ false → IsFirst P known
      → IsFirst With known
  kept None e none =
      λ j of active. ⊎_elim (λ (p : P j). none j p active) (λ (s : x ≡ j). let is :
      is_active x.state ≡ true = ap (λ (y : Member). is_active y.state) s ∙ active in
      let no : true ≡ false = sym is ∙ e in cc) of
  kept (Some known) e first = (
    inl first.0,
    first.1,
    λ j of active. ⊎_elim (λ (p : P j). first.2 j p active)
        (λ (s : x ≡ j). subst (GoesFirst known) s
        (stays_first x known (not_both (is_active x.state) (goes_before x known) e
        (ap (λ (y : Member). is_active y.state) s ∙ active)))) of,
  )

  one_more : (known : Option Member) → IsFirst P known → IsFirst With (first_of_two known x)
  one_more known first =
      elim (cases_Bool (takes_place known x)) [
        | inl e ↦ rw e (taken known e first)
        | inr e
            ↦ rw e (kept known e first)
      ]

-- what is meant may be said otherwise
first_as : (P Q : Member → Type 0) (o : Option Member) → ((j : Member) → P j → Q j)
    → ((j : Member) → Q j → P j) → IsFirst P o → IsFirst Q o
first_as P Q None to from none = λ j q active. none j (from j q) active
first_as P Q (Some b) to from first =
    (to b first.0, first.1, λ j q active. first.2 j (from j q) active)

all_first : (P : Member → Type 0) (known : Option Member) (xs : List Member) → IsFirst P known
    → IsFirst (λ j. P j ⊎ Has xs j) (first_from known xs)
all_first P known [] first =
    first_as P (λ j. P j ⊎ ⊥) known (λ j p. inl p)
    (λ j of. ⊎_elim (λ (p : P j). p) (λ (k : ⊥). absurd k) of) first
all_first P known (x ∷ xs) first =
    first_as (λ j. (P j ⊎ (x ≡ j)) ⊎ Has xs j) (λ j. P j ⊎ ((x ≡ j) ⊎ Has xs j))
    (first_from (first_of_two known x) xs)
    (λ j of. ⊎_elim (λ (w : P j ⊎ (x ≡ j)). ⊎_elim (λ (p : P j). inl p)
    (λ (s : x ≡ j). inr (inl s)) w) (λ (h : Has xs j). inr (inr h)) of)
    (λ j of. ⊎_elim (λ (p : P j). inl (inl p)) (λ (w : (x ≡ j) ⊎ Has xs j).
    ⊎_elim (λ (s : x ≡ j). inl (inr s)) (λ (h : Has xs j). inr h) w) of)
    (all_first (λ j. P j ⊎ (x ≡ j)) (first_of_two known x) xs (one_more P x known first))

pub first_of_all : (xs : List Member) → IsFirst (Has xs) (first_from None xs)
first_of_all xs =
    first_as (λ j. ⊥ ⊎ Has xs j) (Has xs) (first_from None xs)
    (λ j of. ⊎_elim (λ (k : ⊥). absurd k) (λ (h : Has xs j). h) of) (λ j h. inr h)
    (all_first (λ j. ⊥) None xs (λ j k active. k))
