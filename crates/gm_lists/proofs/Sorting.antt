-- Lists in strict order of names: what the test of neighbours tells, and that records have one such
-- order.
use Rattle.gm_lists.proofs.Common.{◌≡◌, ◌∙◌, inl, inr, ⊎_elim, ℕ, zero, suc, ◌<◌, ◌≤◌, ◌+◌, Bool, true, false, refl, sym, ap, subst, arith, add-one, List, [], ◌∷◌, cond, filter, length, get_or, true≢false, IsAllAdjacentAnswer, Contains, list_all, nat_cmp, slice_cmp, bytes_eq, cases_Bool, and_parts, label_lt, Has, Ascends, Distinct, ascending}
use Rattle.std.specs.List.Sorted.{IsPermutation, IsSortedByKey}
use Rattle.std.proofs.lemmas.List.Sorted.{Contains-permutation, IsPermutation-sym, sum_by-IsPermutation}
use Rattle.std.proofs.lemmas.List.Sums.{length-filter}
use Rattle.gm_lists.proofs.Order.{same_refl, same_is, differ, lt_trans, lt_irrefl, lt_other, lt_differ}

-- ---- being one of a list, by its place

pub Has-Contains : {X : Type 0} (xs : List X) (x : X) → Has xs x → Contains xs x
Has-Contains [] x h = absurd h
Has-Contains (y ∷ ys) x (inl s) = (0, omega arith, s)
Has-Contains (y ∷ ys) x (inr h) = let c = Has-Contains ys x h in (suc c.0, omega arith, c.2)

pub Contains-Has : {X : Type 0} (xs : List X) (x : X) (k : ℕ) → k < length xs → get_or xs k x ≡ x
    → Has xs x
Contains-Has [] x k l e = absurd (omega arith)
Contains-Has (y ∷ ys) x zero l e = inl e
Contains-Has (y ∷ ys) x (suc k) l e = inr (Contains-Has ys x k (omega arith) e)

-- a list in another order has the same elements
pub Has-permutation : {X : Type 0} (xs ys : List X) (x : X) → IsPermutation xs ys → Has xs x
    → Has ys x
Has-permutation xs ys x p h = let c = Contains-permutation xs ys x p (Has-Contains xs x h) in
    Contains-Has ys x c.0 c.1 c.2

pub length-filter-permutation : {X : Type 0} (p : X → Bool) (xs ys : List X) → IsPermutation xs ys
    → length (filter p ys) ≡ length (filter p xs)
length-filter-permutation p xs ys h =
    length-filter p ys ∙ (sum_by-IsPermutation (λ x. cond (p x) 1 0) xs ys h
    ∙ sym (length-filter p xs))

-- ---- tests of all and any

pub all_has : {X : Type 0} (p : X → Bool) (xs : List X) → list_all p xs ≡ true → (x : X) → Has xs x
    → p x ≡ true
all_has p [] e x h = absurd h
all_has p (y ∷ ys) e x (inl s) = sym (ap p s) ∙ (and_parts (p y) (list_all p ys) e).0
all_has p (y ∷ ys) e x (inr h) = all_has p ys (and_parts (p y) (list_all p ys) e).1 x h

pub has_all : {X : Type 0} (p : X → Bool) (xs : List X) → ((x : X) → Has xs x → p x ≡ true)
    → list_all p xs ≡ true
has_all p [] h = refl
has_all p (y ∷ ys) h = rw (h y (inl refl)) (has_all p ys (λ x k. h x (inr k)))

module _ {X : Type 0} (key : X → List ℕ) where
  -- ---- the test of the order

  pub ascending_tells : (xs : List X) → ascending key xs ≡ true → Ascends key xs
  ascending_tells [] e = tt
  ascending_tells (x ∷ xs) e =
      let parts = and_parts (list_all (λ (y : X). label_lt (key x) (key y)) xs)
      (ascending key xs) e in (
        λ y h. all_has (λ (y : X). label_lt (key x) (key y)) xs parts.0 y h,
        ascending_tells xs parts.1,
      )

  pub ascending_from : (xs : List X) → Ascends key xs → ascending key xs ≡ true
  ascending_from [] a = refl
  ascending_from (x ∷ xs) a =
      rw (has_all (λ (y : X). label_lt (key x) (key y)) xs a.0) (ascending_from xs a.1)

  -- neighbours in order are enough
  Neighbours : List X → Type 0
  Neighbours xs = (k : ℕ) (d : X) → suc k < length xs
      → label_lt (key (get_or xs k d)) (key (get_or xs (suc k) d)) ≡ true

  neighbours_ascend : (xs : List X) → Neighbours xs → Ascends key xs
  unfolding Neighbours
  neighbours_ascend [] h = tt
  neighbours_ascend (x ∷ []) h = (λ y g. absurd g, tt)
  neighbours_ascend (x ∷ y ∷ ys) h =
      let rest : Ascends key (y ∷ ys) =
      neighbours_ascend (y ∷ ys) (λ k d l. h (suc k) d (omega arith)) in
      let first : label_lt (key x) (key y) ≡ true = h 0 x (omega arith) in (
        λ z g. ⊎_elim (λ (s : y ≡ z). subst (λ (w : X). label_lt (key x) (key w) ≡ true) s first)
            (λ (t : Has ys z). lt_trans (key x) (key y) (key z) first (rest.0 z t)) g,
        rest,
      )

  ascends_neighbours : (xs : List X) → Ascends key xs → Neighbours xs
  unfolding Neighbours
  ascends_neighbours [] a k d l = absurd (omega arith)
  ascends_neighbours (x ∷ []) a k d l = absurd (omega arith)
  ascends_neighbours (x ∷ y ∷ ys) a zero d l = a.0 y (inl refl)
  ascends_neighbours (x ∷ y ∷ ys) a (suc k) d l = ascends_neighbours (y ∷ ys) a.1 k d (omega arith)

  -- what the test of neighbours answers
  pub neighbours_answer : (xs : List X) (r : Bool)
      → IsAllAdjacentAnswer (λ (a b : X) (s : Bool). s ≡ label_lt (key a) (key b)) xs r
      → r ≡ ascending key xs
  unfolding Neighbours
  neighbours_answer xs true h =
      sym (ascending_from xs (neighbours_ascend xs (λ k d l. let e :
      label_lt (key (get_or xs k d)) (key (get_or xs (k + 1) d)) ≡ true =
      sym (h k d (omega arith)) in rw add-one at e)))
  neighbours_answer xs false h =
      elim (cases_Bool (ascending key xs)) [
        | inr e ↦ sym e
        | inl e ↦ (case xs (ascending_tells xs e) h)
      ]
    where
      case : (xs : List X) → Ascends key xs
          → ((k : ℕ) × (k + 1 < length xs) × ((d : X)
          → false ≡ label_lt (key (get_or xs k d)) (key (get_or xs (k + 1) d))))
          → false ≡ ascending key xs
      case [] a f = absurd (omega (arith, f.1))
      case (x ∷ xs) a f =
          let no : false ≡ label_lt (key (get_or (x ∷ xs) f.0 x))
          (key (get_or (x ∷ xs) (f.0 + 1) x)) = f.2 x in
          let no' : false ≡ label_lt (key (get_or (x ∷ xs) f.0 x))
          (key (get_or (x ∷ xs) (suc f.0) x)) = rw add-one at no in
          let l : f.0 + 1 < length (x ∷ xs) = f.1 in
          let yes = ascends_neighbours (x ∷ xs) a f.0 x (omega arith) in
          absurd (true≢false (sym yes ∙ sym no'))

  -- ---- one order

  none_pass : (p : X → Bool) (xs : List X) → ((x : X) → Has xs x → p x ≡ false) → filter p xs ≡ []
  none_pass p [] h = refl
  none_pass p (x ∷ xs) h = rw (h x (inl refl)) (none_pass p xs (λ y k. h y (inr k)))

  -- names that ascend are distinct
  ascends_distinct : (xs : List X) → Ascends key xs → Distinct key xs
  ascends_distinct [] a = tt
  ascends_distinct (x ∷ xs) a =
      (λ y h. lt_differ (key x) (key y) (a.0 y h), ascends_distinct xs a.1)

  -- a name occurs once if names are distinct
  once : (xs : List X) → Distinct key xs → (n : List ℕ)
      → length (filter (λ x. bytes_eq (key x) n) xs) ≤ 1
  once [] a n = omega arith
  once (x ∷ xs) a n =
      elim (cases_Bool (bytes_eq (key x) n)) [
        | inl e ↦ (let none : filter (λ (y : X). bytes_eq (key y) n) xs
            ≡ [] = none_pass (λ (y : X). bytes_eq (key y) n) xs
            (λ y h. differ (key y) n (λ s. a.0 y h (same_is (key x) n e ∙ sym s))) in
            rw (e, none) (omega arith))
        | inr e ↦ rw e (once xs a.1 n)
      ]

  twice : (p : X → Bool) (xs : List X) (k : ℕ) (d : X) → suc k < length xs
      → p (get_or xs k d) ≡ true → p (get_or xs (suc k) d) ≡ true → 2 ≤ length (filter p xs)
  twice p [] k d l e f = absurd (omega arith)
  twice p (x ∷ []) k d l e f = absurd (omega arith)
  twice p (x ∷ y ∷ ys) zero d l e f = rw (e, f) (omega arith)
  twice p (x ∷ y ∷ ys) (suc k) d l e f =
      let h : 2 ≤ length (filter p (y ∷ ys)) = twice p (y ∷ ys) k d (omega arith) e f in
      elim (cases_Bool (p x)) [ inl t ↦ rw t (omega arith) | inr t ↦ rw t h ]

  two_equal : (a b : List ℕ) → label_lt a b ≡ false → label_lt b a ≡ false → bytes_eq a b ≡ true
  two_equal a b l m =
      elim (cases_Bool (bytes_eq a b)) [
        | inl e ↦ e
        | inr e ↦ absurd (true≢false (sym (lt_other a b e l) ∙ m))
      ]

  -- what a sort leaves ascends, if names are distinct
  pub sorted_ascends : (xs ys : List X) → IsSortedByKey key (slice_cmp nat_cmp) xs
      → IsPermutation xs ys → Distinct key ys → Ascends key xs
  unfolding Neighbours
  sorted_ascends xs ys up p a = neighbours_ascend xs (λ k d l.
      elim (cases_Bool (label_lt (key (get_or xs k d)) (key (get_or xs (suc k) d)))) [
        | inl e ↦ e
        | inr e ↦
            let back : label_lt (key (get_or xs (k + 1) d)) (key (get_or xs k d)) ≡ false =
            up k d (omega arith) (omega arith) in
            let back' : label_lt (key (get_or xs (suc k) d)) (key (get_or xs k d)) ≡ false =
            rw add-one at back in
            let n = key (get_or xs (suc k) d) in
            let two : 2 ≤ length (filter (λ x. bytes_eq (key x) n) xs) =
            twice (λ x. bytes_eq (key x) n) xs k d l (two_equal (key (get_or xs k d)) n e back')
            (same_refl n) in
            let same : length (filter (λ x. bytes_eq (key x) n) ys)
            ≡ length (filter (λ x. bytes_eq (key x) n) xs) =
            length-filter-permutation (λ x. bytes_eq (key x) n) xs ys p in
            let one : length (filter (λ x. bytes_eq (key x) n) ys) ≤ 1 = once ys a n in
            absurd (omega arith)
      ])

  -- two lists that ascend and have the same elements are one
  pub same_lists : (xs ys : List X) → Ascends key xs → Ascends key ys
      → ((x : X) → Has xs x → Has ys x) → ((x : X) → Has ys x → Has xs x) → xs ≡ ys
  same_lists [] [] a b f g = refl
  same_lists [] (y ∷ ys) a b f g = absurd (g y (inl refl))
  same_lists (x ∷ xs) [] a b f g = absurd (f x (inl refl))
  same_lists (x ∷ xs) (y ∷ ys) a b f g =
      let heads : x ≡ y =
      ⊎_elim (λ (s : x ≡ y). s) (λ (h : Has xs y). ⊎_elim (λ (s : y ≡ x). sym s)
      (λ (k : Has ys x).
      absurd (lt_irrefl (key x) (lt_trans (key x) (key y) (key x) (a.0 y h) (b.0 x k))))
      (f x (inl refl))) (g y (inl refl)) in
      let there : (z : X) → Has xs z → Has ys z =
      λ z h. ⊎_elim (λ (s : y ≡ z).
      absurd (lt_differ (key x) (key z) (a.0 z h) (ap key (heads ∙ s)))) (λ (k : Has ys z). k)
      (f z (inr h)) in
      let back : (z : X) → Has ys z → Has xs z =
      λ z h. ⊎_elim (λ (s : x ≡ z).
      absurd (lt_differ (key y) (key z) (b.0 z h) (ap key (sym heads ∙ s))))
      (λ (k : Has xs z). k) (g z (inr h)) in
      let tails : xs ≡ ys = same_lists xs ys a.1 b.1 there back in
      cc

  -- a list has one order that ascends
  pub permuted_is : (xs ys : List X) → IsPermutation xs ys → Ascends key xs → Ascends key ys
      → xs ≡ ys
  permuted_is xs ys p a b =
      same_lists xs ys a b (λ x h. Has-permutation xs ys x p h)
      (λ x h. Has-permutation ys xs x (IsPermutation-sym xs ys p) h)

  -- what a sort leaves is that order
  pub sorted_is : (xs ys : List X) → IsSortedByKey key (slice_cmp nat_cmp) xs → IsPermutation xs ys
      → Ascends key ys → xs ≡ ys
  sorted_is xs ys up p a = permuted_is xs ys p (sorted_ascends xs ys up p (ascends_distinct ys a)) a
