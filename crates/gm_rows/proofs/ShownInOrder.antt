-- Rows that are shown by their numbers stand in that order.
use Rattle.gm_rows.proofs.Common.{◌≡◌, ◌∙◌, ℕ, pos, ◌+◌, ◌<◌, true, false, Bool, cond, ltb, eqb, List, [], ◌∷◌, map, flat_map, length, get_or, All, refl, sym, ap, subst, subst₂, arith, inl, inr, is_lt, int_cmp, nat_cmp, ordering_then, IsSortedByKey, ltb-false, cases_Bool, true≢false, length-map, get_or-map, All-permutation, IsPermutation-sym, All-from_recursion, AllByRecursion, Row, column, Value, value_cmp-Int, then-Equal, Null, Int, Trees, Ascends, Has, label_lt, sorted_is, numbered, IsInOrder}
use Rattle.std.proofs.Common.{IsPermutation}
use Rattle.std.specs.declared.cmp.Ordering.TheVariants.{Equal, Greater}
use Rattle.std.specs.Cmp.Lexicographic.{slice_cmp}
use Rattle.sqlite_value.specs.Order.{value_cmp}
use Rattle.sqlite.specs.Collation.TheVariants.{Binary}
use Rattle.sqlite.specs.Term.{col, eval_all}
use Rattle.sqlite_rows.proofs.Finding.{scan}
use Rattle.sqlite.specs.Query.{Query, IsAnswer, Output, output, output_cmp, matches_as, end}

-- it is sorted by the first column that it shows
abbrev SortsByFirst : Output → Type 0
SortsByFirst o = o.0 ≡ column o.1 0 ∷ []

-- a table that is shown by some of its columns, in order of the first of them
module _ (tree place : ℕ) (more : List ℕ) where
  abbrev by_first : Query
  by_first = scan tree [] (map (col 1) (place ∷ more))
      ((col 1 place, record { collation = Binary; descending = false }) ∷ [])

  -- what a row is sorted by, and shows
  abbrev out : Row → Output
  out row = (column row place ∷ [], eval_all (map (col 1) (place ∷ more)) ([] ∷ row ∷ []))

  outs : (db : Trees) (xs : List Row)
      → map (output by_first) (flat_map (λ r. matches_as Null db [] end ([] ∷ r ∷ [])) xs)
      ≡ map out xs
  outs db [] = refl
  outs db (x ∷ xs) = ap (λ l. out x ∷ l) (outs db xs)

  all_sort : (xs : List Row) → AllByRecursion SortsByFirst (map out xs)
  all_sort [] = tt
  all_sort (x ∷ xs) = (refl, all_sort xs)

  sorts_by : (x y : Output) → output_cmp by_first x y ≡ value_cmp (column x.0 0) (column y.0 0)
  sorts_by x y = then-Equal (value_cmp (column x.0 0) (column y.0 0))

  pub in_order : (db : Trees) (rows : List Row) → IsAnswer by_first db [] rows → IsInOrder rows
  in_order db rows a =
      let kept : a.kept ≡ map out (db tree) =
      a.distinct ∙ (ap (map (output by_first)) a.grouped ∙ outs db (db tree)) in
      let first : All SortsByFirst a.ordered =
      All-permutation SortsByFirst (map out (db tree)) a.ordered
      (subst (λ k. IsPermutation k a.ordered) kept a.same)
      (All-from_recursion SortsByFirst (map out (db tree)) (all_sort (db tree))) in
      let shown : rows ≡ map (λ (o : Output). o.1) a.ordered = a.shown in
      subst IsInOrder (sym shown) (λ k d low high.
      let e : Output = (column d 0 ∷ [], d) in
      let high' : k + 1 < length a.ordered =
      omega (arith, length-map a.ordered (λ (o : Output). o.1)) in
      let x = get_or a.ordered (k + 1) e in
      let y = get_or a.ordered k e in
      let sorted : is_lt (output_cmp by_first x y) ≡ false = a.sorted k e low high' in
      let x_first : column x.0 0 ≡ column x.1 0 = ap (λ r. column r 0) (first (k + 1) e high') in
      let y_first : column y.0 0 ≡ column y.1 0 = ap (λ r. column r 0) (first k e (omega arith)) in
      let by_shown : is_lt (value_cmp (column x.1 0) (column y.1 0)) ≡ false =
      subst₂ (λ v w. is_lt (value_cmp v w) ≡ false) x_first y_first
      (ap is_lt (sym (sorts_by x y)) ∙ sorted) in
      subst₂ (λ v w. is_lt (value_cmp (column v 0) (column w 0)) ≡ false)
      (sym (get_or-map (λ (o : Output). o.1) a.ordered (k + 1) e d high'))
      (sym (get_or-map (λ (o : Output). o.1) a.ordered k e d (omega arith))) by_shown)

-- the number in a row's first column
abbrev number_in : Value → List ℕ
number_in (Int (pos n)) = n ∷ []
number_in _ = []

abbrev number_key : Row → List ℕ
number_key row = number_in (column row 0)

-- it is a number
abbrev IsNumbered : Row → Type 0
IsNumbered row = (n : ℕ) × (column row 0 ≡ Int (pos n))

equal_or_greater : (b : Bool) → is_lt (ordering_then (cond b Equal Greater) Equal) ≡ false
equal_or_greater true = refl
equal_or_greater false = refl

not_below : (a b : ℕ) → is_lt (int_cmp (pos a) (pos b)) ≡ false → label_lt (a ∷ []) (b ∷ []) ≡ false
not_below a b h = elim (cases_Bool (ltb a b)) [
  | inl low ↦ absurd (true≢false (let e : is_lt (int_cmp (pos a) (pos b)) ≡ true = rw low in
      sym e ∙ h))
  | inr high ↦ rw high (equal_or_greater (eqb a b))
]

below : (a b : ℕ) → a < b → label_lt (a ∷ []) (b ∷ []) ≡ true
below a b h = elim (cases_Bool (ltb a b)) [
  | inl low ↦ rw low refl
  | inr high ↦ absurd (omega (arith, ltb-false a b high))
]

by_key : (rows : List Row) → All IsNumbered rows → IsInOrder rows
    → IsSortedByKey number_key (slice_cmp nat_cmp) rows
by_key rows all up = λ k d low high.
    let x = all (k + 1) d high in
    let y = all k d (omega arith) in
    let e = subst₂ (λ v w. is_lt (value_cmp v w) ≡ false) x.1 y.1 (up k d low high) in
    let f : is_lt (int_cmp (pos x.0) (pos y.0)) ≡ false =
    ap is_lt (sym (value_cmp-Int (pos x.0) (pos y.0))) ∙ e in
    subst₂ (λ v w. label_lt (number_in v) (number_in w) ≡ false) (sym x.1) (sym y.1)
    (not_below x.0 y.0 f)

module _ {A : Type 0} (row_of : ℕ → A → Row)
    (first : (n : ℕ) (x : A) → column (row_of n x) 0 ≡ Int (pos n)) where
  all_numbered : (n : ℕ) (xs : List A) → AllByRecursion IsNumbered (numbered row_of n xs)
  all_numbered n [] = tt
  all_numbered n (x ∷ xs) = ((n, first n x), all_numbered (n + 1) xs)

  above : (m n : ℕ) (xs : List A) (row : Row) → m < n → Has (numbered row_of n xs) row
      → label_lt (m ∷ []) (number_key row) ≡ true
  above m n [] row low has = absurd has
  above m n (x ∷ xs) row low (inl same) =
      subst (λ v. label_lt (m ∷ []) (number_in v) ≡ true)
      (sym (ap (λ r. column r 0) (sym same) ∙ first n x)) (below m n low)
  above m n (x ∷ xs) row low (inr later) = above m (n + 1) xs row (omega arith) later

  ascends : (n : ℕ) (xs : List A) → Ascends number_key (numbered row_of n xs)
  ascends n [] = tt
  ascends n (x ∷ xs) = (
    λ row has. subst (λ v. label_lt (number_in v) (number_key row) ≡ true) (sym (first n x))
        (above n (n + 1) xs row (omega arith) has),
    ascends (n + 1) xs,
  )

  -- rows in order that are those of numbered records in some order are those in their order
  pub one_order : (rows : List Row) (xs : List A) → IsPermutation (numbered row_of 1 xs) rows
      → IsInOrder rows → rows ≡ numbered row_of 1 xs
  one_order rows xs among up =
      let all : All IsNumbered rows =
      All-permutation IsNumbered (numbered row_of 1 xs) rows among
      (All-from_recursion IsNumbered (numbered row_of 1 xs) (all_numbered 1 xs)) in
      sorted_is number_key rows (numbered row_of 1 xs) (by_key rows all up)
      (IsPermutation-sym _ _ among) (ascends 1 xs)
