-- Rows that are those of records, numbered in their order.
use Rattle.gm_rows.proofs.Common.{◌≡◌, ◌∙◌, sym, ap, ℕ, zero, suc, ◌+◌, ◌<◌, length, get_or, take, arith, List, [], ◌∷◌, ◌++◌, map, All, take-suc, map-append, All-head, All-tail, Row, numbered}

module _ {A : Type 0} (row_of : ℕ → A → Row) (part : Row → Row) where
  numbered-append : (n : ℕ) (xs : List A) (x : A)
      → numbered row_of n (xs ++ x ∷ []) ≡ numbered row_of n xs ++ row_of (n + length xs) x ∷ []
  numbered-append n [] x = let e : n ≡ n + 0 = omega arith in ap (λ k. row_of k x ∷ []) e
  numbered-append n (y ∷ xs) x =
      let e : n + 1 + length xs ≡ n + suc (length xs) = omega arith in
      ap (λ more. row_of n y ∷ more) (numbered-append (n + 1) xs x
      ∙ ap (λ k. numbered row_of (n + 1) xs ++ row_of k x ∷ []) e)

  -- one more row, which is that of one more record
  pub read_one : (rows : List Row) (i : ℕ) (row : Row) (xs : List A) (x : A) → i < length rows
      → row ≡ get_or rows i row → length xs ≡ i → part row ≡ row_of (i + 1) x
      → map part (take i rows) ≡ numbered row_of 1 xs
      → map part (take (i + 1) rows) ≡ numbered row_of 1 (xs ++ x ∷ [])
  read_one rows i row xs x low is count here before =
      let next : i + 1 ≡ suc i = omega arith in
      let more = ap (λ n. map part (take n rows)) next
      ∙ (ap (map part) (take-suc rows i row low ∙ ap (λ r. take i rows ++ r ∷ []) (sym is))
      ∙ map-append part (take i rows) (row ∷ [])) in
      let number : i + 1 ≡ 1 + length xs = omega arith in
      more ∙ ((λ j. before j ++ (here ∙ ap (λ k. row_of k x) number) j ∷ [])
      ∙ sym (numbered-append 1 xs x))

  -- rows of records have a record at each place
  has_one : (P : A → Type 0) (n : ℕ) (rows : List Row) (xs : List A) (i : ℕ) (row : Row)
      → i < length rows → row ≡ get_or rows i row → All P xs → map part rows ≡ numbered row_of n xs
      → ((x : A) → P x → part row ≡ row_of (n + i) x → ⊥) → ⊥
  has_one P n [] xs i row low is all same none = absurd (omega arith)
  has_one P n (r ∷ rows) [] i row low is all same none = cc
  has_one P n (r ∷ rows) (x ∷ xs) zero row low is all same none =
      let e : part r ≡ row_of n x = cc in
      let k : n ≡ n + 0 = omega arith in
      none x (All-head P x xs all) (ap part is ∙ (e ∙ ap (λ m. row_of m x) k))
  has_one P n (r ∷ rows) (x ∷ xs) (suc i) row low is all same none =
      let rest : map part rows ≡ numbered row_of (n + 1) xs = cc in
      let k : n + 1 + i ≡ n + suc i = omega arith in
      has_one P (n + 1) rows xs i row (omega arith) is (All-tail P x xs all) rest
      (λ y p e. none y p (e ∙ ap (λ m. row_of m y) k))

  -- a row that is of no record is none of them
  pub reads_none : (P : A → Type 0) (rows : List Row) (i : ℕ) (row : Row) → i < length rows
      → row ≡ get_or rows i row → ((x : A) → P x → part row ≡ row_of (i + 1) x → ⊥)
      → (xs : List A) → All P xs → map part rows ≡ numbered row_of 1 xs → ⊥
  reads_none P rows i row low is none xs all same =
      let k : 1 + i ≡ i + 1 = omega arith in
      has_one P 1 rows xs i row low is all same (λ x p e. none x p (e ∙ ap (λ m. row_of m x) k))
