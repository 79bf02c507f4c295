-- A table that keeps records, and what an edit of its rows makes of them.
use Rattle.sqlite_rows.proofs.Common.{◌≡◌, ℕ, Bool, false, not, List, [], ◌∷◌, map, filter, IsTrue, refl, ap, subst, subst₂, ◌∙◌, IsPermutation, bytes_eq, IsPermutation-refl, IsPermutation-trans, IsPermutation-cons, IsPermutation-map, IsPermutation-sym, filter_agree, Row, column, Binary, Text, put_row, rowid, is_int, filter-map, IsPermutation-filter, IsShaped-filter, IsShaped-put_row, is_taken, equal, columns}
use Rattle.sqlite_trees.specs.declared.store.Shape.TheVariants as shape
use Rattle.sqlite_rows.specs.Keeps.{Keeps}
use Rattle.sqlite_rows.proofs.RowLemmas.{put_fresh}
use Rattle.sqlite_rows.proofs.ValueLemmas.{texts_equal}

pub keeps_none : {A : Type 0} (part : Row → Row) (row_of : A → Row) → Keeps part row_of [] []
keeps_none part row_of = record { same = IsPermutation-refl []; keyed = (tt, tt) }

-- in another order
pub keeps_same : {A : Type 0} (part : Row → Row) (row_of : A
    → Row) (xs ys : List A) (rows : List Row) → IsPermutation xs ys → Keeps part row_of xs rows
    → Keeps part row_of ys rows
keeps_same part row_of xs ys rows same k = record {
  same = IsPermutation-trans (map row_of ys) (map row_of xs) (map part rows)
      (IsPermutation-map row_of ys xs (IsPermutation-sym xs ys same)) k.same;
  keyed = k.keyed;
}

pub keeps_put : {A : Type 0} (part : Row → Row) (row_of : A
    → Row) (xs : List A) (rows : List Row) (x : A) (new : Row) → Keeps part row_of xs rows
    → part new ≡ row_of x
    → is_taken rows new ≡ false → IsTrue (is_int (rowid new))
    → Keeps part row_of (x ∷ xs) (put_row new rows)
keeps_put part row_of xs rows x new k is fresh int = record {
  same = IsPermutation-trans (map row_of (x ∷ xs)) (row_of x ∷ map part rows)
      (map part (put_row new rows)) (IsPermutation-cons (row_of x) _ _ k.same)
      (subst (λ first. IsPermutation (first ∷ map part rows) (map part (put_row new rows))) is
      (IsPermutation-map part (new ∷ rows) (put_row new rows) (put_fresh new rows fresh)));
  keyed = IsShaped-put_row new rows int k.keyed;
}

-- the row has this text in its first column
abbrev pub has_key : List ℕ → Row → Bool
has_key key r = equal Binary (column r 1) (Text key)

pub key_place : (row : Row) → column (columns row) 0 ≡ column row 1
key_place [] = refl
key_place (x ∷ xs) = refl

-- what passes tests that agree
pub keeps_filter : {A : Type 0} (part : Row → Row) (row_of : A → Row) (p : Row → Bool) (mine : A
    → Bool) (stored : Row → Bool) → ((x : A) → p (row_of x) ≡ mine x)
    → ((r : Row) → p (part r) ≡ stored r)
    → (xs : List A) (rows : List Row) → Keeps part row_of xs rows
    → Keeps part row_of (filter mine xs) (filter stored rows)
keeps_filter part row_of p mine stored at_record at_row xs rows k =
    let records : filter p (map row_of xs) ≡ map row_of (filter mine xs) =
    filter-map p row_of xs ∙ ap (map row_of)
    (filter_agree (λ x. p (row_of x)) mine at_record xs) in
    let kept : filter p (map part rows) ≡ map part (filter stored rows) =
    filter-map p part rows ∙ ap (map part)
    (filter_agree (λ r. p (part r)) stored at_row rows) in
    record {
      same = subst₂ IsPermutation records kept
          (IsPermutation-filter p (map row_of xs) (map part rows) k.same);
      keyed = IsShaped-filter shape.Table stored rows k.keyed;
    }

pub keeps_without : {A : Type 0} (row_of : A → Row) (key_of : A → List ℕ)
    → ((x : A) → column (row_of x) 0 ≡ Text (key_of x))
    → (xs : List A) (rows : List Row) (key : List ℕ)
    → Keeps columns row_of xs rows
    → Keeps columns row_of (filter (λ x. not (bytes_eq (key_of x) key)) xs)
    (filter (λ r. not (has_key key r)) rows)
keeps_without row_of key_of first xs rows key =
    keeps_filter columns row_of (λ row. not (equal Binary (column row 0) (Text key)))
    (λ x. not (bytes_eq (key_of x) key)) (λ r. not (has_key key r))
    (λ x. ap (λ v. not (equal Binary v (Text key))) (first x) ∙ ap not (texts_equal (key_of x) key))
    (λ r. ap (λ v. not (equal Binary v (Text key))) (key_place r)) xs rows
