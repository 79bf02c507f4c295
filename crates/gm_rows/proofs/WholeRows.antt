-- A row that obeys its table has one value for each column.
use Rattle.gm_rows.proofs.Common.{◌≡◌, ◌∙◌, ℕ, zero, suc, ◌+◌, ◌≤◌, Bool, true, false, not, ◌||◌, Option, List, [], ◌∷◌, length, refl, sym, ap, arith, list_all, and_parts, true≢false, Row, column, Value, Null, columns_at}
use Rattle.sqlite_schema.specs.declared.schema.Column.{Column}
use Rattle.sqlite_schema.specs.Names.{is_key}
use Rattle.sqlite_schema.specs.Rules.{are_typed, are_present}
use Rattle.sqlite_sql.specs.Ops.{is_null}
use Rattle.gm_rows.proofs.CountedNumbers.{count_from}

-- none of the columns may be NULL
abbrev pub are_required : List Column → Bool
are_required columns = list_all (λ (c : Column). c.not_null) columns

-- a column that is there has a value
there : (key required : Bool) (v : Value) → key ≡ false → required ≡ true
    → key || not required || not (is_null v) ≡ true → v ≡ Null → ⊥
there key required v free must holds none =
    true≢false (sym holds ∙ (λ i. free i || not (must i) || not (is_null (none i))))

-- after the column for which the rowid stands: `vs` is the row from the place `at + 1` on
module _ (key : Option ℕ) (row : Row) where
  pub as_many : (at : ℕ) (cs : List Column) (vs : Row) → ((k : ℕ) → at ≤ k → is_key key k ≡ false)
      → are_required cs ≡ true → ((k : ℕ) → column row (at + 1 + k) ≡ column vs k)
      → are_typed key at cs vs ≡ true → are_present key at cs row ≡ true → length vs ≡ length cs
  as_many at [] [] free must same typed present = refl
  as_many at [] (v ∷ vs) free must same typed present = absurd (true≢false (sym typed))
  as_many at (c ∷ cs) [] free must same typed present =
      let e : at + 1 ≡ at + 1 + 0 = omega arith in
      absurd (there (is_key key at) c.not_null (column row (at + 1)) (free at (omega arith))
      (and_parts c.not_null (are_required cs) must).0 (and_parts _ _ present).0
      (ap (column row) e ∙ same 0))
  as_many at (c ∷ cs) (v ∷ vs) free must same typed present =
      let rest = as_many (at + 1) cs vs (λ k low. free k (omega arith))
      (and_parts c.not_null (are_required cs) must).1
      (λ k. let e : at + 1 + 1 + k ≡ at + 1 + suc k = omega arith in
      ap (column row) e ∙ same (suc k))
      (and_parts _ _ typed).1 (and_parts _ _ present).1 in
      ap suc rest

-- ---- a row is its columns, one after another

later_columns : (v : Value) (vs : Row) (n k : ℕ)
    → columns_at (count_from (suc n) k) (v ∷ vs) ≡ columns_at (count_from n k) vs
later_columns v vs n zero = refl
later_columns v vs n (suc k) =
    let e : suc n + 1 ≡ suc (n + 1) = omega arith in
    ap (λ more. column vs n ∷ more) (ap (λ m. columns_at (count_from m k) (v ∷ vs)) e
    ∙ later_columns v vs (n + 1) k)

all_columns : (vs : Row) → columns_at (count_from 0 (length vs)) vs ≡ vs
all_columns [] = refl
all_columns (v ∷ vs) = ap (λ more. v ∷ more) (later_columns v vs 0 (length vs) ∙ all_columns vs)

pub its_columns : (n : ℕ) (vs : Row) → length vs ≡ n → columns_at (count_from 0 n) vs ≡ vs
its_columns n vs many = ap (λ k. columns_at (count_from 0 k) vs) (sym many) ∙ all_columns vs
