-- Rows without floats that are short enough to be stored.
use Rattle.sqlite_rows.proofs.Common.{◌≡◌, inl, inr, ℕ, ℤ, pos, negsuc, ◌+◌, ◌*◌, ◌^◌, ◌<◌, ◌≤◌, Bool, true, false, List, [], ◌∷◌, length, sum_by, refl, sym, ap, ap₂, ◌∙◌, arith, AllByRecursion, list_all, and_parts, true≢false, All-from_recursion, Row, Table, Schema, Value, Real, Blob, exact, number, bytes, table_reals, index_reals, Index, IsStorable, IsOversized, Has}
use Rattle.std.specs.Int.{bit_at}
use Rattle.std.specs.Float.{NotNan, float_zero}
use Rattle.std.specs.Float.Ieee
use Rattle.std.proofs.lemmas.Nat.Bits.{bit_at-zero}
use Rattle.sqlite_value.specs.declared.value.Value.TheVariants.{Null, Int, Text}
use Rattle.sqlite_sql.specs.Catalog.{entry_of}

abbrev pub is_no_float : Value → Bool
is_no_float Null = true
is_no_float (Int n) = true
is_no_float (Real x) = false
is_no_float (Text t) = true
is_no_float (Blob b) = true

-- the bytes that the limit on a row counts
abbrev pub weight : Row → ℕ
weight row = sum_by (λ v. 18 + length (bytes v)) row

exact_number : (n : ℤ) → NotNan (exact n)
unfolding Ieee.is_nan
exact_number (pos n) = tt
exact_number (negsuc n) = tt

zero_number : NotNan float_zero
unfolding Ieee.is_nan
zero_number = tt

is_number : (v : Value) → is_no_float v ≡ true → NotNan (number v)
is_number Null h = zero_number
is_number (Int n) h = exact_number n
is_number (Real x) h = absurd (true≢false (sym h))
is_number (Text t) h = zero_number
is_number (Blob b) h = zero_number

are_numbers : (row : Row) → list_all is_no_float row ≡ true
    → AllByRecursion (λ v. NotNan (number v)) row
are_numbers [] h = tt
are_numbers (v ∷ row) h =
    let parts = and_parts _ _ h in (is_number v parts.0, are_numbers row parts.1)

pub storable : (reals : ℕ) (row : Row) → reals ≡ 0 → list_all is_no_float row ≡ true
    → (0 < length row) × (length row ≤ 2001) → weight row ≤ 10 ^ 9 → IsStorable reals row
storable reals row none exacts columns short = record {
  typed = λ c set.
      let zero : bit_at reals c ≡ 0 = ap (λ n. bit_at n c) none ∙ bit_at-zero c in
      let f : ◌≡◌ {A = ℕ} 0 1 = sym zero ∙ set in
      absurd (omega arith);
  columns = columns;
  numbers = All-from_recursion (λ v. NotNan (number v)) row (are_numbers row exacts);
  short = short;
}

pub no_index_reals : (reals : ℕ) (places : List ℕ) → reals ≡ 0 → index_reals reals places ≡ 0
no_index_reals reals [] none = refl
no_index_reals reals (p ∷ places) none =
    ap₂ (λ bit more. bit + 2 * more) (ap (λ n. bit_at n p) none ∙ bit_at-zero p)
    (no_index_reals reals places none)

-- so is each of its entries
pub small : (schema : Schema) (table : Table) (row : Row) → table_reals table ≡ 0
    → list_all is_no_float row ≡ true → (1 < length row) × (length row ≤ 2001)
    → weight row ≤ 10 ^ 9
    → ((i : Index) → Has schema.indexes i → i.table ≡ table.tree
    → (list_all is_no_float (entry_of i.columns row) ≡ true)
    × ((0 < length (entry_of i.columns row)) × (length (entry_of i.columns row) ≤ 2001))
    × (weight (entry_of i.columns row) ≤ 10 ^ 9))
    → IsOversized schema table row → ⊥
small schema table row none exacts columns short entries (inl big) =
    big (
      storable (table_reals table) row none exacts (omega (arith, columns.0), columns.1) short,
      columns.0,
    )
small schema table row none exacts columns short entries (inr (i, known, of_table, big)) =
    let it = entries i known of_table in
    big (storable _ (entry_of i.columns row) (no_index_reals _ i.columns none) it.0 it.1 it.2)
