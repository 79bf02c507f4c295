-- Rows that obey the tables of a registry are what is shown of them.
use Rattle.gm_registry.proofs.Common.{◌≡◌, ◌∙◌, inl, inr, ℕ, ℤ, suc, pos, ◌+◌, ◌≤◌, true, false, not, Some, [], ◌∷◌, drop, length, refl, sym, ap, subst, arith, and_parts, true≢false, ne_eqb, Row, column, Table, Trees, Null, Int, Real, Text, Blob, IsSound, columns, keeps_at, are_typed, are_present, is_of, Datatype, NotNull, is_null, CommandRow, number_of, shown_places, IsBetween, registry_schema, intents, commands, patches, SeesRegistry, Database, State, Has, stands_from, columns_at, Mirrors, Intents, Patches, count_from, text_in, number_in, nine_picked}
use Rattle.sqlite.specs.Kind.TheVariants as kind
use Rattle.sqlite_rules.specs.Lists.{Has as Stands}
use Rattle.sqlite_schema.specs.Names.{is_key}
use Rattle.sqlite_value.specs.declared.value.Value.{Value}
use Rattle.gm_rows.proofs.WholeRows.{are_required, as_many, its_columns}
use Rattle.gm_registry.proofs.Abouts.{only_null}

-- ---- rows of intents

-- with the NULL in the column for which the rowid stands
abbrev pub with_null : Row → Row
with_null vs = column vs 0 ∷ Null ∷ column vs 1 ∷ column vs 2 ∷ column vs 3 ∷ column vs 4
    ∷ column vs 5 ∷ []

behind_key : (k : ℕ) → 1 ≤ k → is_key (Some 0) k ≡ false
behind_key k low = ne_eqb 0 k (λ e. omega arith)

-- five values come after it
five_behind : (row vs : Row) → ((k : ℕ) → column row (suc (suc k)) ≡ column vs k)
    → are_typed (Some 0) 1 (drop 1 intents.columns) vs ≡ true
    → are_present (Some 0) 1 (drop 1 intents.columns) row ≡ true
    → length vs ≡ 5
five_behind row vs same =
    as_many (Some 0) row 1 (drop 1 intents.columns) vs behind_key refl
    (λ k. let two : 1 + 1 + k ≡ suc (suc k) = omega arith in ap (column row) two ∙ same k)

pub intent_whole : (row : Row) → are_typed (Some 0) 0 intents.columns (drop 1 row) ≡ true
    → are_present (Some 0) 0 intents.columns row ≡ true
    → with_null (columns_at (shown_places Intents) row) ≡ row
intent_whole [] typed present = absurd (omega (arith, five_behind [] [] (λ k. refl) typed present))
intent_whole (id ∷ []) typed present =
    absurd (omega (arith, five_behind (id ∷ []) [] (λ k. refl) typed present))
intent_whole (id ∷ v ∷ vs) typed present =
    let parts = and_parts (is_null v) (are_typed (Some 0) 1 (drop 1 intents.columns) vs) typed in
    let many = five_behind (id ∷ v ∷ vs) vs (λ k. refl) parts.1 present in
    ap (λ more. id ∷ Null ∷ more) (its_columns 5 vs many)
    ∙ ap (λ n. id ∷ n ∷ vs) (sym (only_null v parts.0))

-- ---- rows of bytes

-- one value comes after it
one_behind : (row vs : Row) → ((k : ℕ) → column row (suc (suc k)) ≡ column vs k)
    → are_typed (Some 0) 1 (drop 1 patches.columns) vs ≡ true
    → are_present (Some 0) 1 (drop 1 patches.columns) row ≡ true
    → length vs ≡ 1
one_behind row vs same =
    as_many (Some 0) row 1 (drop 1 patches.columns) vs behind_key refl
    (λ k. let two : 1 + 1 + k ≡ suc (suc k) = omega arith in ap (column row) two ∙ same k)

-- with the NULL in the column for which the rowid stands
abbrev pub with_one_null : Row → Row
with_one_null vs = column vs 0 ∷ Null ∷ column vs 1 ∷ []

pub patch_whole : (row : Row) → are_typed (Some 0) 0 patches.columns (drop 1 row) ≡ true
    → are_present (Some 0) 0 patches.columns row ≡ true
    → with_one_null (columns_at (shown_places Patches) row) ≡ row
patch_whole [] typed present = absurd (omega (arith, one_behind [] [] (λ k. refl) typed present))
patch_whole (id ∷ []) typed present =
    absurd (omega (arith, one_behind (id ∷ []) [] (λ k. refl) typed present))
patch_whole (id ∷ v ∷ vs) typed present =
    let parts = and_parts (is_null v) (are_typed (Some 0) 1 (drop 1 patches.columns) vs) typed in
    let many = one_behind (id ∷ v ∷ vs) vs (λ k. refl) parts.1 present in
    ap (λ more. id ∷ Null ∷ more) (its_columns 1 vs many)
    ∙ ap (λ n. id ∷ n ∷ vs) (sym (only_null v parts.0))

-- ---- rows of commands

abbrev pub command_in : Row → CommandRow
command_in row = record {
  call_key = text_in (column row 1);
  seq = number_in (column row 2);
  words = text_in (column row 3);
  copied = number_in (column row 4);
  of_total = number_in (column row 5);
}

pub text_is : (v : Value) → is_of kind.Text v ≡ true → not (is_null v) ≡ true → v ≡ Text (text_in v)
text_is Null typed present = absurd (true≢false (sym present))
text_is (Int n) typed present = absurd (true≢false (sym typed))
text_is (Real x) typed present = absurd (true≢false (sym typed))
text_is (Text t) typed present = refl
text_is (Blob b) typed present = absurd (true≢false (sym typed))

pub int_is : (v : Value) → is_of kind.Integer v ≡ true → not (is_null v) ≡ true
    → (z : ℤ) × (v ≡ Int z)
int_is Null typed present = absurd (true≢false (sym present))
int_is (Int n) typed present = (n, refl)
int_is (Real x) typed present = absurd (true≢false (sym typed))
int_is (Text t) typed present = absurd (true≢false (sym typed))
int_is (Blob b) typed present = absurd (true≢false (sym typed))

pub number_is : (v : Value) (n : ℕ) → v ≡ Int (pos n) → v ≡ Int (pos (number_in v))
number_is v n e = e ∙ ap (λ w. Int (pos (number_in w))) (sym e)

pub at_most : (high : ℕ) (v : Value) → IsBetween 0 high v → number_in v ≤ high
at_most high v it = let e : number_in v ≡ it.0 = ap number_in it.1 in let below = it.3 in
    omega (arith, e, below)

pub five_picked : (row : Row)
    → columns_at (count_from 0 5) (columns row) ≡ columns_at (count_from 1 5) row
five_picked [] = refl
five_picked (v ∷ row) = refl

-- ---- rows that obey the tables

behind : (row : Row) (k : ℕ) → column row (0 + 1 + k) ≡ column (columns row) k
behind [] k = refl
behind (v ∷ row) k = let e : 0 + 1 + k ≡ suc k = omega arith in ap (column (v ∷ row)) e

module _ (db : Trees) (sound : IsSound registry_schema db) where
  pub typed : (t : Table) → Stands registry_schema.tables t → (row : Row) → Stands (db t.tree) row
      → are_typed t.key 0 t.columns (drop 1 row) ≡ true
  typed t listed row there =
      (and_parts _ _ (keeps_at Datatype registry_schema db t row
      (sound.obeys.rules Datatype) listed there)).0

  pub present : (t : Table) → Stands registry_schema.tables t → (row : Row) → Stands (db t.tree) row
      → are_present t.key 0 t.columns row ≡ true
  present t listed row there =
      keeps_at NotNull registry_schema db t row (sound.obeys.rules NotNull) listed there

  -- of a table without a column for the rowid
  pub whole_row : (t : Table) → Stands registry_schema.tables t
      → ((k : ℕ) → 0 ≤ k → is_key t.key k ≡ false) → are_required t.columns ≡ true → (row : Row)
      → Stands (db t.tree) row → length (columns row) ≡ length t.columns
  whole_row t listed free must row there =
      as_many t.key row 0 t.columns (columns row) free must (behind row) (typed t listed row there)
      (present t listed row there)

  pub nine_whole : (t : Table) → Stands registry_schema.tables t
      → ((k : ℕ) → 0 ≤ k → is_key t.key k ≡ false) → are_required t.columns ≡ true
      → length t.columns ≡ 9 → (row : Row) → Stands (db t.tree) row
      → columns_at (shown_places Mirrors) row ≡ columns row
  nine_whole t listed free must nine row there =
      sym (nine_picked row) ∙ its_columns 9 (columns row)
      (whole_row t listed free must row there ∙ nine)

  -- ---- rows of commands

  commands_listed : Stands registry_schema.tables commands
  commands_listed = inr (inr (inr (inr (inl refl))))

  pub command_columns : (row : Row) → Stands (db 8) row
      → columns_at (count_from 1 5) row ≡ columns row
  command_columns row there =
      sym (five_picked row) ∙ its_columns 5 (columns row)
      (whole_row commands commands_listed (λ k low. refl) refl row there)

  pub command_typed : (row : Row) → Stands (db 8) row
      → are_typed commands.key 0 commands.columns (columns_at (count_from 1 5) row) ≡ true
  command_typed row there =
      ap (are_typed commands.key 0 commands.columns) (command_columns row there)
      ∙ typed commands commands_listed row there

  pub command_present : (row : Row) → Stands (db 8) row
      → are_present commands.key 0 commands.columns row ≡ true
  command_present row there = present commands commands_listed row there

  pub number_stored : (row : Row) → Stands (db 8) row → (z : ℤ) × (number_of row ≡ Int z)
  number_stored row there =
      int_is (number_of row)
      (and_parts _ _ (and_parts _ _ (command_typed row there)).1).0
      (and_parts _ _ (and_parts _ _ (command_present row there)).1).0

-- the numbers of the commands that a registry shows are integers
pub registry_numbers : (s : State) → SeesRegistry s → (row : Row) → Has (s.now.trees 8) row
    → (z : ℤ) × (number_of row ≡ Int z)
registry_numbers s is row has =
    let same : s.now.trees ≡ s.committed.trees = ap (λ (d : Database). d.trees) is.settled in
    number_stored s.committed.trees is.sound row
    (stands_from (s.committed.trees 8) row (subst (λ (db : Trees). Has (db 8) row) same has))
