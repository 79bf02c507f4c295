-- What edits of the registry's tables have in common.
use Rattle.gm_registry.proofs.Common.{is_eq, int_cmp, nat_tests, AllByRecursion, inl, inr, ℕ, pos, true, arith, ◌≡◌, ◌==◌, if◌then◌else◌, List, [], ◌∷◌, ◌||◌, false, refl, sym, ap, subst₂, ◌∙◌, IsPermutation-sym, and_from, and_parts, or_right, or_cases, true≢false, Row, column, Trees, Binary, Text, IsSound, Refers, passes, equal, ForeignKey, is_null, all_of, all_has, all_from, some_has, some_from, Tables, ComponentRow, component_values, HasRows, IsAscending, Keeps, columns, has_mapped, mapped_from, components, registry_schema, stands_permuted}
use Rattle.sqlite_schema.specs.Names.{same_name}
use Rattle.sqlite_schema.specs.Rules.{Keeps as RulesKept}
use Rattle.sqlite_schema.specs.declared.schema.Among.TheVariants.{All}
use Rattle.sqlite_value.specs.Keys.{first_key, joined}
use Rattle.sqlite_schema.specs.declared.schema.Table.{Table}
use Rattle.sqlite_rules.specs.Lists.{Has as Stands}

-- a row of a table is that of one of its records
pub record_of : {A : Type 0} (part : Row → Row) (row_of : A → Row) (all : List A) (rows : List Row)
    (row : Row) → Keeps part row_of all rows → Stands rows row
    → (x : A) × Stands all x × (part row ≡ row_of x)
record_of part row_of all rows row kept has =
    mapped_from row_of all (part row)
    (stands_permuted _ _ (part row) (IsPermutation-sym _ _ kept.same)
    (has_mapped part rows row has))

-- a record has a row
pub row_of : {A : Type 0} (part : Row → Row) (values : A → Row) (all : List A) (rows : List Row)
    (x : A) → Keeps part values all rows → Stands all x → (row : Row) × Stands rows row
    × (values x ≡ part row)
row_of part values all rows x kept has =
    mapped_from part rows (values x)
    (stands_permuted _ _ (values x) kept.same (has_mapped values all x has))

pub only : {A : Type 0} (x y : A) → Stands (x ∷ []) y → y ≡ x
only x y (inl same) = same
only x y (inr none) = absurd none

pub same_number : (m n : ℕ) → is_eq (int_cmp (pos m) (pos n)) ≡ true → m ≡ n
same_number m n h = grind (arith, nat_tests)

-- no two tables have one tree
pub apart : IsAscending (λ (a b : Table). a.tree ≡ b.tree → ⊥) registry_schema.tables
apart = (
  (
    (λ e. let f : 0 ≡ 1 = e in cc),
    (
      (λ e. let f : 0 ≡ 4 = e in cc),
      (
        (λ e. let f : 0 ≡ 7 = e in cc),
        ((λ e. let f : 0 ≡ 8 = e in cc), ((λ e. let f : 0 ≡ 11 = e in cc), tt)),
      ),
    ),
  ),
  (
    (
      (λ e. let f : 1 ≡ 4 = e in cc),
      (
        (λ e. let f : 1 ≡ 7 = e in cc),
        ((λ e. let f : 1 ≡ 8 = e in cc), ((λ e. let f : 1 ≡ 11 = e in cc), tt)),
      ),
    ),
    (
      (
        (λ e. let f : 4 ≡ 7 = e in cc),
        ((λ e. let f : 4 ≡ 8 = e in cc), ((λ e. let f : 4 ≡ 11 = e in cc), tt)),
      ),
      (
        ((λ e. let f : 7 ≡ 8 = e in cc), ((λ e. let f : 7 ≡ 11 = e in cc), tt)),
        (((λ e. let f : 8 ≡ 11 = e in cc), tt), (tt, tt)),
      ),
    ),
  ),
)

-- ---- the mirrors that components are of

pub refers_by : (next : Trees) → ((k : Row) → Stands (next 4) k
    → (m : Row) × Stands (next 1) m × (equal Binary (column m 1) (column k 2) ≡ true))
    → Refers All registry_schema next
unfolding same_name joined first_key
refers_by next each =
    let none = all_of (λ (_ : Row). true ≡ true) (λ _. refl) in
    let held =
    all_from (λ row. passes ForeignKey registry_schema next components row ≡ true) (next 4)
    (λ k has. let it = each k has in
    and_from _ _ (or_right _ _ (some_from _ (next 1) it.0 it.1 (and_from _ _ it.2 refl))) refl) in (
      none (next 0),
      (none (next 1), (held, (none (next 7), (none (next 8), (none (next 11), tt))))),
    )

-- the trees of mirrors and of components, which alone a reference looks at
abbrev two : List Row → List Row → Trees
two mirrors components = λ t. if t == 1 then mirrors else (if t == 4 then components else [])

pub refers : (db next : Trees) → next 1 ≡ db 1 → next 4 ≡ db 4
    → RulesKept ForeignKey registry_schema db → Refers All registry_schema next
unfolding same_name joined
refers db next same_mirrors same_components kept =
    let none = all_of (λ (_ : Row). true ≡ true) (λ _. refl) in
    let held = subst₂ (λ (m k : List Row). AllByRecursion
    (λ row. passes ForeignKey registry_schema (two m k) components row ≡ true) k)
    (sym same_mirrors) (sym same_components) kept.1.1.0 in (
      none (next 0),
      (none (next 1), (held, (none (next 7), (none (next 8), (none (next 11), tt))))),
    )

pub second_place : (row : Row) → column (columns row) 1 ≡ column row 2
second_place [] = refl
second_place (x ∷ xs) = refl

pub fourth_place : (row : Row) → column (columns row) 2 ≡ column row 3
fourth_place [] = refl
fourth_place (x ∷ xs) = refl

module _ (db : Trees) (t : Tables) (holds : HasRows db t) (sound : IsSound registry_schema db) where
  -- a component has its row, and the row of its mirror
  pub parent_of : (k : Row) → Stands (db 4) k
      → (of : ComponentRow) × Stands t.components of × (column k 2 ≡ Text of.mirror)
      × (m : Row) × Stands (db 1) m × (equal Binary (column m 1) (column k 2) ≡ true)
  unfolding same_name joined first_key
  parent_of k has =
      let of = record_of columns component_values t.components (db 4) k holds.components has in
      let is : column k 2 ≡ Text of.0.mirror = sym (second_place k) ∙ ap (λ v. column v 1) of.2 in
      let kept = sound.obeys.rules ForeignKey in
      let passed = (and_parts _ _ (all_has _ (db 4) k kept.1.1.0 has)).0 in
      elim (or_cases _ _ passed) [
        | inl null ↦ absurd (true≢false (sym null ∙ ap (λ v. is_null v || false) is))
        | inr held ↦
            let m = some_has _ (db 1) held in
            (of.0, of.1, is, m.0, m.1, (and_parts _ _ m.2).0)
      ]
