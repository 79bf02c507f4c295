-- A table whose key is a text in its first column, guarded by an index, has one row of a key.
use Rattle.sqlite_rows.proofs.Common.{◌≡◌, ◌≤◌, inl, inr, true, false, not, ◌&&◌, ℕ, List, [], ◌∷◌, filter, length, refl, sym, ap, subst, ◌∙◌, arith, list_any, is_eq, true≢false, and_from, Row, column, Binary, plain, value_cmp, Text, Table, Schema, Index, Unique, agree, clashes, differ, equal, guards, Obeys, Trees, rowid, IsShaped, IsShaped-filter, Has, test_has, some_from, has_filtered, keeps_at}
use Rattle.sqlite_value.specs.Keys.{first_key}
use Rattle.sqlite_trees.specs.declared.store.Shape.TheVariants as shape
use Rattle.sqlite_rows.proofs.Bags.{has_key}
use Rattle.sqlite_rows.proofs.Replacing.{not_both}
use Rattle.sqlite_rows.proofs.ValueLemmas.{ints_differ}

module _ (schema : Schema) (table : Table) (listed : Has schema.tables table) (index : Index)
    (guarded : Has schema.indexes index) (guards_it : guards index table ≡ true)
    (at_first : index.columns ≡ 1 ∷ []) (in_order : index.order ≡ plain) (db : Trees)
    (obeys : Obeys schema db) (shaped : IsShaped shape.Table (db table.tree)) where
  alone : (row : Row) → Has (db table.tree) row
      → list_any (λ other. agree plain (1 ∷ []) other (1 ∷ []) row && differ (rowid other)
      (rowid row)) (db table.tree) ≡ false
  alone row has =
      let all = keeps_at Unique schema db table row (obeys.rules Unique) listed has in
      let none : clashes index.order index.columns (db table.tree) row ≡ false =
      not_both (guards index table) _
      (test_has (λ i. not (guards i table && clashes i.order i.columns (db table.tree) row))
      schema.indexes index all guarded) guards_it in
      subst (λ o. clashes o (1 ∷ []) (db table.tree) row ≡ false) in_order
      (subst (λ cs. clashes index.order cs (db table.tree) row ≡ false) at_first none)

  two_rows : (key : List ℕ) (a b : Row) (more : List Row)
      → filter (has_key key) (db table.tree) ≡ a ∷ b ∷ more → column b 1 ≡ Text key → ⊥
  unfolding first_key
  two_rows key a b more are is =
      let rising : IsShaped shape.Table (a ∷ b ∷ more) =
      subst (IsShaped shape.Table) are (IsShaped-filter shape.Table (has_key key)
      (db table.tree) shaped) in
      let first = has_filtered (has_key key) (db table.tree) a
      (subst (λ l. Has l a) (sym are) (inl refl)) in
      let second = has_filtered (has_key key) (db table.tree) b
      (subst (λ l. Has l b) (sym are) (inr (inl refl))) in
      let apart : is_eq (value_cmp (rowid a) (rowid b)) ≡ false = ap is_eq rising.0.0.0 in
      let agrees : agree plain (1 ∷ []) a (1 ∷ []) b ≡ true =
      and_from _ _ (ap (equal Binary (column a 1)) is ∙ first.1) refl in
      true≢false (sym
      (some_from (λ other. agree plain (1 ∷ []) other (1 ∷ []) b && differ (rowid other)
      (rowid b)) (db table.tree) a first.0
      (and_from _ _ agrees (ints_differ (rowid a) (rowid b) rising.1.0 rising.1.1.0 apart)))
      ∙ alone b second.0)

  at_most_one : (key : List ℕ) (rows : List Row) → filter (has_key key) (db table.tree) ≡ rows
      → ((row : Row) → Has (db table.tree) row → has_key key row ≡ true → column row 1 ≡ Text key)
      → length rows ≤ 1
  at_most_one key [] are texts = omega arith
  at_most_one key (a ∷ []) are texts = omega arith
  at_most_one key (a ∷ b ∷ more) are texts =
      let second = has_filtered (has_key key) (db table.tree) b
      (subst (λ l. Has l b) (sym are) (inr (inl refl))) in
      absurd (two_rows key a b more are (texts b second.0 second.1))

  pub one_of_a_key : (key : List ℕ) → ((row : Row) → Has (db table.tree) row
      → has_key key row ≡ true → column row 1 ≡ Text key)
      → length (filter (has_key key) (db table.tree)) ≤ 1
  one_of_a_key key texts = at_most_one key (filter (has_key key) (db table.tree)) refl texts
