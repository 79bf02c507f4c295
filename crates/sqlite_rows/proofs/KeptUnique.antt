-- No two rows share a key after an edit, if none of its rows shares one with another.
use Rattle.sqlite_rows.proofs.Common.{◌≡◌, ◌≢◌, inl, inr, Bool, true, false, not, ◌||◌, cond, Some, [], ◌∷◌, refl, sym, ap, subst, ◌∙◌, and_parts, true≢false, false_from_ne_true, ne_eqb, eq-eqb, Row, Trees, Schema, Index, Unique, Keeps, agree, differ, guards, IsAscending, IsTable, rowid, with_tree, is_null, is_true, from_truth, Value, Edit, are_fresh, left_by, edited, put_all, Has, all_from, test_from, some_has, unique_kept, put_has}
use Rattle.sqlite_sql.specs.Ops.{binary}
use Rattle.sqlite_value.specs.declared.value.Value.TheVariants.{Null}
use Rattle.sqlite_rules.proofs.EditLemmas.{turns}
use Rattle.sqlite_rows.proofs.Keyed.{same_value_cmp}

untrue : (b : Bool) → is_true (cond b Null (from_truth (Some false))) ≡ false
untrue true = refl
untrue false = refl

-- a value is no other than itself
pub never_differs : (v : Value) → differ v v ≡ false
unfolding binary
never_differs v = rw (same_value_cmp v) (untrue (is_null v || is_null v))

module _ (schema : Schema) (db : Trees) (edit : Edit)
    (apart : IsAscending (λ a b. a.tree ≡ b.tree → ⊥) schema.tables)
    (listed : Has schema.tables edit.table) (ordered : IsTable (db edit.table.tree))
    (fresh : are_fresh (left_by db edit) edit.news ≡ true) where
  pub unique_edit : ((i : Index) → Has schema.indexes i → guards i edit.table ≡ true
      → (n r : Row) → Has edit.news n → Has (edited db edit) r
      → agree i.order i.columns r i.columns n ≡ true → differ (rowid r) (rowid n) ≡ false)
      → Keeps Unique schema db → Keeps Unique schema (with_tree db edit.table.tree (edited db edit))
  unique_edit alone kept =
      let next = with_tree db edit.table.tree (edited db edit) in
      let here : next edit.table.tree ≡ edited db edit =
      ap (λ b. cond b (edited db edit) (db edit.table.tree)) (eq-eqb _ _ refl) in
      let others = all_from (λ t. t.tree ≢ edit.table.tree → next t.tree ≡ db t.tree) schema.tables
      (λ t known other. ap (λ b. cond b (edited db edit) (db t.tree)) (ne_eqb _ _ other)) in
      unique_kept schema db next edit.table _ _ edit.news
      (turns schema db next edit apart listed ordered fresh here others)
      (test_from _ schema.indexes (λ i known. ap not (false_from_ne_true _ (λ both.
      let parts = and_parts _ _ both in
      let row = some_has _ edit.news parts.1 in
      let shared = some_has _ _ row.2 in
      let share = and_parts _ _ shared.2 in
      true≢false (sym share.1 ∙ alone i known parts.0 row.0 shared.0 row.1
      (subst (λ l. Has l shared.0) here shared.1) share.0)))))
      kept

  -- of one row, with a key of its own
  pub unique_added : (new : Row) → edit.news ≡ new ∷ []
      → ((i : Index) → Has schema.indexes i → guards i edit.table ≡ true → (r : Row)
      → Has (left_by db edit) r → agree i.order i.columns r i.columns new ≡ false)
      → Keeps Unique schema db → Keeps Unique schema (with_tree db edit.table.tree (edited db edit))
  unique_added new one alone =
      unique_edit (λ i known guarded n r has there agrees.
      let is : n ≡ new = elim (subst (λ l. Has l n) one has) [
        | inl same ↦ same
        | inr none ↦ absurd none
      ] in
      elim (put_has new (left_by db edit) r
      (subst (λ l. Has (put_all (left_by db edit) l) r) one there)) [
        | inl same ↦ subst (λ m. differ (rowid r) (rowid m) ≡ false) (same ∙ sym is)
            (never_differs (rowid r))
        | inr was ↦ absurd (true≢false
            (sym (subst (λ m. agree i.order i.columns r i.columns m ≡ true) is agrees)
            ∙ alone i known guarded r was))
      ])

  -- of no row
  pub unique_less : edit.news ≡ [] → Keeps Unique schema db
      → Keeps Unique schema (with_tree db edit.table.tree (edited db edit))
  unique_less none =
      unique_edit (λ i known guarded n r has there agrees. absurd (subst (λ l. Has l n) none has))
