-- What a CREATE TABLE makes of a database, over any schema.
use Rattle.sqlite_rows.proofs.Common.{◌≡◌, ℕ, false, List, [], Option, None, Ok, sym, ap, subst, ◌∙◌, Row, Table, Schema, Trees, CreateTable, table_defined_by, created, next_tree, KeepsRows, Tally, Does, lacks_sequence, Database, understood, Mode, State, mode_of, Writes, ExecutesInside, IsPlain, command_of, statement_of, runs_as}
use Rattle.sqlite_rows.proofs.Inserting.{went, same_value}

-- one table more, with no rows, and the others as they were
pub record Creates (schema after : Schema) (old new : Database) : Type 0 where
  pub schema_is : new.schema ≡ after
  pub empty : new.trees (next_tree schema) ≡ []
  pub others : KeepsRows schema.tables old.trees new.trees

module _ (schema after : Schema) (sql : List ℕ) (table : Table)
    (defined : table_defined_by sql ≡ Ok table) (is : created schema table ≡ after)
    (plain : lacks_sequence after ≡ false) where
  pub makes : (limit : Option ℕ) (mode : Mode) (params : Row) (db new : Database) (tally : Tally)
      → db.schema ≡ schema → Does limit mode params db sql None CreateTable (Ok (tally, new))
      → Creates schema after db new
  makes limit mode params db new tally has h =
      let all = went h in
      let first = went all.1 in
      let made = first.1 in
      let both : Ok made.table ≡ Ok table = sym made.defined ∙ defined in
      let same : made.table ≡ table = cc in
      let schema_now : first.0.schema ≡ after =
      made.is ∙ ap (λ s. created s made.table) has ∙ ap (created schema) same ∙ is in
      let whole : lacks_sequence first.0.schema ≡ false = ap lacks_sequence schema_now ∙ plain in
      let now : new ≡ first.0 = ap (λ (p : Tally × Database). p.1) (same_value all.2)
      ∙ same_value (rw whole at first.2) in
      record {
        schema_is = ap (λ (d : Database). d.schema) now ∙ schema_now;
        empty = ap (λ (d : Database). d.trees (next_tree schema)) now
            ∙ subst (λ s. first.0.trees (next_tree s) ≡ []) has made.empty;
        others = subst (λ (t : Trees). KeepsRows schema.tables db.trees t)
            (sym (ap (λ (d : Database). d.trees) now))
            (subst (λ (s : Schema). KeepsRows s.tables db.trees first.0.trees) has made.others);
      }

module _ (old new : State) where
  -- one CREATE inside a transaction
  pub creates : (sql : List ℕ) (schema after : Schema) (table : Table)
      (defined : table_defined_by sql ≡ Ok table) (is : created schema table ≡ after)
      → lacks_sequence after ≡ false
      → command_of (understood schema sql) ≡ CreateTable
      → statement_of sql (understood schema sql) ≡ sql → IsPlain (understood schema sql)
      → (count : ℕ) → old.now.schema ≡ schema
      → ExecutesInside 0 sql [] old new (Ok count)
      → Creates schema after old.now new.now × Writes old new None CreateTable sql [] count
  creates sql schema after table defined is whole command text plain count has h =
      let w : Writes old new None CreateTable sql [] count =
      subst (λ t. Writes old new None CreateTable t [] count) text
      (runs_as sql [] old new schema has CreateTable command plain count h.0) in (
        makes schema after sql table defined is whole old.step_limit
            (mode_of old) [] old.now new.now w.tally has w.changed,
        w,
      )
