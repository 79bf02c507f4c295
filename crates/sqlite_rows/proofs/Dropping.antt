-- What a DELETE makes of a database, over any schema.
use Rattle.sqlite_rows.proofs.Common.{◌≡◌, ◌≢◌, ℕ, Bool, true, not, List, [], ◌∷◌, map, filter, Option, None, Ok, refl, sym, ap, subst, ◌∙◌, IsPermutation, AllByRecursion, Row, column, Null, Term, col, holds, Table, Schema, Delete, IsAnswer, Trees, IsShaped, filter_all, filter_none, all_of, edit_of, works, ids_of, Given, Tally, OnRows, Written, Task, Deletes, Database, Mode, one_step}
use Rattle.sqlite_trees.specs.declared.store.Shape.TheVariants as shape
use Rattle.sqlite_rows.proofs.Inserting.{went, same_value}
use Rattle.sqlite_rows.proofs.Finding.{scan, overlaid, found, found_all}
use Rattle.sqlite_rows.proofs.Keyed.{left_are}

-- the table has no row that passes the test, and is as it was but for that
pub record Loses (schema : Schema) (table : Table) (test : Row → Bool)
    (db after : Database) : Type 0 where
  pub schema_is : after.schema ≡ schema
  pub rows : after.trees table.tree ≡ filter (λ r. not (test r)) (db.trees table.tree)
  pub tables : AllByRecursion (λ t. t.tree ≢ table.tree
      → after.trees t.tree ≡ db.trees t.tree) schema.tables

-- a scan without tests finds all rows
pub all_found : (tree : ℕ) (db : Trees) (params : Row) (rows : List Row)
    → IsAnswer (scan tree [] (col 1 0 ∷ []) []) db params rows
    → IsPermutation (map (λ (r : Row). column r 0 ∷ []) (filter (λ r. true) (db tree))) rows
all_found tree db params rows a =
    subst (λ all. IsPermutation (map (λ (r : Row). column r 0 ∷ []) all) rows)
    (sym (filter_all (λ r. true) (db tree) (all_of (λ r. true ≡ true) (λ r. refl) (db tree))))
    (found_all tree (col 1 0 ∷ []) [] db params rows a)

module _ (schema : Schema) (at : ℕ) (table : Table) (limit : Option ℕ) (mode : Mode) (params : Row)
    (idle : (olds : List Row) → works schema mode.keys 0 table.tree olds [] ≡ []) where
  abbrev task : Task
  task = record { limit = limit; keys = mode.keys; schema = schema; table = table; params = params }

  -- for any test that tells which rows the query finds
  pub takes_out : (test : Row → Bool) (tests : List Term) (db : Trees) (w : Written)
      → IsShaped shape.Table (db table.tree)
      → ((rows : List Row) → IsAnswer (scan table.tree tests (col 1 0 ∷ []) []) db params rows
      → IsPermutation (map (λ r. column r 0 ∷ []) (filter test (db table.tree))) rows)
      → Deletes task (record { lets = []; body = scan table.tree tests (col 1 0 ∷ []) [] }) db
      (Ok w)
      → Loses schema table test (record { schema = schema; trees = db })
      (record { schema = schema; trees = w.trees })
  takes_out test tests db w keyed finds h =
      let asked = went h in
      let among = finds asked.0
      (subst (λ t. IsAnswer (scan table.tree tests (col 1 0 ∷ []) []) t params asked.0)
      (overlaid db) (asked.1.answer Null)) in
      let written = went asked.2 in
      let one = one_step schema mode.keys db written.0
      (edit_of db table (ids_of asked.0) Given 0 []) (idle _) written.1 in
      let trees : w.trees ≡ written.0 = ap (λ (it : Written). it.trees) (same_value written.2) in
      record {
        schema_is = refl;
        rows = ap (λ (t : Trees). t table.tree) trees ∙ one.rows
            ∙ left_are (db table.tree) keyed test (λ r. column r 0 ∷ []) (λ r. refl) asked.0 among;
        tables = subst (λ (t : Trees). AllByRecursion (λ u. u.tree ≢ table.tree
            → t u.tree ≡ db u.tree) schema.tables) (sym trees) one.tables;
      }

  drops_as : (test : Row → Bool) (tests : List Term) (db : Trees) (after : Database) (tally : Tally)
      → IsShaped shape.Table (db table.tree)
      → ((rows : List Row) → IsAnswer (scan table.tree tests (col 1 0 ∷ []) []) db params rows
      → IsPermutation (map (λ r. column r 0 ∷ []) (filter test (db table.tree))) rows)
      → OnRows task mode None
      (Delete at (record { lets = []; body = scan table.tree tests (col 1 0 ∷ []) [] })) db
      (Ok (tally, after))
      → Loses schema table test (record { schema = schema; trees = db }) after
  drops_as test tests db after tally keyed finds h =
      let done = went h in
      let now = ap (λ (p : Tally × Database). p.1) (same_value (went (went done.2).2).2) in
      subst (λ d. Loses schema table test (record { schema = schema; trees = db }) d) (sym now)
      (takes_out test tests db done.0 keyed finds done.1)

  pub drops : (test : Term) (db : Trees) (after : Database) (tally : Tally)
      → IsShaped shape.Table (db table.tree)
      → OnRows task mode None
      (Delete at (record { lets = []; body = scan table.tree (test ∷ []) (col 1 0 ∷ []) [] }))
      db (Ok (tally, after))
      → Loses schema table (λ r. holds (params ∷ r ∷ []) test)
      (record { schema = schema; trees = db }) after
  drops test db after tally keyed h =
      drops_as (λ r. holds (params ∷ r ∷ []) test) (test ∷ []) db after tally keyed
      (λ rows a. found table.tree (col 1 0 ∷ []) [] db params rows test a) h

  -- with no WHERE
  pub clears : (db : Trees) (after : Database) (tally : Tally)
      → IsShaped shape.Table (db table.tree)
      → OnRows task mode None
      (Delete at (record { lets = []; body = scan table.tree [] (col 1 0 ∷ []) [] })) db
      (Ok (tally, after))
      → Loses schema table (λ r. true) (record { schema = schema; trees = db }) after
  clears db after tally keyed h =
      drops_as (λ r. true) [] db after tally keyed
      (λ rows a. all_found table.tree db params rows a) h

pub none_left : (rows : List Row) → filter (λ r. not true) rows ≡ []
none_left rows =
    filter_none (λ r. not true) rows (all_of (λ r. not true ≡ not true) (λ r. refl) rows)
