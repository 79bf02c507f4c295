-- Why a DELETE stops, of the rows that pass a test or of all.
use Rattle.sqlite_rows.proofs.Common.{◌≡◌, inl, inr, ℕ, Bool, true, List, [], ◌∷◌, map, filter, Option, Some, None, Err, IsSome, IsPermutation, sym, ◌∙◌, refl, true≢false, Row, column, IsAnswer, Term, col, holds, Table, Schema, Trees, edit_of, Given, Delete, OnRows, Task, Deletes, Error, Program, Enforced, All, Unique, Refers, Keeps, ProgramOverflows, IsAscending, IsShaped, accepts_program, works, ids_of, is_referred, Has}
use Rattle.sqlite_trees.specs.declared.store.Shape.TheVariants as shape
use Rattle.sqlite_rows.proofs.Dropping.{Loses, all_found, takes_out}
use Rattle.sqlite_rows.proofs.Finding.{scan, found}
use Rattle.sqlite_rows.proofs.KeptUnique.{unique_less}
use Rattle.sqlite_rows.proofs.Stopping.{IsAllowed, never_stops, concluded, at_once}

-- what is to be done to a table, if foreign keys are enforced
abbrev pub enforced : Schema → Table → Option ℕ → Row → Task
enforced schema table limit params = record {
  limit = limit;
  keys = Enforced;
  schema = schema;
  table = table;
  params = params;
}

module _ (schema : Schema) (at : ℕ) (table : Table) (listed : Has schema.tables table)
    (apart : IsAscending (λ a b. a.tree ≡ b.tree → ⊥) schema.tables)
    (idle : (olds : List Row) → works schema Enforced 0 table.tree olds [] ≡ [])
    (limit : Option ℕ) (params : Row) (db : Trees) (test : Row → Bool) (tests : List Term)
    (finds : (rows : List Row) → IsAnswer (scan table.tree tests (col 1 0 ∷ []) []) db params rows
    → IsPermutation (map (λ r. column r 0 ∷ []) (filter test (db table.tree))) rows)
    (keyed : IsShaped shape.Table (db table.tree)) (unique : Keeps Unique schema db) where
  abbrev program : Program
  program = record { lets = []; body = scan table.tree tests (col 1 0 ∷ []) [] }

  abbrev task : Task
  task = enforced schema table limit params

  allowed : (rows : List Row)
      → is_referred schema Enforced (edit_of db table (ids_of rows) Given 0 []) ≡ true
      → IsAllowed schema Enforced db (edit_of db table (ids_of rows) Given 0 [])
  allowed rows referred = record {
    typed = refl;
    present = refl;
    checked = refl;
    keyed = refl;
    numbers = refl;
    fresh = refl;
    unique = unique_less schema db (edit_of db table (ids_of rows) Given 0 []) apart listed keyed.0
        refl refl unique;
    referred = referred;
    small = λ row has. absurd has;
  }

  module _ (typed : accepts_program schema [] program.body params ≡ true)
      (safe : ProgramOverflows db params [] [] program.body → ⊥)
      (referred : (rows : List Row)
      → is_referred schema Enforced (edit_of db table (ids_of rows) Given 0 []) ≡ true)
      (refers : (next : Trees) → Loses schema table test
      (record { schema = schema; trees = db }) (record { schema = schema; trees = next })
      → Refers All schema next) where
    deleted : (stop : Option Error) → Deletes task program db (Err stop) → IsSome limit
    deleted stop (inl (None, none, is)) = absurd none
    deleted stop (inl (Some e, inl ill, is)) = absurd (true≢false (sym typed ∙ ill.1))
    deleted stop (inl (Some e, inr (inl over), is)) = absurd (safe over.1)
    deleted stop (inl (Some e, inr (inr limited), is)) = limited.1
    deleted stop (inr (rows, answered, inl (why, (what, stops, are), is))) =
        absurd (never_stops schema Enforced db (edit_of db table (ids_of rows) Given 0 [])
        (allowed rows (referred rows)) (idle _) what stops)
    deleted stop (inr (rows, answered, inr (next, made, gives))) = absurd (let e = gives in cc)

    deletes_stop : (stop : Option Error)
        → OnRows task at_once None (Delete at program) db (Err stop) → IsSome limit
    deletes_stop stop (inl (why, deletes, is)) = deleted why deletes
    deletes_stop stop (inr (w, deletes, ends)) =
        absurd (concluded task at_once refl w stop (refers w.trees
        (takes_out schema at table limit at_once params idle test tests db w keyed finds
        deletes)) ends)

module _ (schema : Schema) (at : ℕ) (table : Table) (listed : Has schema.tables table)
    (apart : IsAscending (λ a b. a.tree ≡ b.tree → ⊥) schema.tables)
    (idle : (olds : List Row) → works schema Enforced 0 table.tree olds [] ≡ [])
    (limit : Option ℕ) (params : Row) (db : Trees) where
  -- of the rows that a term finds
  pub delete_stops : (test : Term) (keyed : IsShaped shape.Table (db table.tree))
      (unique : Keeps Unique schema db)
      → accepts_program schema [] (scan table.tree (test ∷ []) (col 1 0 ∷ []) []) params ≡ true
      → (ProgramOverflows db params [] [] (scan table.tree (test ∷ []) (col 1 0 ∷ []) []) → ⊥)
      → ((rows : List Row)
      → is_referred schema Enforced (edit_of db table (ids_of rows) Given 0 []) ≡ true)
      → ((next : Trees) → Loses schema table (λ r. holds (params ∷ r ∷ []) test)
      (record { schema = schema; trees = db }) (record { schema = schema; trees = next })
      → Refers All schema next) → (stop : Option Error)
      → OnRows (enforced schema table limit params) at_once None
      (Delete at (record { lets = []; body = scan table.tree (test ∷ []) (col 1 0 ∷ []) [] })) db
      (Err stop) → IsSome limit
  delete_stops test keyed unique typed safe referred refers =
      deletes_stop schema at table listed apart idle limit params db
      (λ r. holds (params ∷ r ∷ []) test) (test ∷ [])
      (λ rows a. found table.tree (col 1 0 ∷ []) [] db params rows test a) keyed unique typed safe
      referred refers

  -- of all rows
  pub clear_stops : (keyed : IsShaped shape.Table (db table.tree)) (unique : Keeps Unique schema db)
      → accepts_program schema [] (scan table.tree [] (col 1 0 ∷ []) []) params ≡ true
      → (ProgramOverflows db params [] [] (scan table.tree [] (col 1 0 ∷ []) []) → ⊥)
      → ((rows : List Row)
      → is_referred schema Enforced (edit_of db table (ids_of rows) Given 0 []) ≡ true)
      → ((next : Trees) → Loses schema table (λ r. true)
      (record { schema = schema; trees = db }) (record { schema = schema; trees = next })
      → Refers All schema next) → (stop : Option Error)
      → OnRows (enforced schema table limit params) at_once None
      (Delete at (record { lets = []; body = scan table.tree [] (col 1 0 ∷ []) [] })) db (Err stop)
      → IsSome limit
  clear_stops keyed unique typed safe referred refers =
      deletes_stop schema at table listed apart idle limit params db (λ r. true) []
      (λ rows a. all_found table.tree db params rows a) keyed unique typed safe referred refers
