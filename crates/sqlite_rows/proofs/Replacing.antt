-- What `INSERT .. ON CONFLICT (key) DO UPDATE` of one row makes of a database, over any schema.
use Rattle.sqlite_rows.proofs.Common.{IsSome, Err, nat_lt, ◌||◌, ◌≡◌, ◌≢◌, ◌⊎◌, inl, inr, ℕ, ℤ, ◌/◌, Bool, true, false, not, ◌&&◌, cond, List, [], ◌∷◌, ◌++◌, map, filter, drop, length, Option, Some, None, Ok, refl, sym, ap, ap₂, subst, ◌∙◌, IsPermutation, IsTrue, AllByRecursion, list_any, is_eq, false_from_ne_true, true≢false, and_from, and_parts, not-true, filter_agree, IsPermutation-refl, Row, column, Binary, plain, value_cmp, Null, Int, Text, Term, col, op2, eval_all, holds, Table, Schema, Index, Datatype, NotNull, Check, PrimaryKey, Unique, ForeignKey, agree, clashes, differ, equal, guards, references_fit, Fits, Keeps, Refers, Values, InsertOr, IsAnswer, Trees, rowid, put_row, is_int, IsShaped, filter_all, filter_same, all_of, edit_of, Edit, IsOversized, is_off, Applies, id_in, is_taken, taken_by, are_fresh, with_rowid, next_rowid, without_all, works, ids_of, Has, Refusal, all_has, all_from, test_has, some_has, some_from, has_kept, has_filtered, keeps_at, has_put, put_all_keeps, int_is, without_all_has, IsShaped-filter, Given, Chosen, Above, cast_all, cast_row, Tally, OnRows, due, Error, Program, All, ProgramOverflows, fits_i64, accepts_program, accepts_terms, IsAscending, Violates, Mismatch, NoRowid, BadReference, TooDeep, next_is_free, Written, Task, stamped, shown, Judged, Upserts, Meets, Clears, Puts, Updates, nothing, Tries, TriesEach, InsertsOr, rowids_for, count_of, Database, value_rows, Mode, one_step, one_permutation}
use Rattle.sqlite_value.specs.Keys.{first_key}
use Rattle.sqlite.specs.declared.types.Value.{Value}
use Rattle.sqlite_sql.specs.declared.ops.BinaryOp.TheVariants.{Compare}
use Rattle.sqlite_sql.specs.declared.ops.CompareOp.TheVariants.{Eq}
use Rattle.sqlite_schema.specs.declared.command.Conflict.TheVariants.{Abort}
use Rattle.sqlite_schema.specs.declared.command.Upsert.{Upsert}
use Rattle.sqlite_trees.specs.declared.store.Shape.TheVariants as shape
use Rattle.sqlite_rules.specs.Keys.{AreConflicts, conflicts}
use Rattle.sqlite_rules.specs.Steps.{PassAlone, IsJudged}
use Rattle.sqlite_rules.specs.Action.{Writes}
use Rattle.sqlite_rows.proofs.KeptUnique.{unique_added}
use Rattle.sqlite_rows.proofs.Stopping.{IsAllowed, never_stops, concluded}
use Rattle.sqlite_rows.proofs.Inserting.{went, same_value, if_not, counts_none}
use Rattle.sqlite_rows.proofs.Finding.{scan, overlaid, found}
use Rattle.sqlite_rows.proofs.Keyed.{left_are, just_one, one_row, same_value_cmp}
use Rattle.sqlite_rows.proofs.ValueLemmas.{equal_text, ints_equal, ints_differ, cast_null, cast_int}
use Rattle.sqlite_rows.proofs.Bags.{has_key}

-- the table has one row with these values in place of those that have its key, and each other table
-- is as it was
pub record Replaces (schema : Schema) (table : Table) (key : List ℕ) (db after : Database)
    (values : Row) : Type 0 where
  pub schema_is : after.schema ≡ schema
  pub new : Row
  pub values_are : drop 1 new ≡ values
  -- with the number after the others, or with that of the row of its key
  pub numbered_by : (rowid new ≡ Int (next_rowid (db.trees table.tree)))
      ⊎ ((r : Row) × Has (db.trees table.tree) r × (rowid r ≡ rowid new))
  pub keyed : IsTrue (is_int (rowid new))
  pub fresh : is_taken (filter (λ r. not (has_key key r)) (db.trees table.tree)) new ≡ false
  pub rows : after.trees table.tree ≡ put_row new
      (filter (λ r. not (has_key key r)) (db.trees table.tree))
  pub tables : AllByRecursion (λ t. t.tree ≢ table.tree
      → after.trees t.tree ≡ db.trees t.tree) schema.tables

fresh_alone : (b : Bool) → not b && true ≡ true → b ≡ false
fresh_alone true e = cc
fresh_alone false e = refl

pub not_both : (a b : Bool) → not (a && b) ≡ true → a ≡ true → b ≡ false
not_both true true h e = absurd (let f : false ≡ true = h in cc)
not_both true false h e = refl
not_both false b h e = absurd (true≢false (sym e))

-- if a table's key is a text in its first column, guarded by the index
module _ (schema : Schema) (table : Table) (listed : Has schema.tables table) (index : Index)
    (guarded : Has schema.indexes index) (guards_it : guards index table ≡ true)
    (at_first : index.columns ≡ 1 ∷ []) (in_order : index.order ≡ plain) where
  -- no row beside the new one has its key
  others_differ : (next : Trees) (new : Row) (left : List Row) (key : List ℕ) → Fits schema next
      → next table.tree ≡ put_row new left → are_fresh left (new ∷ []) ≡ true
      → IsTrue (is_int (rowid new)) → AllByRecursion (λ r. IsTrue (is_int (rowid r))) left
      → column new 1 ≡ Text key → (r : Row) → Has left r → has_key key r ≡ false
  unfolding first_key
  others_differ next new left key fits rows fresh int ints is r has =
      let all = keeps_at Unique schema next table new (fits.rules Unique (λ e. let f = e in
      cc)) listed (subst (λ l. Has l new) (sym rows) (has_put new left)) in
      let alone : clashes index.order index.columns (next table.tree) new ≡ false =
      not_both (guards index table) _
      (test_has (λ i. not (guards i table && clashes i.order i.columns (next table.tree) new))
      schema.indexes index all guarded) guards_it in
      let here : list_any (λ other. agree plain (1 ∷ []) other (1 ∷ []) new && differ (rowid other)
      (rowid new)) (next table.tree) ≡ false =
      subst (λ o. clashes o (1 ∷ []) (next table.tree) new ≡ false) in_order
      (subst (λ cs. clashes index.order cs (next table.tree) new ≡ false) at_first alone) in
      let apart : is_eq (value_cmp (rowid r) (rowid new)) ≡ false =
      false_from_ne_true _
      (λ same. true≢false
      (sym (some_from (λ x. is_eq (value_cmp (rowid x) (rowid new))) left r has same)
      ∙ fresh_alone _ fresh)) in
      false_from_ne_true _ (λ shares.
      let there : Has (next table.tree) r =
      subst (λ l. Has l r) (sym rows) (put_all_keeps (new ∷ []) left r fresh has) in
      let agrees : agree plain (1 ∷ []) r (1 ∷ []) new ≡ true =
      and_from _ _ (ap (equal Binary (column r 1)) is ∙ shares) refl in
      true≢false (sym
      (some_from (λ other. agree plain (1 ∷ []) other (1 ∷ []) new && differ (rowid other)
      (rowid new)) (next table.tree) r there
      (and_from _ _ agrees (ints_differ (rowid r) (rowid new)
      (all_has (λ x. IsTrue (is_int (rowid x))) left r ints has) int apart))) ∙ here))

  abbrev over : Trees → Database
  over db = record { schema = schema; trees = db }

  -- the row that was put stands in place of each of its key
  pub settles : (db next : Trees) (p : Row → Bool) (key : List ℕ) (rest : Row) (id : ℤ)
      → (id ≡ next_rowid (db table.tree))
      ⊎ ((r : Row) × Has (db table.tree) r × (rowid r ≡ Int id))
      → IsShaped shape.Table (db table.tree)
      → ((r : Row) → Has (db table.tree) r → p r ≡ true → has_key key r ≡ true)
      → next table.tree ≡ put_row (Int id ∷ Text key ∷ rest)
      (filter (λ r. not (p r)) (db table.tree))
      → are_fresh (filter (λ r. not (p r)) (db table.tree)) ((Int id ∷ Text key ∷ rest) ∷ [])
      ≡ true → Fits schema next
      → AllByRecursion (λ t. t.tree ≢ table.tree → next t.tree ≡ db t.tree) schema.tables
      → Replaces schema table key (over db) (over next) (Text key ∷ rest)
  settles db next p key rest id from keyed named rows fresh fits tables =
      let new : Row = Int id ∷ Text key ∷ rest in
      let left = filter (λ r. not (p r)) (db table.tree) in
      let ints = (IsShaped-filter shape.Table (λ r. not (p r)) (db table.tree) keyed).1 in
      let stays = others_differ next new left key fits rows fresh refl ints refl in
      let agrees : (r : Row) → Has (db table.tree) r → (b : Bool) → p r ≡ b
      → p r ≡ has_key key r = λ r has b is.
      elim b as (λ b. p r ≡ b → p r ≡ has_key key r) [
        | true
            ↦ (λ yes. yes ∙ sym (named r has yes))
        | false
            ↦ (λ not_it. not_it
            ∙ sym (stays r (has_kept (λ x. not (p x)) (db table.tree) r has (ap not not_it))))
      ] is in
      let same : left ≡ filter (λ r. not (has_key key r)) (db table.tree) =
      filter_same (λ r. not (p r)) (λ r. not (has_key key r)) (db table.tree)
      (all_from (λ r. not (p r) ≡ not (has_key key r)) (db table.tree)
      (λ r has. ap not (agrees r has (p r) refl))) in
      record {
        schema_is = refl;
        new = new;
        values_are = refl;
        numbered_by = elim from [ inl is ↦ inl (ap Int is) | inr old ↦ inr old ];
        keyed = refl;
        fresh = subst (λ l. is_taken l new ≡ false) same (fresh_alone _ fresh);
        rows = rows ∙ ap (put_row new) same;
        tables = tables;
      }

  module _ (limit : Option ℕ) (mode : Mode)
      (idle : (olds news : List Row) → works schema mode.keys 0 table.tree olds news ≡ [])
      (uncounted : table.is_counted ≡ false) (key : List ℕ) (rest params : Row)
      (typed : cast_all table.columns (Text key ∷ rest) ≡ Text key ∷ rest) where
    abbrev task : Task
    task = record {
      limit = limit;
      keys = mode.keys;
      schema = schema;
      table = table;
      params = params;
    }

    abbrev row_at : ℤ → Row
    row_at id = Int id ∷ Text key ∷ rest

    typed_at : (id : ℤ) → cast_row table (row_at id) ≡ row_at id
    typed_at id = λ i. cast_int id i ∷ typed i

    -- no row of the key was there
    pub put_new : (db : Trees) (id : ℤ) (one : Written) → id ≡ next_rowid (db table.tree)
        → IsShaped shape.Table (db table.tree)
        → Puts task (row_at id) db (Ok one)
        → Replaces schema table key (over db) (over one.trees) (Text key ∷ rest)
    put_new db id one last keyed h =
        let w = went h in
        let edit = edit_of db table [] Given 0 (row_at id ∷ []) in
        let it = one_step schema mode.keys db w.0 edit (idle (taken_by db edit) edit.news) w.1 in
        let all : filter (λ r. not false) (db table.tree) ≡ db table.tree =
        filter_all (λ r. not false) (db table.tree)
        (all_of (λ r. not false ≡ true) (λ r. refl) (db table.tree)) in
        let trees : w.0 ≡ one.trees = ap (λ (x : Written). x.trees) (sym (same_value w.2)) in
        subst (λ t. Replaces schema table key (over db) (over t) (Text key ∷ rest)) trees
        (settles db w.0 (λ r. false) key rest id (inl last) keyed
        (λ r has no. absurd (true≢false (sym no)))
        (it.rows ∙ ap₂ put_row (typed_at id) (sym all))
        (subst (λ l. are_fresh l (row_at id ∷ []) ≡ true) (sym all)
        (subst (λ n. are_fresh (db table.tree) (n ∷ []) ≡ true) (typed_at id) it.fresh)) it.fits
        it.tables)

    module _ (k : ℕ) (project : List Term) (at_there : (there : Value) (more : Row)
        → column (params ++ there ∷ more) k ≡ there)
        (projected : (there : Value) (id : ℤ) (r : Row)
        → eval_all project ((params ++ there ∷ shown table (row_at id)) ∷ r ∷ []) ≡ column r 0
        ∷ column r 0 ∷ column r 1 ∷ rest)
        (only : (new r : Row) → conflicts (Some (1 ∷ [])) schema.indexes table new r ≡ true
        → equal Binary (column r 1) (column new 1) ≡ true) where
      abbrev test : Term
      test = op2 (Compare Eq Binary) (col 1 0) (col 0 k)

      abbrev clause : Upsert
      clause = record {
        target = Some (1 ∷ []);
        update = Some (record { lets = []; body = scan table.tree (test ∷ []) project [] });
      }

      -- what the update makes of a row
      abbrev after : Row → Row
      after r = column r 0 ∷ column r 0 ∷ column r 1 ∷ rest

      module _ (db : Trees) (id : ℤ) (was : Row) (keyed : IsShaped shape.Table (db table.tree))
          (has : Has (db table.tree) was)
          (clashes_it : conflicts (Some (1 ∷ [])) schema.indexes table (row_at id) was ≡ true) where
        abbrev given : Row
        given = params ++ rowid was ∷ shown table (row_at id)

        abbrev is_it : Row → Bool
        is_it r = equal Binary (rowid r) (rowid was)

        int_was : IsTrue (is_int (rowid was))
        int_was = all_has (λ x. IsTrue (is_int (rowid x))) (db table.tree) was keyed.1 has

        key_is : column was 1 ≡ Text key
        key_is = equal_text (column was 1) key (only (row_at id) was clashes_it)

        names : (r : Row) → Has (db table.tree) r → is_it r ≡ true → r ≡ was
        names r here is =
            one_row (db table.tree) keyed r was here has (ap (λ v. is_eq (value_cmp (rowid r) v))
            (sym (int_is (rowid was) int_was))
            ∙ (sym (ints_equal (rowid r) (rowid was)
            (all_has (λ x. IsTrue (is_int (rowid x))) (db table.tree) r keyed.1 here) int_was)
            ∙ is))

        just : filter is_it (db table.tree) ≡ was ∷ []
        just =
            just_one is_it was (db table.tree) keyed.0 has
            (ints_equal (rowid was) (rowid was) int_was int_was
            ∙ ap is_eq (same_value_cmp (rowid was)))
            names

        -- the update shows what it makes of that row
        shows_it : (rows : List Row)
            → IsAnswer (scan table.tree (test ∷ []) project []) db given rows
            → rows ≡ after was ∷ []
        shows_it rows a =
            let tests : filter (λ r. holds (given ∷ r ∷ []) test) (db table.tree)
            ≡ filter is_it (db table.tree) =
            filter_agree (λ r. holds (given ∷ r ∷ []) test) is_it
            (λ r. ap (equal Binary (rowid r)) (at_there (rowid was) (shown table (row_at id))))
            (db table.tree) in
            let one_found : map (λ r. eval_all project (given ∷ r ∷ []))
            (filter (λ r. holds (given ∷ r ∷ []) test) (db table.tree)) ≡ after was ∷ [] =
            ap (map (λ r. eval_all project (given ∷ r ∷ []))) (tests ∙ just)
            ∙ ap (λ x. x ∷ []) (projected (rowid was) id was) in
            one_permutation (after was) rows (subst (λ l. IsPermutation l rows) one_found
            (found table.tree project [] db given rows test a))

        new_over : cast_row table (column was 0 ∷ column was 1 ∷ rest) ≡ row_at (id_in (rowid was))
        new_over =
            ap₂ (λ v u. cast_row table (v ∷ u ∷ rest)) (int_is (rowid was) int_was) key_is
            ∙ typed_at (id_in (rowid was))

        left_over : without_all (db table.tree) (ids_of (after was ∷ []))
            ≡ filter (λ r. not (is_it r)) (db table.tree)
        left_over =
            left_are (db table.tree) keyed is_it after (λ r. refl) (after was ∷ [])
            (subst (λ l. IsPermutation (map after l) (after was ∷ [])) (sym just)
            (IsPermutation-refl (after was ∷ [])))

      -- the row of the key is written over
      pub put_over : (db : Trees) (id : ℤ) (was : Row) (one : Written)
          → IsShaped shape.Table (db table.tree) → Has (db table.tree) was
          → conflicts (Some (1 ∷ [])) schema.indexes table (row_at id) was ≡ true
          → Updates task (record { lets = []; body = scan table.tree (test ∷ []) project [] })
          (params ++ rowid was ∷ shown table (row_at id)) db (Ok one)
          → Replaces schema table key (over db) (over one.trees) (Text key ∷ rest)
      put_over db id was one keyed has clashes_it h =
          let rows = db table.tree in
          let p = is_it db id was keyed has clashes_it in
          let asked = went h in
          let a : IsAnswer (scan table.tree (test ∷ []) project []) db
          (given db id was keyed has clashes_it) asked.0 =
          subst (λ t. IsAnswer (scan table.tree (test ∷ []) project []) t
          (given db id was keyed has clashes_it) asked.0)
          (overlaid db) (asked.1.answer Null) in
          let shows = shows_it db id was keyed has clashes_it asked.0 a in
          let w = went asked.2 in
          let it = subst (λ l. Applies schema mode.keys db (edit_of db table (ids_of l) Given 1 l)
          w.0) shows
          (one_step schema mode.keys db w.0 (edit_of db table (ids_of asked.0) Given 1 asked.0)
          (idle _ _) w.1) in
          let new_is = new_over db id was keyed has clashes_it in
          let left = left_over db id was keyed has clashes_it in
          let trees : w.0 ≡ one.trees = ap (λ (x : Written). x.trees) (sym (same_value w.2)) in
          let fresh : are_fresh (filter (λ r. not (p r)) rows) (row_at (id_in (rowid was)) ∷ [])
          ≡ true = subst (λ l. are_fresh l (row_at (id_in (rowid was)) ∷ []) ≡ true) left
          (subst (λ n. are_fresh (without_all rows (ids_of (after was ∷ []))) (n ∷ []) ≡ true)
          new_is it.fresh) in
          subst (λ t. Replaces schema table key (over db) (over t) (Text key ∷ rest)) trees
          (settles db w.0 p key rest (id_in (rowid was))
          (inr (
            was,
            has,
            int_is (rowid was)
                (all_has (λ x. IsTrue (is_int (rowid x))) rows was keyed.1 has),
          )) keyed
          (λ r here is. ap (has_key key) (names db id was keyed has clashes_it r here is)
          ∙ only (row_at id) was clashes_it)
          (it.rows ∙ ap₂ put_row new_is left) fresh it.fits it.tables)

      clears_new : (db : Trees) (id : ℤ) (one : Written) (found : List Row)
          → Clears task Abort (row_at id) db found (Ok one) → Puts task (row_at id) db (Ok one)
      clears_new db id one [] h = h
      clears_new db id one (x ∷ more) h = h

      met : (db : Trees) (id : ℤ) (one : Written) (found : List Row)
          → id ≡ next_rowid (db table.tree)
          → IsShaped shape.Table (db table.tree)
          → AreConflicts (Some (1 ∷ [])) schema.indexes table (db table.tree) (row_at id) found
          → Meets task (Upserts task Abort (row_at id) db []) (row_at id) db clause found (Ok one)
          → Replaces schema table key (over db) (over one.trees) (Text key ∷ rest)
      met db id one [] last keyed are h =
          put_new db id one last keyed (clears_new db id one h.0 h.2)
      met db id one (there ∷ more) last keyed are h =
          let it = are.sound there (inl refl) in
          put_over db id it.0 one keyed it.1 it.2
          (subst (λ (x : Row). Updates task (record {
            lets = [];
            body = scan table.tree (test ∷ []) project [];
          }) (params ++ rowid x
          ∷ shown table (row_at id)) db (Ok one)) it.3 h)

      judged : (db : Trees) (id : ℤ) (one : Written) (verdict : Option Refusal)
          → id ≡ next_rowid (db table.tree) → IsShaped shape.Table (db table.tree)
          → Judged task Abort (clause ∷ []) (row_at id) db verdict (Ok one)
          → Replaces schema table key (over db) (over one.trees) (Text key ∷ rest)
      judged db id one None last keyed h = met db id one h.0 last keyed h.1 h.2
      judged db id one (Some why) last keyed h = absurd (let e = h in cc)

      tried : (db : Trees) (id : ℤ) (one : Written) → id ≡ next_rowid (db table.tree)
          → IsShaped shape.Table (db table.tree)
          → Tries task Abort (clause ∷ []) (row_at id) db (Ok one)
          → Replaces schema table key (over db) (over one.trees) (Text key ∷ rest)
      tried db id one last keyed (inl unfit) = absurd (let e = unfit.1 in cc)
      tried db id one last keyed (inr it) = judged db id one it.0 last keyed it.2

      -- ---- why it stops

      abbrev update : Program
      update = record { lets = []; body = scan table.tree (test ∷ []) project [] }

      -- what it needs of the rows that are there
      pub record Admits (db : Trees) : Type 0 where
        pub keyed : IsShaped shape.Table (db table.tree)
        pub unique : Keeps Unique schema db
        pub numbers : (r : Row) → Has (db table.tree) r → fits_i64 (id_in (rowid r)) ≡ true
        pub next : fits_i64 (next_rowid (db table.tree)) ≡ true
        pub others : (n : ℤ) (r : Row) → Has (db table.tree) r → has_key key r ≡ false → (i : Index)
            → Has schema.indexes i → guards i table ≡ true
            → agree i.order i.columns r i.columns (row_at n) ≡ false

      -- what it needs of the table and of the new row
      pub record Suits : Type 0 where
        pub apart : IsAscending (λ a b. a.tree ≡ b.tree → ⊥) schema.tables
        pub also : (new r : Row) → equal Binary (column r 1) (column new 1) ≡ true
            → conflicts (Some (1 ∷ [])) schema.indexes table new r ≡ true
        pub passing : (n : ℤ) → PassAlone table (row_at n ∷ [])
        pub little : (n : ℤ) → IsOversized schema table (row_at n) → ⊥
        pub referred : (gone : Bool)
            → is_off mode.keys || references_fit schema table true gone ≡ true
        pub asks : (m n : ℤ) → accepts_program schema [] update.body
            (params ++ Int m ∷ shown table (row_at n)) ≡ true
        pub safe : (db : Trees) (vs : Row) → ProgramOverflows db vs [] [] update.body → ⊥

      module _ (suits : Suits) (db : Trees) (admits : Admits db) where
        abbrev written_as : List ℤ → ℤ → Edit
        written_as gone n = record { table = table; gone = gone; news = row_at n ∷ [] }

        only_new : (n : ℤ) (row : Row) → Has (row_at n ∷ []) row → row ≡ row_at n
        only_new n row (inl same) = same
        only_new n row (inr none) = absurd none

        allowed_row : (gone : List ℤ) (n : ℤ) → fits_i64 n ≡ true
            → are_fresh (without_all (db table.tree) gone) (row_at n ∷ []) ≡ true
            → ((r : Row) → Has (without_all (db table.tree) gone) r → has_key key r ≡ false)
            → IsAllowed schema mode.keys db (written_as gone n)
        allowed_row gone n fits fresh differs = record {
          typed = (suits.passing n).typed;
          present = (suits.passing n).present;
          checked = (suits.passing n).checked;
          keyed = refl;
          numbers = ap (λ b. b && true) fits;
          fresh = fresh;
          unique = unique_added schema db (written_as gone n) suits.apart listed admits.keyed.0
              fresh (row_at n) refl
              (λ i known guarded r left. admits.others n r
              (without_all_has gone (db table.tree) r left) (differs r left) i known guarded)
              admits.unique;
          referred = suits.referred (nat_lt 0 (length gone));
          small = λ row has. subst (λ r. IsOversized schema table r → ⊥) (sym (only_new n row has))
              (suits.little n);
        }

        abbrev next : ℤ
        next = next_rowid (db table.tree)

        put_stops : ((r : Row) → Has (db table.tree) r → has_key key r ≡ false)
            → (stop : Option Error) → Puts task (row_at next) db (Err stop) → ⊥
        put_stops differs stop (inl (why, (what, stops, are), is)) =
            let free : is_taken (db table.tree) (row_at next) ≡ false =
            next_is_free Chosen (db table.tree) (Text key ∷ rest) admits.keyed.0 admits.keyed.1 in
            let fresh : are_fresh (db table.tree) (row_at next ∷ []) ≡ true =
            ap (λ b. not b && true) free in
            never_stops schema mode.keys db (written_as [] next)
            (allowed_row [] next admits.next fresh differs)
            (idle (taken_by db (written_as [] next)) (row_at next ∷ [])) what
            (subst (λ n. Writes schema mode.keys db
            (record { table = table; gone = []; news = n ∷ [] }) (Err what)) (typed_at next) stops)
        put_stops differs stop (inr (after, made, gives)) = absurd (let e = gives in cc)

        module _ (was : Row) (has : Has (db table.tree) was) (clashes_it :
            conflicts (Some (1 ∷ [])) schema.indexes table (row_at next) was ≡ true) where
          abbrev seen : Row
          seen = given db next was admits.keyed has clashes_it

          abbrev it_is : Row → Bool
          it_is = is_it db next was admits.keyed has clashes_it

          abbrev gone_is : List ℤ
          gone_is = ids_of (after was ∷ [])

          left_in : (r : Row) → Has (without_all (db table.tree) gone_is) r
              → Has (db table.tree) r × (not (it_is r) ≡ true)
          left_in r left = has_filtered (λ x. not (it_is x)) (db table.tree) r
              (subst (λ l. Has l r) (left_over db next was admits.keyed has clashes_it) left)

          is_int_in : (r : Row) → Has (db table.tree) r → IsTrue (is_int (rowid r))
          is_int_in r there =
              all_has (λ x. IsTrue (is_int (rowid x))) (db table.tree) r admits.keyed.1 there

          fresh_over : are_fresh (without_all (db table.tree) gone_is)
              (row_at (id_in (rowid was)) ∷ []) ≡ true
          fresh_over =
              let free : is_taken (without_all (db table.tree) gone_is) (row_at (id_in (rowid was)))
              ≡ false =
              false_from_ne_true _ (λ taken.
              let r = some_has _ (without_all (db table.tree) gone_is) taken in
              let old = left_in r.0 r.1 in
              let tied : it_is r.0 ≡ true =
              ints_equal (rowid r.0) (rowid was) (is_int_in r.0 old.0) (is_int_in was has)
              ∙ (ap (λ v. is_eq (value_cmp (rowid r.0) v)) (int_is (rowid was) (is_int_in was has))
              ∙ r.2) in
              true≢false (sym tied ∙ not-true _ old.1)) in
              ap (λ b. not b && true) free

          -- no other row has the key
          differs_over : (r : Row) → Has (without_all (db table.tree) gone_is) r
              → has_key key r ≡ false
          unfolding first_key
          differs_over r left = false_from_ne_true _ (λ shares.
              let old = left_in r left in
              let is = key_is db next was admits.keyed has clashes_it in
              let all = keeps_at Unique schema db table was admits.unique listed has in
              let none : clashes index.order index.columns (db table.tree) was ≡ false =
              not_both (guards index table) _
              (test_has (λ i. not (guards i table && clashes i.order i.columns (db table.tree) was))
              schema.indexes index all guarded) guards_it in
              let here : list_any (λ other. agree plain (1 ∷ []) other (1 ∷ []) was
              && differ (rowid other) (rowid was)) (db table.tree) ≡ false =
              subst (λ o. clashes o (1 ∷ []) (db table.tree) was ≡ false) in_order
              (subst (λ cs. clashes index.order cs (db table.tree) was ≡ false) at_first none) in
              let apart : is_eq (value_cmp (rowid r) (rowid was)) ≡ false =
              sym (ints_equal (rowid r) (rowid was) (is_int_in r old.0) (is_int_in was has))
              ∙ not-true _ old.1 in
              let agrees : agree plain (1 ∷ []) r (1 ∷ []) was ≡ true =
              and_from _ _ (ap (equal Binary (column r 1)) is ∙ shares) refl in
              true≢false (sym (some_from (λ other. agree plain (1 ∷ []) other (1 ∷ []) was
              && differ (rowid other) (rowid was)) (db table.tree) r old.0
              (and_from _ _ agrees (ints_differ (rowid r) (rowid was) (is_int_in r old.0)
              (is_int_in was has) apart))) ∙ here))

          update_stops : (stop : Option Error) → Updates task update seen db (Err stop)
              → IsSome limit
          update_stops stop (inl (None, none, is)) = absurd none
          update_stops stop (inl (Some e, inl ill, is)) =
              let typed : accepts_program schema [] update.body seen ≡ true =
              ap (λ v. accepts_program schema [] update.body
              (params ++ v ∷ shown table (row_at next)))
              (int_is (rowid was) (is_int_in was has)) ∙ suits.asks (id_in (rowid was)) next in
              absurd (true≢false (sym typed ∙ ill.1))
          update_stops stop (inl (Some e, inr (inl over), is)) = absurd (suits.safe db seen over.1)
          update_stops stop (inl (Some e, inr (inr limited), is)) = limited.1
          update_stops stop (inr (rows, answered, inl (why, (what, stops, are), is))) =
              let a : IsAnswer (scan table.tree (test ∷ []) project []) db seen rows =
              subst (λ t. IsAnswer (scan table.tree (test ∷ []) project []) t seen rows)
              (overlaid db) (answered.answer Null) in
              let shows = shows_it db next was admits.keyed has clashes_it rows a in
              absurd (never_stops schema mode.keys db (written_as gone_is (id_in (rowid was)))
              (allowed_row gone_is (id_in (rowid was)) (admits.numbers was has) fresh_over
              differs_over)
              (idle (taken_by db (written_as gone_is (id_in (rowid was))))
              (row_at (id_in (rowid was)) ∷ [])) what
              (subst (λ n. Writes schema mode.keys db
              (record { table = table; gone = gone_is; news = n ∷ [] }) (Err what))
              (new_over db next was admits.keyed has clashes_it)
              (subst (λ l. Writes schema mode.keys db (edit_of db table (ids_of l) Given 1 l)
              (Err what)) shows stops)))
          update_stops stop (inr (rows, answered, inr (after, made, gives))) =
              absurd (let e = gives in cc)

        cleared : (stop : Option Error) (found : List Row)
            → Clears task Abort (row_at next) db found (Err stop)
            → Puts task (row_at next) db (Err stop)
        cleared stop [] h = h
        cleared stop (x ∷ more) h = h

        meet_stops : (stop : Option Error) (found : List Row)
            → AreConflicts (Some (1 ∷ [])) schema.indexes table (db table.tree) (row_at next) found
            → Meets task (Upserts task Abort (row_at next) db []) (row_at next) db clause found
            (Err stop) → IsSome limit
        meet_stops stop [] are h = absurd (put_stops (λ r there. false_from_ne_true _
            (λ shares. are.complete r there (suits.also (row_at next) r shares))) stop
            (cleared stop h.0 h.2))
        meet_stops stop (there ∷ more) are h =
            let it = are.sound there (inl refl) in
            update_stops it.0 it.1 it.2 stop
            (subst (λ (x : Row). Updates task update (params ++ rowid x ∷ shown table (row_at next))
            db (Err stop)) it.3 h)

        never_judged : (why : Refusal) → IsJudged table (row_at next) (Some why) → ⊥
        never_judged Mismatch h = true≢false h
        never_judged NoRowid h = h
        never_judged BadReference h = h
        never_judged TooDeep h = h
        never_judged (Violates Datatype) h =
            true≢false (sym (and_parts _ _ (suits.passing next).typed).0 ∙ h)
        never_judged (Violates NotNull) h =
            true≢false (sym (and_parts _ _ (suits.passing next).present).0 ∙ h)
        never_judged (Violates Check) h =
            true≢false (sym (and_parts _ _ (suits.passing next).checked).0 ∙ h)
        never_judged (Violates PrimaryKey) h = h
        never_judged (Violates Unique) h = h
        never_judged (Violates ForeignKey) h = h

        try_stops : (stop : Option Error)
            → Tries task Abort (clause ∷ []) (row_at next) db (Err stop) → IsSome limit
        try_stops stop (inl unfit) = absurd (true≢false (sym admits.next ∙ unfit.0))
        try_stops stop (inr (None, fine, h)) = meet_stops stop h.0 h.1 h.2
        try_stops stop (inr (Some why, judged_it, h)) = absurd (never_judged why judged_it)

      module _ (at width : ℕ) (terms : List Term) (source :
          value_rows (stamped table params) width (length terms / width) terms
          ≡ (Null ∷ Text key ∷ rest) ∷ []) where
        new_is : (db : Trees) (top : ℤ)
            → with_rowid (rowids_for table top) (db table.tree)
            (cast_row table (Null ∷ Text key ∷ rest)) ≡ row_at (next_rowid (db table.tree))
        new_is db top = ap₂ (λ ids row. with_rowid ids (db table.tree) row)
            (ap (λ b. cond b (Above top) Chosen) uncounted) (λ i. cast_null i ∷ typed i)

        upserted : (db : Trees) (made : Written) → IsShaped shape.Table (db table.tree)
            → InsertsOr task Abort (clause ∷ []) (Values terms width) db (Ok made)
            → Replaces schema table key (over db) (over made.trees) (Text key ∷ rest)
        upserted db made keyed h =
            let sourced = went h in
            let counter = went sourced.2 in
            let trying = went counter.2 in
            let counted = went trying.2 in
            let kept : Ok counted.0 ≡ Ok trying.0.0.trees =
            if_not _ _ _ (counts_none _ uncounted _ _) counted.1 in
            let trees : trying.0.0.trees ≡ made.trees =
            sym (ap (λ (it : Written). it.trees) (same_value counted.2) ∙ same_value kept) in
            let each = went
            (subst (λ rows. TriesEach task Abort (clause ∷ []) rows (count_of counter.0)
            (nothing db) (Ok trying.0)) (sourced.1.1 ∙ source) trying.1) in
            let it = tried db (next_rowid (db table.tree)) each.0 refl keyed
            (subst (λ n. Tries task Abort (clause ∷ []) n db (Ok each.0))
            (new_is db (count_of counter.0)) each.1) in
            let last : each.0.trees ≡ trying.0.0.trees =
            ap (λ (p : Written × ℤ). p.0.trees) (sym (same_value each.2)) in
            subst (λ d. Replaces schema table key (over db) d (Text key ∷ rest))
            (ap over (last ∙ trees)) it

        pub upserts : (db : Trees) (done : Database) (tally : Tally)
            → IsShaped shape.Table (db table.tree)
            → OnRows task mode None (InsertOr at Abort (Values terms width) (clause ∷ [])) db
            (Ok (tally, done)) → Replaces schema table key (over db) done (Text key ∷ rest)
        upserts db done tally keyed h =
            let made = went h in
            let now : over made.0.trees ≡ done =
            ap (λ (p : Tally × Database). p.1) (sym (same_value (went (went made.2).2).2)) in
            subst (λ d. Replaces schema table key (over db) d (Text key ∷ rest)) now
            (upserted db made.0 keyed made.1)

        module _ (suits : Suits) (db : Trees) (admits : Admits db) (all : due mode ≡ All)
            (accepted : accepts_terms terms (stamped table params) ≡ true)
            (refers : (next : Trees)
            → Replaces schema table key (over db) (over next) (Text key ∷ rest)
            → Refers All schema next)
          where
            each_stops : (top : ℤ) (stop : Option Error)
                → TriesEach task Abort (clause ∷ []) ((Null ∷ Text key ∷ rest) ∷ []) top
                (nothing db) (Err stop) → IsSome limit
            each_stops top stop (inl (why, tries, is)) =
                try_stops suits db admits why
                (subst (λ n. Tries task Abort (clause ∷ []) n db (Err why)) (new_is db top) tries)
            each_stops top stop (inr (one, tried_it, gives)) = absurd (let e = gives in cc)

            inserts_stop : (stop : Option Error)
                → InsertsOr task Abort (clause ∷ []) (Values terms width) db (Err stop)
                → IsSome limit
            inserts_stop stop (inl (None, none, is)) = absurd none
            inserts_stop stop (inl (Some e, inl ill, is)) =
                absurd (true≢false (sym accepted ∙ ill.1))
            inserts_stop stop (inl (Some e, inr limited, is)) = limited.1
            inserts_stop stop (inr (rows, sourced, inl (why, counter, is))) =
                absurd (let e = if_not _ _ _ uncounted counter in cc)
            inserts_stop stop (inr (rows, sourced, inr (counter, counted, inl (why, tries, is)))) =
                each_stops (count_of counter) why
                (subst (λ rows. TriesEach task Abort (clause ∷ []) rows (count_of counter)
                (nothing db) (Err why)) (sourced.1 ∙ source) tries)
            inserts_stop stop (inr
                (rows, sourced, inr (counter, counted, inr (done, tries, inl (why, counts, is))))) =
                absurd (let e = if_not _ _ _ (counts_none _ uncounted _ _) counts in cc)
            inserts_stop stop (inr
                (rows, sourced, inr (counter, counted, inr (done, tries, inr (next, counts, is)))))
                = absurd (let e = is in cc)

            pub upsert_stops : (stop : Option Error)
                → OnRows task mode None (InsertOr at Abort (Values terms width) (clause ∷ [])) db
                (Err stop) → IsSome limit
            upsert_stops stop (inl (why, inserts, is)) = inserts_stop why inserts
            upsert_stops stop (inr (w, inserts, ends)) =
                absurd (concluded task mode all w stop
                (refers w.trees (upserted db w admits.keyed inserts)) ends)
