-- Why a registry isn't made in a store without tables: no rule refuses its tables, nor the record
-- of `about`.
use Rattle.gm_registry.proofs.Common.{◌≡◌, inl, ℕ, pos, true, not, ◌&&◌, ◌==◌, List, [], ◌∷◌, Option, None, Result, Ok, Err, IsTrue, IsSome, refl, sym, ap, subst, ◌∙◌, arith, eq-eqb, list_all, true≢false, not-true, Table, Trees, Schema, Term, lit, CreateTable, Does, Database, State, mode_of, ExecutesInside, Survives, Error, Null, Int, statement_of, test_has, is_taken, IsOversized, guards, passes, Check, Unique, ForeignKey, Enforced, IsTable, is_all_of, unique_added, small, IsAllowed, inside_fault, insert_stops, create_stops, cast_null, cast_int, OnOther, fault_of, about_values, about, registry_schema, put_about_text, Store, HasAbout, IsBeingMade, IsInsideOver}
use Rattle.std.specs.Float.Ieee
use Rattle.sqlite.specs.Listing.{understood}
use Rattle.sqlite_sql.specs.Ops.{binary}
use Rattle.sqlite_value.specs.Order.{value_cmp}
use Rattle.sqlite_tied.specs.Compute.{everything}
use Rattle.gm_registry.proofs.CreatableTables.{Makes}
use Rattle.gm_registry.proofs.Failures.{failed_since, told}
use Rattle.gm_registry.proofs.FittingTables.{apart, only, refers}
use Rattle.gm_registry.proofs.MadeTables.{one_more}
use Rattle.gm_registry.proofs.StepsInTurn.{Failed}
use Rattle.gm_registry.proofs.TextMeanings.{put_about, put_about_is}

-- ---- the tables, one after another

-- the tables that are made so far, and what a failure after them is
pub record Made (schema : Schema) (first : Database) (start now : State) : Type 1 where
  pub over : IsInsideOver schema first now
  pub since : (end : State) → Failed now end → Failed start end

pub none_made : {schema : Schema} {first : Database} {s : State} → IsInsideOver schema first s
    → Made schema first s s
none_made was = record { over = was; since = λ end failed. failed }

module _ {before after : Schema} {text : List ℕ} {table : Table} {first : Database}
    {start a b : State} (makes : Makes before after text table) (so : Made before first start a)
  where
    -- one more
    pub table_made : {Commits : Trees → Type 0} (count : ℕ) → Survives a b Commits
        → (IsTrue a.in_transaction → ExecutesInside 0 text [] a b (Ok count))
        → Made after first start b
    table_made count left h = record {
      over = one_more before after text table makes.defines makes.uncounted first a b count so.over
          (h so.over.inside);
      since = λ end failed. so.since end (failed_since a b end _ left failed);
    }

    -- why it isn't made
    pub table_fails : {e : Error}
        → (IsTrue a.in_transaction → ExecutesInside 0 text [] a b (Err e)) → fault_of e ≡ Store
        → Failed start b
    table_fails {e} h is =
        let it = makes.defines in
        let was = so.over in
        so.since b (told a b e (inside_fault before text [] CreateTable it.command it.plain it.whole
        refl refl a b e was.schema_is (λ stop does. absurd (create_stops before after text
        (record table { tree = 0 }) it.table_is it.schema_is makes.uncounted makes.can a.step_limit
        (mode_of a) [] a.now stop was.schema_is
        (subst (λ t. Does a.step_limit (mode_of a) [] a.now t None CreateTable (Err stop)) it.alone
        does))) was.is_open (h was.inside)) is)

-- ---- the record of `about`

abbrev about_terms : List Term
about_terms = lit (Int (pos 1)) ∷ lit Null ∷ lit (Int (pos 2)) ∷ []

-- its check holds
about_checked : (db : Trees)
    → list_all (passes Check registry_schema db about) (about_values ∷ []) ≡ true
unfolding binary value_cmp Ieee.lt Ieee.is_nan
about_checked db = refl

-- the row is taken
about_allowed : (rows : Trees) (first : Database) (s : State) → IsBeingMade [] rows first s
    → IsAllowed registry_schema Enforced s.now.trees
    (record { table = about; gone = []; news = about_values ∷ [] })
about_allowed rows first s was =
    let db = s.now.trees in
    let fresh : not (is_taken (db 0) about_values) && true ≡ true =
    ap (λ rows. not (is_taken rows about_values) && true) was.about_is in
    record {
      typed = refl;
      present = refl;
      checked = about_checked db;
      keyed = refl;
      numbers = refl;
      fresh = fresh;
      unique = unique_added registry_schema db
          (record { table = about; gone = []; news = about_values ∷ [] }) apart (inl refl)
          (subst (λ rows. IsTable rows) (sym was.about_is) tt) fresh about_values refl
          (λ index known guarded. absurd (true≢false (sym guarded ∙ not-true _ (test_has
          (λ i. not (guards i about)) registry_schema.indexes index refl known))))
          (was.sound.obeys.rules Unique);
      referred = refl;
      small = λ row has. subst (λ r. IsOversized registry_schema about r → ⊥)
          (sym (only about_values row has)) (small registry_schema about about_values refl refl
          (omega arith, omega arith) (omega arith) (λ index known own. absurd (true≢false
          (sym (eq-eqb _ _ own) ∙ not-true _ (test_has (λ i. not (i.table == 0))
          registry_schema.indexes index refl known)))));
    }

about_stops : (rows : Trees) (first : Database) (s : State) (text : List ℕ) (stop : Option Error)
    → IsBeingMade [] rows first s → Does s.step_limit (mode_of s) [] s.now text None put_about
    (Err stop)
    → IsSome s.step_limit
about_stops rows first s text stop was does =
    let db = s.now.trees in
    insert_stops registry_schema 0 about refl about_terms 3 [] about_values about_values
    s.step_limit
    db refl refl (rw (cast_int (pos 1), cast_null, cast_int (pos 2)) refl)
    (about_allowed rows first s was)
    (λ next made. refers db next (made.tables.1.0 (λ e. let f : 1 ≡ 0 = e in cc))
    (made.tables.1.1.0 (λ e. let f : 4 ≡ 0 = e in cc)) (was.sound.obeys.rules ForeignKey)) stop
    (subst (λ (schema : Schema). Does s.step_limit (mode_of s) []
    (record { schema = schema; trees = db }) text None put_about (Err stop)) was.schema_is does)

about_whole : is_all_of put_about_text 0 (understood registry_schema put_about_text) ≡ true
unfolding understood everything
about_whole = refl

pub about_fails : (old new : State) (x : Result ℕ Error)
    → (IsTrue old.in_transaction → ExecutesInside 0 put_about_text [] old new x)
    → OnOther x ((over : Trees × Database) → HasAbout [] over old → Failed old new)
about_fails old new (Ok count) h = tt
about_fails old new (Err e) h = λ is over was.
    told old new e (inside_fault registry_schema put_about_text [] put_about put_about_is.command_is
    put_about_is.plain about_whole refl refl old new e was.schema_is
    (λ stop. about_stops over.0 over.1 old (statement_of put_about_text
    (understood registry_schema put_about_text)) stop was) was.is_open (h was.inside)) is
