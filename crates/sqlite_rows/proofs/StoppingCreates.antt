-- Why a CREATE TABLE stops: nothing of the schema refuses a table of a small text and a free name.
use Rattle.sqlite_rows.proofs.Common.{◌≡◌, inl, inr, ℕ, ◌+◌, ◌*◌, ◌^◌, ◌<◌, true, false, not, List, length, codes, Option, Some, None, Ok, Err, IsUtf8, sym, ap, subst, ◌∙◌, arith, list_all, true≢false, not-true, Row, Table, Schema, CreateTable, table_defined_by, created, next_tree, Does, MakesTable, lacks_sequence, Database, Error, Mode, Text, is_fit, is_formed, test_has, table_reals}
use Rattle.sqlite_catalog.specs.Calls.{RefusesTable, IsLongTable}
use Rattle.sqlite_catalog.specs.Change.{is_used, is_reserved, automatics}
use Rattle.sqlite_catalog.specs.declared.error.Refusal.{Refusal}
use Rattle.sqlite_catalog.specs.declared.error.Refusal.TheVariants.{Invalid, NameTaken, BadName, TooBig, BadKey, BadText, Violates}
use Rattle.sqlite_rows.proofs.Inserting.{if_not}
use Rattle.sqlite_rows.proofs.SmallRows.{no_index_reals}

-- the table's name and those of its indexes are free, and the table and its text can be listed
pub record IsCreatable (schema : Schema) (sql : List ℕ) (table : Table) : Type 0 where
  pub utf8 : IsUtf8 sql
  pub named : IsUtf8 table.name
  pub unreserved : is_reserved table.name ≡ false
  pub free : is_used schema table.name ≡ false
  pub indexes_free : list_all (λ i. not (is_used schema i.name))
      (automatics table 0 0 table.uniques) ≡ true
  pub low : next_tree schema + length table.uniques < 65536
  pub no_reals : table_reals table ≡ 0
  pub formed : is_formed table ≡ true
  pub fit : is_fit (Text (codes "table")) (Text table.name) (Text table.name) (Text sql) ≡ true
  pub short : 2 * length table.name + length sql + 200 < 10 ^ 9

module _ (schema after : Schema) (sql : List ℕ) (table : Table)
    (defined : table_defined_by sql ≡ Ok table) (is : created schema table ≡ after)
    (plain : lacks_sequence after ≡ false) (can : IsCreatable schema sql table) where
  the_one : (other : Table) → table_defined_by sql ≡ Ok other → other ≡ table
  the_one other by = let both : Ok other ≡ Ok table = sym by ∙ defined in cc

  refused : (why : Refusal) → RefusesTable schema sql why → ⊥
  refused (Invalid e) by = let both : Err e ≡ Ok table = sym by ∙ defined in cc
  refused NameTaken (other, by, inl used) =
      true≢false (sym used ∙ ap (λ (t : Table). is_used schema t.name) (the_one other by)
      ∙ can.free)
  refused NameTaken (other, by, inr (index, has, used)) =
      let here = rw (the_one other by) at has in
      true≢false (sym used ∙ not-true _ (test_has (λ i. not (is_used schema i.name))
      (automatics table 0 0 table.uniques) index can.indexes_free here))
  refused BadName (other, by, inl bad) = bad (rw (the_one other by) can.named)
  refused BadName (other, by, inr (reserved, own)) =
      true≢false (sym reserved ∙ ap (λ (t : Table). is_reserved t.name) (the_one other by)
      ∙ can.unreserved)
  refused TooBig (other, by, inl many) =
      let here = rw (the_one other by) at many in omega (arith, here, can.low)
  refused TooBig (other, by, inr (inl wide)) =
      let here = rw (the_one other by) at wide in omega (arith, here, can.no_reals)
  refused TooBig (other, by, inr (inr (key, has, wide))) =
      let here = rw (the_one other by) at wide in
      omega (arith, here, no_index_reals (table_reals table) key can.no_reals)
  refused BadKey (other, by, unformed) =
      true≢false (sym can.formed ∙ sym (ap is_formed (the_one other by)) ∙ unformed)
  refused BadText (other, by, unfit) =
      let here = rw (the_one other by) at unfit in true≢false (sym can.fit ∙ here)
  refused (Violates rule) none = none

  never_long : IsLongTable sql → ⊥
  never_long (other, by, long) =
      let here = rw (the_one other by) at long in omega (arith, here, can.short)

  stopped : (db : Database) (stop : Option Error) → db.schema ≡ schema
      → MakesTable sql db (Err stop) → ⊥
  stopped db None has long = never_long long
  stopped db (Some e) has (inl (bad, is_error)) = bad can.utf8
  stopped db (Some e) has (inr (why, refuses, is_error)) =
      refused why (subst (λ s. RefusesTable s sql why) has refuses)

  -- over this schema it is never refused
  pub create_stops : (limit : Option ℕ) (mode : Mode) (params : Row) (db : Database)
      (stop : Option Error) → db.schema ≡ schema
      → Does limit mode params db sql None CreateTable (Err stop) → ⊥
  create_stops limit mode params db stop has (inl (why, (inl (first, makes, same)), is_error)) =
      stopped db first has makes
  create_stops limit mode params db stop has (inl (why, (inr (made, makes, sequences)), is_error)) =
      let now : made.schema ≡ after =
      makes.is ∙ ap (λ s. created s makes.table) has
      ∙ ap (created schema) (the_one makes.table makes.defined) ∙ is in
      absurd (let e = if_not _ _ _ (ap lacks_sequence now ∙ plain) sequences in cc)
  create_stops limit mode params db stop has (inr (made, makes, gives)) =
      absurd (let e = gives in cc)
