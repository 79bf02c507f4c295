-- From what a statement makes of the tables to what a call of it leaves.
use Rattle.sqlite_rows.proofs.Common.{◌≡◌, inl, inr, ℕ, true, false, List, [], None, Result, Ok, Err, OnOk, OnErr, IfErr, IsTrue, refl, sym, ap, subst, ◌∙◌, arith, cases_Bool, Row, Schema, Command, Trees, Tally, Does, Database, IsDatabase, IsSound, Error, understood, State, mode_of, Runs, Writes, ExecutesInside, KeepsCommit, KeepsCounts, HasCleanDisk, Survives, Shows, IsRolledBack, IsPlain, command_of, statement_of, runs_as}
use Rattle.sqlite_trees.specs.declared.store.Store as store
use Rattle.sqlite.specs.Steps.{FailsToCommit}
use Rattle.sqlite.specs.Held.{Held, state}
use Rattle.sqlite_rows.specs.Calls.{Holds as HoldsBy, HasRecords as HasRecordsBy, IsInside as IsInsideBy}

pub keeps_inside : (sql : List ℕ) (params : Row) (old new : State) (x : Result ℕ Error)
    → ExecutesInside 0 sql params old new x → KeepsCommit old new
keeps_inside sql params old new (Ok count) h =
    record { was_open = λ _. h.1.was_open; committed = λ _. h.1.committed_is }
keeps_inside sql params old new (Err e) (inl (ran, inl same)) =
    record { was_open = λ _. same.0.was_open; committed = λ _. same.0.committed_is }
keeps_inside sql params old new (Err e) (inl (ran, inr undone)) =
    record { was_open = undone.was_open; committed = λ is_open. (undone.undone is_open).1 }
keeps_inside sql params old new (Err e) (inr (ends, is, same)) =
    record { was_open = λ _. same.0.was_open; committed = λ _. same.0.committed_is }

pub kept_itself : (s : State) → KeepsCommit s s
kept_itself s = record { was_open = λ is. is; committed = λ _. refl }

-- a call inside a transaction commits nothing, even if the transaction has ended
pub keeps_held : {S P : Type 0} (g : store.Ghosts S) (old new : Held S) (sql : List ℕ)
    (params : Row) (x : Result ℕ Error)
    → (IsTrue (state g old).in_transaction
    → ExecutesInside 0 sql params (state g old) (state g new) x)
    → ((state g old).in_transaction ≡ false → P × (new ≡ old))
    → KeepsCommit (state g old) (state g new)
keeps_held g old new sql params x runs ended = elim (cases_Bool (state g old).in_transaction) [
  | inl inside ↦ keeps_inside sql params (state g old) (state g new) x (runs (rw inside))
  | inr outside ↦ subst (λ h. KeepsCommit (state g old) (state g h)) (sym (ended outside).1)
      (kept_itself (state g old))
]

pub kept_then : (a b c : State) → KeepsCommit a b → KeepsCommit b c → KeepsCommit a c
kept_then a b c p q = record {
  was_open = λ is. p.was_open (q.was_open is);
  committed = λ is. q.committed is ∙ p.committed (q.was_open is);
}

pub survives_itself : (s : State) (P : Trees → Type 0) → Survives s s P
survives_itself s P = record {
  clean = omega arith;
  shield = λ is. is;
  counts = omega arith;
  limit = refl;
  closes = λ _ is. inl is;
  crash = λ _ db left. inl left;
}

-- what a crash may find is known once the disk is known to be clean
pub survives_if : (old new : State) (P : Trees → Type 0) → Survives old new (λ _. Unit {0})
    → (HasCleanDisk new → Survives old new P) → Survives old new P
survives_if old new P s f = record {
  clean = s.clean;
  shield = s.shield;
  counts = s.counts;
  limit = s.limit;
  closes = s.closes;
  crash = λ clean db left. (f clean).crash clean db left;
}

-- other records of the same rows, or fewer facts on them
module _ {R T : Type 0} (of_schema : Schema) (Rows : Trees → R → Type 0)
    (Others : Trees → T → Type 0) (r : R) (t : T) where
  pub holds_as : (db : Trees) → (Rows db r → Others db t) → HoldsBy of_schema Rows db r
      → HoldsBy of_schema Others db t
  holds_as db f holds = record { rows = f holds.rows; sound = holds.sound }

  pub inside_as : (first : Database) (s : State) → (Rows s.now.trees r → Others s.now.trees t)
      → IsInsideBy of_schema Rows first s r → IsInsideBy of_schema Others first s t
  inside_as first s f was = record {
    is_open = was.is_open;
    inside = was.inside;
    first_is = was.first_is;
    schema_is = was.schema_is;
    tables =
        holds_as s.now.trees f was.tables;
  }

module _ {R : Type 0} (of_schema : Schema) (Rows : Trees → R → Type 0) where
  abbrev Holds : Trees → R → Type 0
  Holds = HoldsBy of_schema Rows

  abbrev HasRecords : State → R → Type 0
  HasRecords = HasRecordsBy of_schema Rows

  abbrev IsInside : Database → State → R → Type 0
  IsInside = IsInsideBy of_schema Rows

  pub holding : (db : Database) (r : R) → db.schema ≡ of_schema → Rows db.trees r → IsDatabase db
      → Holds db.trees r
  holding db r has rows sound =
      record { rows = rows; sound = subst (λ (s : Schema). IsSound s db.trees) has sound }

  -- the statement makes these records of the old ones
  abbrev pub Makes : Command → Row → (R → R) → Type 1
  Makes command params change =
      (s : State) (r : R) (after : Database) (text : List ℕ) (tally : Tally)
      → s.now.schema ≡ of_schema → Rows s.now.trees r
      → Does s.step_limit (mode_of s) params s.now text None command (Ok (tally, after))
      → (after.schema ≡ of_schema) × Rows after.trees (change r)

  pub settled_schema : (s : State) (r : R) → HasRecords s r → s.now.schema ≡ of_schema
  settled_schema s r was = ap (λ (d : Database). d.schema) was.settled ∙ was.schema_is

  pub settled_rows : (s : State) (r : R) → HasRecords s r → Holds s.now.trees r
  settled_rows s r was = subst (λ (d : Database). Holds d.trees r) (sym was.settled) was.tables

  module _ (sql : List ℕ) (params : Row) (command : Command)
      (is : command_of (understood of_schema sql) ≡ command) (plain :
      IsPlain (understood of_schema sql))
      (writes : (old new : State) (text : List ℕ) (count : ℕ)
      → Runs old new None command text params count
      → Writes old new None command text params count)
      (change : R → R) (makes : Makes command params change) where
    abbrev text : List ℕ
    text = statement_of sql (understood of_schema sql)

    pub inside_ok : (first : Database) (old new : State) (count : ℕ) (r : R) → IsInside first old r
        → ExecutesInside 0 sql params old new (Ok count) → IsInside first new (change r)
    inside_ok first old new count r was h =
        let w = writes old new text count
        (runs_as sql params old new of_schema was.schema_is command is plain count h.0) in
        let made = makes old r new.now text w.tally was.schema_is was.tables.rows w.changed in
        record {
          is_open = w.shown.is_open;
          inside = w.shown.mode ∙ was.inside;
          first_is = h.1.committed_is ∙ was.first_is;
          schema_is = made.0;
          tables = holding new.now (change r) made.0 made.1 w.sound;
        }

    pub at_inside : (old new : State) (x : Result ℕ Error)
        → (IsTrue old.in_transaction → ExecutesInside 0 sql params old new x)
        → OnOk x ((first : Database) (r : R) → IsInside first old r → IsInside first new (change r))
    at_inside old new (Ok count) h =
        λ first r was. inside_ok first old new count r was (h (rw was.inside))
    at_inside old new (Err e) h = tt

  pub begun : {S : Type 0} (g : store.Ghosts S) (old : Held S) (r : R) → HasRecords (state g old) r
      → IsInside (state g old).committed (state g (record old { in_transaction = true })) r
  begun g old r was = record {
    is_open = was.is_open;
    inside = refl;
    first_is = refl;
    schema_is = ap (λ (d : Database). d.schema) was.settled ∙ was.schema_is;
    tables = subst (λ (d : Database). Holds d.trees r) (sym was.settled) was.tables;
  }

  pub ends : (first : Database) (mid new : State) (r : R) → IsInside first mid r
      → Shows mid new mid.now mid.now false → HasRecords new r
  ends first mid new r was h = record {
    is_open = h.is_open;
    autocommit = h.mode;
    schema_is = ap (λ (d : Database). d.schema) h.committed_is ∙ was.schema_is;
    settled = h.now_is ∙ sym h.committed_is;
    tables = subst (λ (d : Database). Holds d.trees r) (sym h.committed_is) was.tables;
  }

  -- a rollback that leaves the connection open leaves the records
  pub rolled : (old begun mid new : State) (r : R) → HasRecords old r
      → begun.committed ≡ old.committed → KeepsCommit begun mid → IsRolledBack mid new
      → IsTrue new.is_open → HasRecords new r
  rolled old begun mid new r was same kept undone is_open =
      let back : mid.committed ≡ old.committed = kept.committed (undone.was_open is_open) ∙ same in
      let committed = (undone.undone is_open).1 ∙ back in
      record {
        is_open = is_open;
        autocommit = undone.autocommit;
        schema_is = ap (λ (d : Database). d.schema) committed ∙ was.schema_is;
        settled = (undone.undone is_open).0 ∙ sym (undone.undone is_open).1;
        tables = subst (λ (d : Database). Holds d.trees r) (sym committed) was.tables;
      }

  pub not_committed : (first : Database) (old begun mid new : State) (r all : R)
      (x : Result (Unit {0}) Error) → HasRecords old r → begun.committed ≡ old.committed
      → KeepsCommit begun mid
      → IsInside first mid all → IfErr x (FailsToCommit mid new)
      → OnErr x (IsTrue new.is_open → HasRecords new r)
  not_committed first old begun mid new r all (Ok _) was same kept inside h = tt
  not_committed first old begun mid new r all (Err e) was same kept inside (inl fails) =
      rolled old begun mid new r was same kept fails.3
  not_committed first old begun mid new r all (Err e) was same kept inside (inr late) =
      absurd (let e : true ≡ false = sym inside.inside ∙ late.1 in cc)

  pub committed : (first : Database) (mid new : State) (all : R) (x : Result (Unit {0}) Error)
      → IsInside first mid all
      → OnOk x (IsTrue mid.in_transaction × Shows mid new mid.now mid.now false
      × KeepsCounts mid new × (new.marks ≡ [])) → OnOk x (HasRecords new all)
  committed first mid new all (Ok _) inside h = ends first mid new all inside h.1
  committed first mid new all (Err e) inside h = tt
