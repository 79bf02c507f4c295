-- Calls within a transaction that change the tables: a statement, calls in turn, and the end.
use Rattle.gm_registry.proofs.Common.{◌≡◌, ◌∙◌, ℕ, ◌+◌, ◌≤◌, ◌||◌, true, false, List, length, None, Result, Ok, Err, IfErr, OnOk, IsErrAnd, IsTrue, refl, sym, ap, subst, arith, Ghosts, Row, Trees, Command, Database, is_query, Held, state, understood, State, ExecutesInside, IsRolledBack, Runs, Survives, Writes, is_pragma, FailsToCommit, Error, survives_begin, survives_then, is_all_of, keeps_on, lasts, if_err, on_err, Makes, at_inside, keeps_held, stays_inside, Tables, fault_of, registry_schema, AreNumbered, HasRows, IsInside, HasRoom, ChangesInside, DiskKept, HasTables, WritesGiven, seen}
use Rattle.sqlite.specs.declared.transaction.Transaction.{Transaction}
use Rattle.gm_registry.proofs.CallsLeave.{never_ok}
use Rattle.gm_registry.proofs.InTransaction.{CommitsSeen, HasCommitted, begun_tables, commit_fails, commit_leaves, commit_survives, commits, commits_not, inside_tables, undone_fails, undone_tables}
use Rattle.gm_registry.proofs.InsideFails.{StopsOnly, inside_fails, passed_on}
use Rattle.gm_registry.proofs.NumberedSteps.{StepNumbers, numbers_inside}
use Rattle.gm_registry.proofs.StepsInTurn.{InTurn, fails_after, less_room, none_yet, one_call, then_calls}
use Rattle.gm_registry.proofs.TextMeanings.{Means}

-- ---- a statement

module _ (text : List ℕ) (params : Row) (command : Command) (means : Means text command)
    (whole : is_all_of text (length params) (understood registry_schema text) ≡ true)
    (inside : stays_inside command ≡ true) (quiet : is_query command || is_pragma command ≡ false)
    (writes : (old new : State) (statement : List ℕ) (n : ℕ)
    → Runs old new None command statement params n → Writes old new None command statement params n)
    (after : Tables → Tables) (makes : Makes registry_schema HasRows command params after)
    (Fits : Trees → Tables → Type 0) (stops : StopsOnly command params Fits)
    (count : ℕ) (numbers : StepNumbers command params count) where
  pub executes : {S P : Type 0} (g : Ghosts S) (old new : Transaction S) (x : Result ℕ Error)
      → new.conn.ghost_name ≡ old.conn.ghost_name
      → Survives (state g old.conn.now) (state g new.conn.now) (λ _. ⊥)
      → ((state g old.conn.now).in_transaction ≡ false → P × (new.conn.now ≡ old.conn.now))
      → (DiskKept g new.conn.now → IsTrue (state g old.conn.now).in_transaction
      → ExecutesInside 0 text params (state g old.conn.now) (state g new.conn.now) x)
      → ChangesInside g old new x after Fits count
  executes g old new x same survives ended runs =
      let s = state g old.conn.now in
      let r = state g new.conn.now in
      record {
        same_reference = same;
        put = λ clean. at_inside registry_schema HasRows text params command means.command_is
            means.plain writes after makes s r x (runs clean);
        fails = λ clean. inside_fails text params command means whole inside quiet Fits stops s r x
            (runs clean);
        numbers = λ clean. numbers_inside text params command means writes count numbers s r x
            (runs clean);
        kept = λ clean. keeps_held g old.conn.now new.conn.now text params x (runs clean) ended;
        survives = survives;
      }

-- ---- calls in turn

module _ {S : Type 0} (g : Ghosts S) where
  -- calls were done: what they have made of the tables, in a transaction of the same connection
  pub record Did (old new : Transaction S) (change : Tables → Tables) (n : ℕ) : Type 0 where
    pub same_reference : new.conn.ghost_name ≡ old.conn.ghost_name
    pub turn : InTurn (state g old.conn.now) (state g new.conn.now) change n

  -- no call yet, as a change that leaves the tables
  pub none_did : (tx : Transaction S) (change : Tables → Tables) (n : ℕ)
      → ((t : Tables) → change t ≡ t) → Did tx tx change n
  none_did tx change n same = record {
    same_reference = refl;
    turn = none_yet (state g tx.conn.now) change n same;
  }

  pub no_call : (tx : Transaction S) → Did tx tx (λ t. t) 0
  no_call tx = none_did tx (λ t. t) 0 (λ t. refl)

  -- one call
  pub did : {X : Type 0} {old new : Transaction S} {u : X} {after : Tables → Tables}
      {Fits : Trees → Tables → Type 0} {count : ℕ} → ChangesInside g old new (Ok u) after Fits count
      → Did old new after count
  did {X} {old} {new} {u} {after} {Fits} {count} it = record {
    same_reference = it.same_reference;
    turn = one_call (state g old.conn.now) (state g new.conn.now) after count it.survives it.kept
        it.put it.numbers;
  }

  -- a further call
  pub and_did : {X : Type 0} {old mid new : Transaction S} {u : X} {change after : Tables → Tables}
      {Fits : Trees → Tables → Type 0} {n count : ℕ} → Did old mid change n
      → ChangesInside g mid new (Ok u) after Fits count
      → Did old new (λ t. after (change t)) (n + count)
  and_did {X} {old} {mid} {new} {u} {change} {after} {Fits} {n} {count} so it = record {
    same_reference = it.same_reference ∙ so.same_reference;
    turn = then_calls (state g old.conn.now) (state g mid.conn.now) (state g new.conn.now) change n
        so.turn after count (did it).turn;
  }

  -- the same under another name of the change, and of the count
  pub did_as : {old new : Transaction S} {change : Tables → Tables} {n : ℕ}
      (next : Tables → Tables) (total : ℕ) → Did old new change n
      → ((first : Database) (t : Tables) → IsInside first (state g new.conn.now) (change t)
      → IsInside first (state g new.conn.now) (next t)) → n ≤ total → Did old new next total
  did_as {old} {new} {change} {n} next total so as_next sum = record {
    same_reference = so.same_reference;
    turn = record {
      made = record {
        survives = so.turn.made.survives;
        kept = so.turn.made.kept;
        put = λ clean first t was. as_next first t (so.turn.made.put clean first t was);
      };
      numbers = λ clean first t was more room. so.turn.numbers clean first t was more
          (less_room _ _ (seen g old.conn.now) (omega (arith, sum)) room);
    };
  }

  -- all of them, as a call that makes what they do
  pub all_done : {X : Type 0} {old new : Transaction S} {u : X} {change : Tables → Tables} {n : ℕ}
      (after : Tables → Tables) (Fits : Trees → Tables → Type 0) (total : ℕ) → Did old new change n
      → ((first : Database) (t : Tables) → IsInside first (state g new.conn.now) (change t)
      → IsInside first (state g new.conn.now) (after t))
      → n ≤ total → ChangesInside g old new (Ok u) after Fits total
  all_done {X} {old} {new} {u} {change} {n} after Fits total so as_next sum =
      let all = did_as after total so as_next sum in
      record {
        same_reference = all.same_reference;
        put = all.turn.made.put;
        fails = λ _. tt;
        numbers = all.turn.numbers;
        kept = all.turn.made.kept;
        survives = all.turn.made.survives;
      }

  -- a call that failed after others, and whose error is passed on
  pub then_fails : {X Y : Type 0} {old mid new : Transaction S} {e : Error}
      {change further : Tables → Tables} {Now : Trees → Tables → Type 0} {n count : ℕ}
      (x : Result Y Error) (after : Tables → Tables) (Fits : Trees → Tables → Type 0) (total : ℕ)
      → Did old mid change n → ChangesInside g {X = X} mid new (Err e) further Now count
      → ((t : Tables) → Fits (seen g old.conn.now) t
      → ((more : ℕ) → HasRoom (more + n) (seen g old.conn.now) → HasRoom more (seen g mid.conn.now))
      → Now (seen g mid.conn.now) (change t))
      → IsErrAnd x (λ f. f ≡ e) → ChangesInside g old new x after Fits total
  then_fails (Ok y) after Fits total so it as_now err = absurd err
  then_fails {X} {Y} {old} {mid} {new} {e} {change} {further} {Now} {n} {count} (Err f) after Fits
      total so it as_now err =
      let a = state g old.conn.now in
      let b = state g mid.conn.now in
      let c = state g new.conn.now in
      record {
        same_reference = it.same_reference ∙ so.same_reference;
        put = λ _. tt;
        fails = λ clean is. fails_after a b c change n so.turn it.survives clean Fits Now as_now
            (it.fails clean (ap fault_of (sym err) ∙ is));
        numbers = λ _. tt;
        kept = keeps_on registry_schema HasRows a b c change so.turn.made it.survives it.kept;
        survives = lasts registry_schema HasRows a b c change so.turn.made it.survives;
      }

  -- a refusal after others, over what doesn't fit
  pub then_stops : {X : Type 0} {old new : Transaction S} {change : Tables → Tables} {n : ℕ}
      (e : Error) (after : Tables → Tables) (Fits : Trees → Tables → Type 0) (total : ℕ)
      → Did old new change n → ((t : Tables) → Fits (seen g old.conn.now) t → ⊥)
      → ChangesInside g {X = X} old new (Err e) after Fits total
  then_stops {X} {old} {new} {change} {n} e after Fits total so never = record {
    same_reference = so.same_reference;
    put = λ _. tt;
    fails = λ clean is first t was fits. absurd (never t fits);
    numbers = λ _. tt;
    kept = so.turn.made.kept;
    survives = so.turn.made.survives;
  }

  -- the last call after others
  pub then_does : {X : Type 0} {old mid new : Transaction S} {change further : Tables → Tables}
      {Now : Trees → Tables → Type 0} {n count : ℕ} (x : Result X Error)
      (after : Tables → Tables) (Fits : Trees → Tables → Type 0) (total : ℕ)
      → Did old mid change n → ChangesInside g mid new x further Now count
      → ((first : Database) (t : Tables)
      → IsInside first (state g new.conn.now) (further (change t))
      → IsInside first (state g new.conn.now) (after t))
      → ((t : Tables) → Fits (seen g old.conn.now) t
      → ((more : ℕ) → HasRoom (more + n) (seen g old.conn.now) → HasRoom more (seen g mid.conn.now))
      → Now (seen g mid.conn.now) (change t))
      → n + count ≤ total → ChangesInside g old new x after Fits total
  then_does (Ok u) after Fits total so it as_next as_now sum =
      all_done after Fits total (and_did so it) as_next sum
  then_does (Err e) after Fits total so it as_next as_now sum =
      then_fails (Err e) after Fits total so it as_now refl

-- ---- the end of a transaction

module _ {S : Type 0} (g : Ghosts S) (old end : Held S) (begun mid : Transaction S)
    (begin : begun.conn.now ≡ record old { in_transaction = true }) (Given : Tables → Type 0)
    (after : Tables → Tables) (Fits : Trees → Tables → Type 0) where
  -- it is committed, or fails to be
  pub committed_change : {X : Type 0} {u : X} {Now : Trees → Tables → Type 0} {count : ℕ}
      (x : Result (Unit {0}) Error) → ChangesInside g begun mid (Ok u) after Now count
      → ((t : Tables) → Given t → AreNumbered t.commands → AreNumbered (after t).commands)
      → Survives (state g mid.conn.now) (state g end) (CommitsSeen (state g mid.conn.now))
      → (DiskKept g end → OnOk x (HasCommitted (state g mid.conn.now) (state g end)))
      → (DiskKept g end → IfErr x (FailsToCommit (state g mid.conn.now) (state g end)))
      → WritesGiven g old end x Given after Fits
  committed_change x it numbered ends ok err =
      let a = begun.conn.now in
      let b = mid.conn.now in
      let first = (state g old).committed in
      let early : DiskKept g end → DiskKept g b = λ clean. omega (arith, ends.clean, clean) in
      record {
        done = λ clean. commits g old a b end begin it.survives after Given numbered
            (it.put (early clean) first) x (ok clean);
        refused = λ clean. commits_not g old a b end begin it.survives after Given numbered
            (it.put (early clean) first) x (it.kept (early clean)) (err clean);
        store = λ clean. if_err x _ _ (λ e fails is t was given fits.
            let now = it.put (early clean) first t (begun_tables g old a b end begin it.survives t
            was) in
            commit_fails g old a b end begin it.survives ends e now.inside now.is_open fails is)
            (err clean);
        left = λ t was given. commit_leaves g old a b end begin it.survives ends _
            (λ clean. (inside_tables g old a b end begin it.survives after Given numbered
            (it.put clean first) t was given).tables);
        survives = commit_survives g old a b end begin it.survives ends;
      }

  -- it is undone for an error, which is passed on
  pub undone_change : {X Y : Type 0} {e : Error} {Now : Trees → Tables → Type 0} {count : ℕ}
      (x : Result Y Error) → ChangesInside g {X = X} begun mid (Err e) after Now count
      → ((t : Tables) → HasTables g old t → Given t → Fits (seen g old) t → Now (seen g old) t)
      → Survives (state g mid.conn.now) (state g end) (λ _. ⊥)
      → (DiskKept g end → IsRolledBack (state g mid.conn.now) (state g end))
      → IsErrAnd x (λ f. f ≡ e) → WritesGiven g old end x Given after Fits
  undone_change {X} {Y} {e} {Now} x it as_now ends undone err =
      let a = begun.conn.now in
      let b = mid.conn.now in
      let first = (state g old).committed in
      let early : DiskKept g end → DiskKept g b = λ clean. omega (arith, ends.clean, clean) in
      let since = survives_begin g old (state g b) _ (subst (λ h. Survives (state g h) (state g b)
      (λ _. ⊥)) begin it.survives) in
      let leaves : (P : Trees → Type 0) → Survives (state g old) (state g end) P =
      λ P. survives_then (state g old) (state g b) (state g end) (λ _. ⊥) (λ _. ⊥) P
      (λ _ db none. absurd none) (λ _ db none. absurd none) since ends in
      record {
        done = λ clean. never_ok x _ _ err;
        refused = λ clean. on_err x _ (λ t was given is_open. undone_tables g old a b end begin
            it.survives (it.kept (early clean)) (undone clean) t was is_open);
        store = λ clean. passed_on x e _ err (λ is t was given fits.
            undone_fails g old a b end begin it.survives ends
            (it.fails (early clean) is first t
            (begun_tables g old a b end begin it.survives t was)
            (subst (λ h. Now (seen g h) t) (sym begin) (as_now t was given fits))));
        left = λ t was given. leaves _;
        survives = leaves (λ _. Unit {0});
      }
