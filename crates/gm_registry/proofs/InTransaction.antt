-- A transaction: what its calls and its end leave, if it is committed and if it is undone.
use Rattle.gm_registry.proofs.Common.{◌≡◌, true, false, [], Result, Ok, Err, IfErr, OnOk, OnErr, IsTrue, sym, subst, arith, Ghosts, Database, Trees, Held, state, State, HasCleanDisk, KeepsCommit, KeepsCounts, Shows, Survives, IsRolledBack, FailsToCommit, Error, survives_begin, survives_then, committed, not_committed, rolled, Tables, fault_of, registry_schema, HasCounted, IsInside, SeesTables, AreNumbered, Store, StoreFailed}
use Rattle.sqlite_rows.specs.Calls.{IsInside as IsInsideBy}
use Rattle.gm_registry.proofs.CountedThrough.{begun_rows, counted_inside}
use Rattle.gm_registry.proofs.Failures.{commit_failed, failed_since, failed_until}
use Rattle.gm_registry.proofs.StepsInTurn.{Failed}

-- what a commit says if it was done
abbrev pub HasCommitted : State → State → Type 0
HasCommitted mid end = IsTrue mid.in_transaction × Shows mid end mid.now mid.now false
    × KeepsCounts mid end × (end.marks ≡ [])

-- it commits what is seen, and nothing else
abbrev pub CommitsSeen : State → Trees → Type 0
CommitsSeen mid db = db ≡ mid.now.trees

module _ {S : Type 0} (g : Ghosts S) (old begun mid end : Held S)
    (begin : begun ≡ record old { in_transaction = true })
    (within : Survives (state g begun) (state g mid) (λ _. ⊥)) where
  -- the calls within it, since before it began
  since : Survives (state g old) (state g mid) (λ _. ⊥)
  since = survives_begin g old (state g mid) _ (rw begin at within)

  -- ---- if it is committed

  module _ (ends : Survives (state g mid) (state g end) (CommitsSeen (state g mid))) where
    pub commit_leaves : (P : Trees → Type 0)
        → (HasCleanDisk (state g mid) → P (state g mid).now.trees)
        → Survives (state g old) (state g end) P
    commit_leaves P holds =
        survives_then (state g old) (state g mid) (state g end) (λ _. ⊥) (CommitsSeen (state g mid))
        P (λ _ db none. absurd none)
        (λ clean db is. subst P (sym is) (holds (omega (arith, ends.clean)))) since ends

    pub commit_survives : Survives (state g old) (state g end) (λ _. Unit {0})
    commit_survives = commit_leaves (λ _. Unit {0}) (λ clean. tt)

    -- a commit that fails is a failure since before it began
    pub commit_fails : (e : Error) → IsTrue (state g mid).in_transaction
        → IsTrue (state g mid).is_open → FailsToCommit (state g mid) (state g end) e
        → fault_of e ≡ Store → StoreFailed g old end
    commit_fails e inside is_open fails is =
        failed_since (state g old) (state g mid) (state g end) _ since
        (commit_failed (state g mid) (state g end) e inside is_open fails is)

  -- a failure within it is one at its end, if it is undone
  pub undone_fails : Survives (state g mid) (state g end) (λ _. ⊥)
      → Failed (state g begun) (state g mid) → StoreFailed g old end
  undone_fails ends failed =
      subst (λ h. StoreFailed g h end) begin
      (failed_until (state g begun) (state g mid) (state g end) _ ends failed)

  -- ---- over the tables of a registry

  abbrev first : Database
  first = (state g old).committed

  -- it begins with the tables that were there
  pub begun_tables : (t : Tables) → SeesTables (state g old) t → IsInside first (state g begun) t
  begun_tables t was = subst (λ h. IsInside first (state g h) t) (sym begin)
      (begun_rows g old t was)

  pub undone_tables : (KeepsCommit (state g begun) (state g mid))
      → IsRolledBack (state g mid) (state g end) → (t : Tables) → SeesTables (state g old) t
      → IsTrue (state g end).is_open → SeesTables (state g end) t
  undone_tables kept undone t was is_open =
      rolled registry_schema HasCounted (state g old) (state g begun) (state g mid) (state g end) t
      was (rw begin) kept undone is_open

  -- calls that make these of the tables, if the commands stay numbered
  module _ (change : Tables → Tables) (N : Tables → Type 0)
      (numbered : (t : Tables) → N t → AreNumbered t.commands → AreNumbered (change t).commands)
      (put : (t : Tables) → IsInside first (state g begun) t
      → IsInside first (state g mid) (change t)) where
    pub inside_tables : (t : Tables) → SeesTables (state g old) t → N t
        → IsInsideBy registry_schema HasCounted first (state g mid) (change t)
    inside_tables t was n =
        counted_inside first (state g mid) (change t) (numbered t n was.tables.rows.numbered)
        (put t (begun_tables t was))

    pub commits : (x : Result (Unit {0}) Error)
        → OnOk x (HasCommitted (state g mid) (state g end))
        → OnOk x ((t : Tables) → SeesTables (state g old) t → N t
        → SeesTables (state g end) (change t))
    commits (Ok u) h = λ t was n. committed registry_schema HasCounted first (state g mid)
        (state g end) (change t) (Ok u) (inside_tables t was n) h
    commits (Err e) h = tt

    pub commits_not : (x : Result (Unit {0}) Error)
        → KeepsCommit (state g begun) (state g mid)
        → IfErr x (FailsToCommit (state g mid) (state g end))
        → OnErr x ((t : Tables) → SeesTables (state g old) t → N t
        → IsTrue (state g end).is_open → SeesTables (state g end) t)
    commits_not (Ok u) kept h = tt
    commits_not (Err e) kept h = λ t was n. not_committed registry_schema HasCounted first
        (state g old) (state g begun) (state g mid) (state g end) t (change t) (Err e) was
        (rw begin) kept (inside_tables t was n) h
