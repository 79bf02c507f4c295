-- Calls within a transaction, one after another: how many rows they number, and why the next fails.
use Rattle.gm_registry.proofs.Common.{◌≡◌, ◌⊎◌, ℕ, ◌+◌, ◌≤◌, List, IsSome, arith, MoreFaults, Row, Trees, Database, State, HasCleanDisk, KeepsCommit, Survives, TakesMore, SoFar, nothing_yet, goes_as, Tables, registry_schema, HasRows, IsInside, HasRoom}
use Rattle.gm_registry.proofs.Failures.{failed_since}

-- ---- room

fewer : (n more : ℕ) (rows : List Row) → n ≤ more → TakesMore more rows → TakesMore n rows
fewer n more rows less takes =
    let room = takes.room in
    record { last = takes.last; up_to = takes.up_to; room = omega (arith, less, room) }

-- if there is room for more rows there is room for fewer
pub less_room : (n more : ℕ) (db : Trees) → n ≤ more → HasRoom more db → HasRoom n db
less_room n more db less has = record {
  mirrors = fewer n more (db 1) less has.mirrors;
  components = fewer n more (db 4) less has.components;
  commands = fewer n more (db 8) less has.commands;
}

-- ---- calls in turn

-- so many rows of a table are numbered at most
abbrev pub Numbers : State → State → ℕ → Type 0
Numbers old new count =
    (first : Database) (t : Tables) → IsInside first old t → (more : ℕ)
    → HasRoom (more + count) old.now.trees → HasRoom more new.now.trees

-- the store failed since
abbrev pub Failed : State → State → Type 0
Failed old new = MoreFaults old.faults new.faults ⊎ IsSome old.step_limit

-- what the calls so far have made of the tables, and how many rows of a table they have numbered
pub record InTurn (old now : State) (change : Tables → Tables) (count : ℕ) : Type 0 where
  pub made : SoFar registry_schema HasRows old now change
  pub numbers : HasCleanDisk now → Numbers old now count

-- none so far
pub none_yet : (s : State) (change : Tables → Tables) (count : ℕ) → ((t : Tables) → change t ≡ t)
    → InTurn s s change count
none_yet s change count same = record {
  made = nothing_yet registry_schema HasRows s change same;
  numbers = λ clean first t was more room.
      less_room more (more + count) s.now.trees (omega arith) room;
}

-- a call
pub one_call : (old new : State) (change : Tables → Tables) (count : ℕ) → Survives old new (λ _. ⊥)
    → (HasCleanDisk new → KeepsCommit old new)
    → (HasCleanDisk new → (first : Database) (t : Tables) → IsInside first old t
    → IsInside first new (change t))
    → (HasCleanDisk new → Numbers old new count) → InTurn old new change count
one_call old new change count survives kept put numbers = record {
  made = record { survives = survives; kept = kept; put = put };
  numbers = numbers;
}

module _ (old mid new : State) (change : Tables → Tables) (count : ℕ)
    (so : InTurn old mid change count) where
  -- and further calls
  pub then_calls : (further : Tables → Tables) (n : ℕ) → InTurn mid new further n
      → InTurn old new (λ t. further (change t)) (count + n)
  then_calls further n next = record {
    made = goes_as registry_schema HasRows old mid new change further (λ t. further (change t))
        so.made next.made.survives next.made.kept next.made.put (λ first t is. is);
    numbers = λ clean first t was more room.
        let early : HasCleanDisk mid = omega (arith, next.made.survives.clean, clean) in
        next.numbers clean first (change t) (so.made.put early first t was) more
        (so.numbers early first t was (more + n)
        (less_room _ _ old.now.trees (omega arith) room));
  }

  -- a failure of the next call, which asks for what the calls before it left
  pub fails_after : Survives mid new (λ _. ⊥) → HasCleanDisk new
      → (Fits Now : Trees → Tables → Type 0)
      → ((t : Tables) → Fits old.now.trees t
      → ((more : ℕ) → HasRoom (more + count) old.now.trees → HasRoom more mid.now.trees)
      → Now mid.now.trees (change t))
      → ((first : Database) (t : Tables) → IsInside first mid t → Now mid.now.trees t
      → Failed mid new)
      → (first : Database) (t : Tables) → IsInside first old t → Fits old.now.trees t
      → Failed old new
  fails_after survives clean Fits Now as_now fails first t was fits =
      let early : HasCleanDisk mid = omega (arith, survives.clean, clean) in
      failed_since old mid new _ so.made.survives
      (fails first (change t) (so.made.put early first t was)
      (as_now t fits (so.numbers early first t was)))
