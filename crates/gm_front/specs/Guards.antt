-- What stands in the way of a command, and what a command comes to that is handed in only if
-- nothing does.
use Rattle.std.specs.Prelude.{◌≡◌, ◌≢◌, ◌⊎◌, ◌≤◌, ◌<◌, ℕ, List, [], ◌++◌, Option, Some, None, Result, OnOk, codes, flat_map}
use Rattle.sqlite_trees.specs.declared.store.Store.{Ghosts as StoreGhosts}
use Rattle.sqlite.specs.Held.{Held, state}
use Rattle.gm_metadata.specs.Images.{Image, Sizes}
use Rattle.gm_shelf.specs.Keeping.{ReadsOnly}
use Rattle.gm_shelf.specs.declared.shelf.Shelf.{Ghosts as ShelfGhosts}
use Rattle.gm_commands.specs.declared.command.Command.{Command}
use Rattle.gm_state.specs.declared.intents.Reply.{Reply}
use Rattle.gm_state.specs.Records.{Records}
use Rattle.gm_state.specs.Rows.{Tables}
use Rattle.gm_state.specs.World.{World}
use Rattle.gm_refusals.specs.Applies.{is_about}
use Rattle.gm_looks.specs.Unlikes.{IsUnlike}
use Rattle.gm_looks.specs.declared.unlike.Unlike.{Unlike}
use Rattle.gm_rows.specs.ReadableTables.{AreRecordsOf}
use Rattle.gm_registry.specs.Registry.{DiskKept, HasTables, WasClean, seen}
use Rattle.gm_registry.specs.Replies.{AreWrittenUnder, IsFree, IsKept}
use Rattle.gm_bench.specs.Benches.{progress_of, registry_of, shelf_of}
use Rattle.gm_bench.specs.Calls.{TellsDisk}
use Rattle.gm_bench.specs.Owed.{LookDoes, LookLeaves}
use Rattle.gm_bench.specs.Recovering.{IsAt, LeavesOnly}
use Rattle.gm_bench.specs.declared.bench.Bench.{Bench}
use Rattle.gm_bench.specs.declared.fault.BenchFault.{BenchFault}
use Rattle.gm_bench.specs.declared.fault.BenchFault.TheVariants.{Disk, Unreadable}
use Rattle.gm_bench.specs.declared.phase.Progress.{Progress}
use Rattle.gm_bench.specs.declared.phase.Progress.TheVariants.{Failed}
use Rattle.gm_unlike.specs.Texts.{unlike_line, unlike_word}
use Rattle.gm_words.specs.Lines.{line}
use Rattle.gm_front.specs.Closing.{outcome_fault}
use Rattle.gm_front.specs.Outcomes.{ComesTo, progress_after}
use Rattle.gm_lines.specs.Asked.{Asked, Call, shown}
use Rattle.gm_front.specs.declared.outcome.Outcome.{Outcome}
use Rattle.gm_front.specs.declared.guard.Guarded.{Guarded}
use Rattle.gm_front.specs.declared.guard.Guarded.TheVariants.{Through, Withheld, Unlooked}

-- a command was accepted under the key
abbrev pub IsTaken : Tables → List ℕ → Type 0
IsTaken t key =
    (number : ℕ) × (words : List ℕ) × (reply : Reply) × IsKept t key number words reply

-- What stands in the way of a command under a key. If the key is free, the components that it is
-- about whose images aren't as they are registered. If it is taken, nothing does, since the command
-- is answered by what was accepted.
abbrev pub StandInTheWay : Tables → Records → Sizes → Image → List ℕ → Command → List Unlike
    → Type 0
StandInTheWay t s size seen key command list =
    (IsFree t key × IsUnlike (is_about command) s size seen list)
    ⊎ (IsTaken t key × (list ≡ []))

-- that a command isn't done, and a line for each component that stands in its way
abbrev pub withheld_text : List ℕ → List Unlike → List ℕ
withheld_text key list = line (shown key ++ codes " not done") ++ flat_map unlike_line list

-- the same in one line, without the key
abbrev pub withheld_message : List Unlike → List ℕ
withheld_message list = codes "not done" ++ flat_map unlike_word list

-- the fault of the bench that is told of a command that is guarded
abbrev pub guarded_fault : Guarded → Option BenchFault
guarded_fault (Through outcome) = outcome_fault outcome
guarded_fault (Withheld key list) = None
guarded_fault (Unlooked key fault) = Some fault

-- a bench that failed stays so, one that was only looked at is as it was
abbrev pub progress_guarded : Progress → Guarded → Progress
progress_guarded before (Through outcome) = progress_after before outcome
progress_guarded before (Withheld key list) = before
progress_guarded before (Unlooked key fault) = Failed

-- A registry that was only looked at: it shows the rows that it showed, and its store forgot no
-- fault, and has the limit on steps that it had.
pub record WasRead {S : Type 0} (s : StoreGhosts S) (old new : Held S) : Type 0 where
  pub rows : seen s new ≡ seen s old
  pub counts : (state s old).faults ≤ (state s new).faults
  pub limit : (state s new).step_limit ≡ (state s old).step_limit

module _ {S H : Type 0} (s : StoreGhosts S) (h : ShelfGhosts H) (old new : Bench S H) where
  -- A call that only looks, though more than once: it changes neither medium, and a stop within it
  -- leaves what leads on as before.
  pub record OnlyLooks {T : Type 0} (result : Result T BenchFault) : Type 0 where
    pub stays : OnOk result (progress_of new ≡ progress_of old)
    pub does : h.honest (shelf_of old) → DiskKept s (registry_of new)
        → OnOk result (LookDoes s h (registry_of old) (registry_of new)
        (shelf_of old) (shelf_of new))
    pub leaves : h.honest (shelf_of old) → DiskKept s (registry_of new)
        → LookLeaves s h (registry_of old) (registry_of new) (shelf_of old) (shelf_of new)
    pub read : h.honest (shelf_of old) → DiskKept s (registry_of new)
        → OnOk result ((t : Tables) → HasTables s (registry_of old) t
        → WasRead s (registry_of old) (registry_of new))
    pub only : ReadsOnly h (shelf_of old) (shelf_of new)
    pub clean : WasClean s (registry_of old) (registry_of new)
    pub disk : TellsDisk h (shelf_of old) (shelf_of new) result

-- The list is what stood in the way of a command, by what the registry and the shelf of a bench
-- hold.
abbrev pub StoodInTheWay : {S H : Type 0} → StoreGhosts S → ShelfGhosts H → Bench S H → List ℕ
    → Command → List Unlike → Type 0
StoodInTheWay s h old key command list = (t : Tables) (r : Records)
    → HasTables s (registry_of old) t → AreRecordsOf t r
    → StandInTheWay t r (h.size (shelf_of old)) (h.view (shelf_of old)).seen key command list

-- A command that was let through had nothing in its way. One that was withheld had something, and
-- both media were only looked at.
abbrev pub IsGuarded : {S H : Type 0} → StoreGhosts S → ShelfGhosts H → Bench S H → Bench S H
    → Asked → Guarded → Type 0
IsGuarded s h old new asks (Through outcome) = (key : List ℕ) (command : Command)
    → asks ≡ Call key command → StoodInTheWay s h old key command []
IsGuarded s h old new asks (Withheld key list) = (command : Command) × (asks ≡ Call key.now command)
    × (list.items ≢ []) × StoodInTheWay s h old key.now command list.items
    × LookDoes s h (registry_of old) (registry_of new) (shelf_of old) (shelf_of new)
IsGuarded s h old new asks (Unlooked key fault) =
    (command : Command) × (asks ≡ Call key.now command)

module _ {S H : Type 0} (s : StoreGhosts S) (h : ShelfGhosts H) (old new : Bench S H) (away : Image)
    (u : World) where
  -- What a request came to after a look.
  pub record ComesBehindLook (asks : Asked) (outcome : Outcome) : Type 0 where
    pub mid : Bench S H
    pub looked : LookDoes s h (registry_of old) (registry_of mid) (shelf_of old) (shelf_of mid)
    pub comes : ComesTo s h (registry_of mid) (registry_of new) (shelf_of mid)
        (shelf_of new) away u asks outcome

  -- The look failed: what it left leads on as before, a failure of the disk was counted, and what
  -- this program wrote was read.
  pub record FailsLook (key : List ℕ) (fault : BenchFault) : Type 0 where
    pub left : LeavesOnly s h (registry_of old) (registry_of new) (shelf_of old)
        (shelf_of new) away u u
    pub disk : fault ≡ Disk → (h.view (shelf_of old)).faults < (h.view (shelf_of new)).faults
    pub readable : fault ≡ Unreadable
        → (at : IsAt s h (registry_of old) (shelf_of old) away [] [] u u)
        → AreWrittenUnder key at.tables → ⊥

  -- what a guarded request comes to at rest in u
  abbrev pub ComesToGuarded : Asked → Guarded → Type 0
  ComesToGuarded asks (Through outcome) = ComesBehindLook asks outcome
  ComesToGuarded asks (Withheld key list) =
      IsAt s h (registry_of new) (shelf_of new) away [] [] u u
  ComesToGuarded asks (Unlooked key fault) = FailsLook key.now fault
