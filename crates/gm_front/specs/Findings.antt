-- Demands, and what they come to at a bench, as the code holds them.
use Rattle.std.specs.Prelude.{◌≡◌, ◌<◌, List, [], Option, Some, None, MatchOption}
use Rattle.std.specs.String.{string_bytes}
use Rattle.sqlite_trees.specs.declared.store.Store.{Ghosts}
use Rattle.sqlite.specs.Held.{Held}
use Rattle.gm_metadata.specs.Images.{Image}
use Rattle.gm_shelf.specs.declared.shelf.Shelf.{Ghosts as ShelfGhosts}
use Rattle.gm_state.specs.Rows.{Tables}
use Rattle.gm_state.specs.World.{World}
use Rattle.gm_registry.specs.Fitting.{HasRoom}
use Rattle.gm_registry.specs.Registry.{DiskKept, StoreFailed, seen}
use Rattle.gm_registry.specs.Replies.{AreWrittenUnder}
use Rattle.gm_looks.specs.declared.unlike.Unlike.{Unlike}
use Rattle.gm_bench.specs.declared.fault.BenchFault.{BenchFault}
use Rattle.gm_bench.specs.declared.fault.BenchFault.TheVariants.{Disk, Store, Unreadable}
use Rattle.gm_bench.specs.Accepting.{one_call}
use Rattle.gm_bench.specs.Benches.{progress_of, registry_of, shelf_of}
use Rattle.gm_bench.specs.Calls.{Keep, most_rows}
use Rattle.gm_bench.specs.Phases.{TakesCommands}
use Rattle.gm_bench.specs.declared.bench.Bench.{Bench}
use Rattle.gm_bench.specs.declared.phase.Progress.{Progress}
use Rattle.gm_bench.specs.declared.phase.Progress.TheVariants as progress
use Rattle.gm_bench.specs.Recovering.{IsAt, LeavesOnly}
use Rattle.gm_bench.specs.Owed.{LeavesRun}
use Rattle.gm_bench.specs.Running.{answer_of}
use Rattle.gm_front.specs.declared.demand.Demand.{Demand as Held_demand}
use Rattle.gm_front.specs.declared.demand.Demand.TheVariants as held
use Rattle.gm_front.specs.declared.finding.Finding.{Finding}
use Rattle.gm_front.specs.declared.finding.Finding.TheVariants as finding
use Rattle.gm_front.specs.declared.finding.Told.{Told as Held_told}
use Rattle.gm_front.specs.Closing.{KeepsClosed}
use Rattle.gm_front.specs.Guards.{withheld_message}
use Rattle.gm_http.specs.declared.status.Status.TheVariants as status
use Rattle.gm_json.specs.Answers.{error_json}
use Rattle.gm_json.specs.Mirrors.{mirror_json, status_json}
use Rattle.gm_front.specs.Demands.{Demand, TurnedDown, AllMirrors, OneMirror, LastSector, NoCommand, Carry, Told, told_as, mirror_told, sector_told, refusal_told, answer_told, fault_told, Responds}

-- a demand, as the code holds it
abbrev pub demand_in : Held_demand → Demand
demand_in (held.TurnedDown status message) = TurnedDown status message.now
demand_in held.AllMirrors = AllMirrors
demand_in (held.OneMirror name) = OneMirror name
demand_in (held.LastSector provider) = LastSector provider
demand_in held.NoCommand = NoCommand
demand_in (held.Carry key command) = Carry (string_bytes key) command

-- what is told, as the code holds it
abbrev pub told_in : Held_told → Told
told_in told = told_as told.status (string_bytes told.body)

-- that a command isn't done, because of these components
abbrev pub withheld_told : List Unlike → Told
withheld_told list = told_as status.Conflict (error_json (withheld_message list))

-- what is told of a finding
abbrev pub told_of : Finding → Told
told_of (finding.TurnedDown status message) = told_as status (error_json message.now)
told_of (finding.Mirrors state) = told_as status.Ok (status_json state)
told_of (finding.OneMirror state name) = mirror_told (mirror_json state name)
told_of (finding.LastSector found) = sector_told found
told_of finding.NoCommand = refusal_told 1
told_of (finding.Answered answer) = answer_told (answer_of answer)
told_of (finding.Failed fault) = fault_told fault
told_of (finding.Withheld list) = withheld_told list.items

-- the fault of the bench, if it failed
abbrev pub fault_of : Finding → Option BenchFault
fault_of (finding.Failed fault) = Some fault
fault_of (finding.TurnedDown status message) = None
fault_of (finding.Mirrors state) = None
fault_of (finding.OneMirror state name) = None
fault_of (finding.LastSector found) = None
fault_of finding.NoCommand = None
fault_of (finding.Answered answer) = None
fault_of (finding.Withheld list) = None

-- the demand was put to the bench: it isn't a command that was withheld
abbrev pub IsPut : Finding → Type 0
IsPut (finding.Withheld list) = ⊥
IsPut _ = Unit {0}

-- a bench that failed stays so, any other is as it was
abbrev pub progress_behind : Progress → Option BenchFault → Progress
progress_behind before None = before
progress_behind before (Some fault) = progress.Failed

-- what the program reads of these tables for the demand is what it writes
abbrev pub AreWrittenFor : Demand → Tables → Type 0
AreWrittenFor (Carry key command) t = AreWrittenUnder key t
AreWrittenFor _ t = Unit {0}

-- `Store` is told at rest only if the store failed, if it can number the rows of a command.
abbrev pub TellsStoreAt : {S H : Type 0} → Ghosts S → ShelfGhosts H → Bench S H → Bench S H
    → Option BenchFault → Type 0
TellsStoreAt s h old new fault = h.honest (shelf_of old) → DiskKept s (registry_of new)
    → (away : Image) (u : World)
    → IsAt s h (registry_of old) (shelf_of old) away [] [] u u
    → fault ≡ Some Store → HasRoom most_rows (seen s (registry_of old))
    → StoreFailed s (registry_of old) (registry_of new)

-- What is left of a bench that was asked at most once, by the fault that it told: it takes commands
-- as before unless it failed, and both media are kept.
pub record LeavesBench {S H : Type 0} (s : Ghosts S) (h : ShelfGhosts H) (old new : Bench S H)
    (fault : Option BenchFault) : Type 0 where
  pub progress : progress_of new ≡ progress_behind (progress_of old) fault
  pub phase : TakesCommands (progress_of new)
  pub closes : KeepsClosed old new fault
  pub store : TellsStoreAt s h old new fault
  pub keep : Keep s h (registry_of old) (registry_of new) (shelf_of old) (shelf_of new)

-- What stands between the start, with the registry r and the shelf h, and the end, with s and k.
module _ {S H : Type 0} (g : Ghosts S) (j : ShelfGhosts H) where
  -- what a demand may leave that the bench failed at: a command what a run may leave, any other
  -- what leads on as before
  abbrev pub LeavesDemand : Held S → Held S → H → H → Image → World → Demand → Type 0
  LeavesDemand r s h k away u (Carry key command) =
      LeavesRun g j r s h k away u u (one_call key command)
  LeavesDemand r s h k away u _ = LeavesOnly g j r s h k away u u

  -- The bench failed at the demand: what that may have left, that a failure of the disk was
  -- counted, and that what this program wrote was read.
  pub record Fails (r s : Held S) (h k : H) (away : Image) (u : World) (demand : Demand)
      (fault : BenchFault) : Type 0 where
    pub left : LeavesDemand r s h k away u demand
    pub disk : fault ≡ Disk → (j.view h).faults < (j.view k).faults
    pub readable : fault ≡ Unreadable → (at : IsAt g j r h away [] [] u u)
        → AreWrittenFor demand at.tables → ⊥

  -- The demand is responded to so, and the bench is at rest in the world that this leaves.
  pub record IsFound (s : Held S) (k : H) (away : Image) (u : World) (demand : Demand)
      (told : Told) : Type 0 where
    pub world : World
    pub responds : Responds u demand world told
    pub at : IsAt g j s k away [] [] world world

  -- what a demand comes to at rest in u
  abbrev pub ComesToFinding : Held S → Held S → H → H → Image → World → Demand → Finding → Type 0
  ComesToFinding r s h k away u demand finding = MatchOption (fault_of finding)
      (IsFound s k away u demand (told_of finding))
      (λ fault. Fails r s h k away u demand fault)
