-- What a fault leaves of a bench that is filled: which commands were handed in before it, and where
-- a stop then leads.
use Rattle.std.specs.Prelude.{◌≡◌, ◌⊎◌, ℕ, Bool, List, []}
use Rattle.sqlite_trees.specs.declared.store.Store.{Ghosts as StoreGhosts}
use Rattle.sqlite.specs.Held.{Held}
use Rattle.gm_metadata.specs.Images.{Image}
use Rattle.gm_shelf.specs.declared.shelf.Shelf.{Ghosts as ShelfGhosts}
use Rattle.gm_commands.specs.declared.command.Command.{Command}
use Rattle.gm_state.specs.declared.intents.Intent.{Intent}
use Rattle.gm_state.specs.World.{World}
use Rattle.gm_rules.specs.AbstractCalls.{Call}
use Rattle.gm_registry.specs.Registry.{DiskKept}
use Rattle.gm_bench.specs.Benches.{progress_of, registry_of, shelf_of}
use Rattle.gm_bench.specs.Recovering.{IsAt, IsCarriedOut, LeavesOnly}
use Rattle.gm_bench.specs.Standing.{LeavesNext, Stands}
use Rattle.gm_bench.specs.declared.bench.Bench.{Bench}
use Rattle.gm_bench.specs.declared.fault.BenchFault.{BenchFault}
use Rattle.gm_bench.specs.declared.fault.BenchFault.TheVariants.{Memory}
use Rattle.gm_bench.specs.declared.phase.Progress.TheVariants.{Failed}
use Rattle.gm_sync.specs.declared.passed_over.PassedOver.{PassedOver}
use Rattle.gm_sync.specs.declared.scope.Scope.{Scope}
use Rattle.gm_sync.specs.Filling.{FailsAsCalls, FailsOn, IsAdvanceIn, IsClosedBut, IsFilledFrom, IsFilledOn, PassesByAudit}
use Rattle.gm_sync.specs.Scopes.{but}
use Rattle.gm_sync.specs.Series.{AllFit, EachFits, InSeries, IsLast}

-- no command
abbrev pub IsNone : Command → Type 0
IsNone c = ⊥

module _ {S H : Type 0} (g : StoreGhosts S) (h : ShelfGhosts H) (Fit : Command → Type 0) where
  -- From u, and v was before, these series of calls that fit were handed in and carried out; the
  -- last that was done is perhaps still to be settled.
  pub record AreCarriedOut (r : Held S) (k : H) (away : Image) (v u : World) : Type 0 where
    pub handed : List (List Call)
    pub world : World
    pub before : World
    pub run : InSeries u handed world
    pub fill : EachFits Fit handed
    pub last : IsLast v u handed before world
    pub intents : List Intent
    pub bytes : List (List ℕ)
    pub at : IsCarriedOut g h r k away intents bytes before world

  -- After them the bench failed at the next series, of calls that fit, which is one commit.
  pub record StopsNext (b : Bench S H) (away : Image) (v u : World) : Type 0 where
    pub registry : Held S
    pub shelf : H
    pub carried : AreCarriedOut registry shelf away v u
    pub calls : List Call
    pub fit : AllFit Fit calls
    pub left : LeavesNext g h registry (registry_of b) shelf (shelf_of b) away carried.before
        carried.world calls
    pub failed : progress_of b ≡ Failed

  -- After them the bench failed as it settled the last, or as it was looked at.
  pub record StopsBetween (b : Bench S H) (away : Image) (v u : World) : Type 0 where
    pub registry : Held S
    pub shelf : H
    pub carried : AreCarriedOut registry shelf away v u
    pub left : LeavesOnly g h registry (registry_of b) shelf (shelf_of b) away carried.before
        carried.world
    pub failed : progress_of b ≡ Failed

  -- where a fault leaves a bench that stood for u, and v was before: if it wasn't the bench that
  -- failed, memory was wanted
  abbrev pub FaultLeavesOn : Bench S H → Image → World → World → BenchFault → Type 0
  FaultLeavesOn b away v u fault =
      ((fault ≡ Memory) × IsFilledOn g h Fit b away v u) ⊎ StopsNext b away v u

  -- where it leaves one that was at rest in u
  abbrev pub FaultLeavesFrom : Bench S H → Image → World → BenchFault → Type 0
  FaultLeavesFrom b away u fault =
      ((fault ≡ Memory) × IsFilledFrom g h Fit b away u)
      ⊎ (StopsNext b away u u ⊎ StopsBetween b away u u)

  -- of an honest shelf and a disk that keeps what is written
  abbrev pub FaultLeaves : Bench S H → Bench S H → BenchFault → Type 0
  FaultLeaves old new fault =
      h.honest (shelf_of old) → DiskKept g (registry_of new) → (away : Image) (u : World)
      → IsAt g h (registry_of old) (shelf_of old) away [] [] u u
      → FaultLeavesFrom new away u fault

  -- A call that fills failed, and the last series may still be to be settled.
  pub record FailsFillingOn (old new : Bench S H) (fault : BenchFault) : Type 0 where
    pub told : FailsOn g h old new fault
    pub closed : IsClosedBut new fault
    pub leaves : h.honest (shelf_of old) → DiskKept g (registry_of new) → (away : Image)
        (v u : World) → Stands g h (progress_of old) (registry_of old) (shelf_of old) away v u
        → FaultLeavesOn new away v u fault

  -- A call that fills from rest failed.
  pub record FailsFilling (old new : Bench S H) (fault : BenchFault) : Type 0 where
    pub told : FailsAsCalls g h old new fault
    pub leaves : FaultLeaves old new fault

-- A sync failed: as it looked for what it passes over, before it handed in anything, or as it
-- filled what is due.
pub record FailsToSync {S H : Type 0} (g : StoreGhosts S) (h : ShelfGhosts H) (old new : Bench S H)
    (scope : Scope) (audits : Bool) (fault : BenchFault) : Type 0 where
  pub told : FailsAsCalls g h old new fault
  pub leaves : FaultLeaves g h IsNone old new fault
      ⊎ ((passed : PassedOver) × PassesByAudit g h old new scope audits passed
      × FaultLeaves g h (IsAdvanceIn (but scope passed)) old new fault)
