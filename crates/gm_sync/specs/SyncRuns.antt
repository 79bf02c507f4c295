-- What a sync makes of a schedule: those of its series that are done are accepted and acknowledged,
-- each in one commit, in their order.
use Rattle.std.specs.Prelude.{◌⊎◌, ℕ, Bool, List, [], ◌∷◌, Result, Ok, Err}
use Rattle.std.proofs.Common.{inl, inr}
use Rattle.sqlite_trees.specs.declared.store.Store.{Ghosts}
use Rattle.sqlite.specs.Held.{Held}
use Rattle.sqlite.specs.Tree.{Trees}
use Rattle.gm_metadata.specs.Images.{Image, Sizes}
use Rattle.gm_shelf.specs.declared.shelf.Shelf.{Ghosts as ShelfGhosts}
use Rattle.gm_commands.specs.declared.command.Command.{Command}
use Rattle.gm_state.specs.declared.intents.Intent.{Intent}
use Rattle.gm_state.specs.World.{World}
use Rattle.gm_rules.specs.AbstractCalls.{Call}
use Rattle.gm_bench.specs.Benches.{registry_of, shelf_of}
use Rattle.gm_bench.specs.Recovering.{IsCarriedOut}
use Rattle.gm_bench.specs.Schedule.{ArePending, AtRest, Entry, Handed_in, IsButMoved, IsLeftIn, IsRunStop, IsStop, Reached, Stopped, Within}
use Rattle.gm_bench.specs.Standing.{LeavesNext}
use Rattle.gm_bench.specs.declared.bench.Bench.{Bench}
use Rattle.gm_bench.specs.declared.fault.BenchFault.{BenchFault}
use Rattle.gm_sync.specs.declared.passed_over.PassedOver.{PassedOver}
use Rattle.gm_sync.specs.declared.scope.Scope.{Scope}
use Rattle.gm_sync.specs.declared.synced.Synced.{Synced}
use Rattle.gm_sync.specs.Faults.{IsNone}
use Rattle.gm_sync.specs.Filling.{IsAdvanceIn, PassesByAudit}
use Rattle.gm_sync.specs.Scopes.{but}
use Rattle.gm_sync.specs.Series.{AllFit, EachFits}

-- entries, the newest first, after which these series were accepted, each in one commit
abbrev pub with_series : List (List Call) → List Entry → List Entry
with_series [] entries = entries
with_series (calls ∷ more) entries = with_series more (Handed_in calls ∷ entries)

-- one store and one shelf that a stop leaves within a series that is handed in and then settled, or
-- within the settling of the last one after it
abbrev pub IsNextStop : {S H : Type 0} (g : Ghosts S) (j : ShelfGhosts H) (r s : Held S) (h k : H)
    (away : Image) (v u : World) (calls : List Call) → LeavesNext g j r s h k away v u calls
    → Trees → H → Type 0
IsNextStop g j r s h k away v u calls (inl it) db l = IsRunStop g j r s h k away v u calls it db l
IsNextStop g j r s h k away v u calls (inr it) db l =
    IsStop g j r it.registry h it.shelf db l ⊎ IsStop g j it.registry s it.shelf k db l

module _ {S H : Type 0} (g : Ghosts S) (j : ShelfGhosts H) (all : Sizes) (b : Bench S H)
    (away : Image) (acc ack : List Entry) where
  -- Of the series of commands that fit and were handed in some are done, and the bench is at rest
  -- after them.
  pub record RestsBehind (Fit : Command → Type 0) : Type 0 where
    pub handed : List (List Call)
    pub fill : EachFits Fit handed
    pub done : List (List Call)
    pub among : Within done handed
    pub rest : AtRest g j all (registry_of b) (shelf_of b) away (with_series done acc)
        (with_series done ack)

  -- Of those that were handed in some are done and carried out; the last of them is perhaps still
  -- to be settled.
  pub record AreCarriedBehind (handed : List (List Call)) (s : Held S) (k : H) : Type 0 where
    pub done : List (List Call)
    pub among : Within done handed
    pub world : World
    pub before : World
    pub reached : Reached all (with_series done acc) world
    pub last : IsButMoved before world ⊎ ArePending all (with_series done acc) before world
    pub intents : List Intent
    pub bytes : List (List ℕ)
    pub at : IsCarriedOut g j s k away intents bytes before world
    pub told : Within (with_series done ack) (with_series done acc)

  -- After some it failed at the next series: whatever a stop leaves leads on, with all of that or
  -- without.
  pub record StopsAtNext (Fit : Command → Type 0) : Type 0 where
    pub handed : List (List Call)
    pub fill : EachFits Fit handed
    pub calls : List Call
    pub fit : AllFit Fit calls
    pub registry : Held S
    pub shelf : H
    pub behind : AreCarriedBehind handed registry shelf
    pub left : LeavesNext g j registry (registry_of b) shelf (shelf_of b) away behind.before
        behind.world calls
    pub leads : (db : Trees) (l : H) (after : List Entry)
        → IsLeftIn db (Handed_in calls) (with_series behind.done acc) after
        → IsNextStop g j registry (registry_of b) shelf (shelf_of b) away behind.before
        behind.world calls left db l
        → Stopped g j all db l away after (with_series behind.done ack)

  -- It failed as it settled the last one, or as it was looked at: whatever a stop leaves leads on.
  pub record StopsInBetween (Fit : Command → Type 0) : Type 0 where
    pub handed : List (List Call)
    pub fill : EachFits Fit handed
    pub registry : Held S
    pub shelf : H
    pub behind : AreCarriedBehind handed registry shelf
    pub leads : (db : Trees) (l : H) → IsStop g j registry (registry_of b) shelf (shelf_of b) db l
        → Stopped g j all db l away (with_series behind.done acc) (with_series behind.done ack)

  -- a fault leaves one of these
  abbrev pub RestsOrStops : (Command → Type 0) → Type 0
  RestsOrStops Fit = RestsBehind Fit ⊎ (StopsAtNext Fit ⊎ StopsInBetween Fit)

-- What a sync leaves of a bench that was at rest after these entries. If it failed as it looked for
-- what it passes over, no command was handed in.
abbrev pub SyncLeaves : {S H : Type 0} → Ghosts S → ShelfGhosts H → Sizes → Bench S H → Bench S H
    → Image → List Entry → List Entry → Scope → Bool → Result Synced BenchFault → Type 0
SyncLeaves g j all old new away acc ack scope audits (Ok synced) =
    RestsBehind g j all new away acc ack (IsAdvanceIn (but scope synced.passed_over))
SyncLeaves g j all old new away acc ack scope audits (Err fault) =
    RestsOrStops g j all new away acc ack IsNone
    ⊎ ((passed : PassedOver) × PassesByAudit g j old new scope audits passed
    × RestsOrStops g j all new away acc ack (IsAdvanceIn (but scope passed)))
