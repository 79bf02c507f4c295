-- What is told of a command that is accepted.
use Rattle.std.specs.Prelude.{◌≡◌, ◌≤◌, ◌<◌, ◌+◌, ℕ, List, length, Result, IfOk, OnOk}
use Rattle.sqlite_trees.specs.declared.store.Store.{Ghosts}
use Rattle.sqlite.specs.Held.{Held}
use Rattle.gm_state.specs.Rows.{Tables}
use Rattle.gm_state.specs.World.{ReplyFits}
use Rattle.gm_lists.specs.Ordered.{Has}
use Rattle.gm_changes.specs.declared.change.Further.{Further}
use Rattle.gm_changes.specs.Decides.{Changed}
use Rattle.gm_rows.specs.declared.fault.StoreFault.{StoreFault}
use Rattle.gm_rows.specs.Faults.{OnStore, OnUnreadable}
use Rattle.gm_registry.specs.Fitting.{HasRoom}
use Rattle.gm_registry.specs.FittingChanges.{FitsTables, IsFreeUnderFurther}
use Rattle.gm_registry.specs.Registry.{DiskKept, HasTables, IsRegistry, LeavesAlone, StoreFailed, seen}
use Rattle.gm_registry.specs.Replies.{IsFree, count_of}

-- its reply is in range, and so are those under its further keys
abbrev pub RepliesFit : Changed → Type 0
RepliesFit ch = ReplyFits ch.reply × ((f : Further) → Has ch.further f → ReplyFits f.reply)

-- It gets the next number, and the next ones under its further keys, of at most 100,000, its
-- replies are in range, and its keys were free; the registry isn't unreadable while it has no more
-- commands than that, and is left alone if it is. Of a change that fits what is left of the tables,
-- if there is room for its rows, `Store` comes only if the store failed, too many commands were
-- accepted already, or a reply isn't in range.
pub record Accepts {S : Type 0} (g : Ghosts S) (old new : Held S) (result : Result ℕ StoreFault)
    (ch : Changed) (left : Tables → Tables) (key words : List ℕ) : Type 0 where
  pub number : DiskKept g new
      → IfOk result (λ n. (t : Tables) → HasTables g old t → n ≡ count_of t + 1)
  pub limits : IfOk result (λ n. (n + length ch.further ≤ 100000) × RepliesFit ch)
  pub free : DiskKept g new → OnOk result ((t : Tables) → HasTables g old t
      → IsFree t key × IsFreeUnderFurther ch key words t)
  pub unreadable : DiskKept g new
      → OnUnreadable result ((t : Tables) → HasTables g old t → count_of t ≤ 100000 → ⊥)
  pub untouched : OnUnreadable result (IsRegistry g old → LeavesAlone g old new)
  pub store : DiskKept g new
      → OnStore result ((t : Tables) → HasTables g old t
      → count_of t + length ch.further < 100000
      → RepliesFit ch → FitsTables ch key words (left t)
      → HasRoom (length ch.components + length ch.further + 2) (seen g old)
      → StoreFailed g old new)
