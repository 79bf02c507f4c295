-- What a command comes to that isn't handed in if something speaks against it.
use Rattle.std.specs.Prelude.{◌≡◌, ◌≢◌, ◌⊎◌, ℕ, List, [], String}
use Rattle.std.specs.declared.alloc.Global.{Global}
use Rattle.sqlite_trees.specs.declared.store.Store.{Ghosts as StoreGhosts}
use Rattle.gm_shelf.specs.declared.shelf.Shelf.{Ghosts as ShelfGhosts}
use Rattle.gm_shelf.specs.Keeping.{ReadsOnly}
use Rattle.gm_commands.specs.declared.command.Command.{Command}
use Rattle.gm_registry.specs.Registry.{DiskKept, WasClean}
use Rattle.gm_bench.specs.Benches.{registry_of, shelf_of}
use Rattle.gm_bench.specs.Owed.{LookDoes}
use Rattle.gm_bench.specs.declared.bench.Bench.{Bench}
use Rattle.gm_front.specs.Guards.{IsGuarded, StoodInTheWay}
use Rattle.gm_lines.specs.Asked.{Asked, Call}
use Rattle.gm_process.specs.declared.status.Status.{Status}
use Rattle.gm_process.specs.declared.status.Status.TheVariants.{Refused}
use Rattle.gm_handing_in.specs.declared.guard.Weighed.{Weighed}
use Rattle.gm_handing_in.specs.declared.guard.Weighed.TheVariants.{Losing, Passed}

-- Only if nothing speaks against it was the bench asked, and then as one that looks at images is.
-- Else the bench is as it was, and what speaks against it is told.
abbrev pub IsWeighed : {S H : Type 0} → StoreGhosts S → ShelfGhosts H → Bench S H → Bench S H
    → Asked → List (String Global) → Weighed → Type 0
IsWeighed s h old new asks against (Losing key sentences) =
    (new ≡ old) × (sentences.items ≡ against) × (against ≢ [])
IsWeighed s h old new asks against (Passed guarded) = (against ≡ [])
    × (h.honest (shelf_of old) → DiskKept s (registry_of new)
    → IsGuarded s h old new asks guarded)

-- A call that only looked at an honest shelf and at a disk that keeps what is written.
pub record OnlySees {S H : Type 0} (s : StoreGhosts S) (h : ShelfGhosts H) (old new : Bench S H) :
    Type 0 where
  pub does : h.honest (shelf_of old) → DiskKept s (registry_of new)
      → LookDoes s h (registry_of old) (registry_of new) (shelf_of old) (shelf_of new)
  pub only : ReadsOnly h (shelf_of old) (shelf_of new)
  pub clean : WasClean s (registry_of old) (registry_of new)

-- nothing stood in the way of the command that is asked
abbrev pub HadNothing : {S H : Type 0} → StoreGhosts S → ShelfGhosts H → Bench S H → Asked
    → Type 0
HadNothing s h old asks = (key : List ℕ) (command : Command) → asks ≡ Call key command
    → StoodInTheWay s h old key command []

-- a command by itself: one that is done had nothing in its way, and of one that is refused either
-- it is so too, or both media were only looked at
abbrev pub IsOneGuarded : {S H : Type 0} → StoreGhosts S → ShelfGhosts H → Bench S H → Bench S H
    → Asked → Status → Type 0
IsOneGuarded s h old new asks Refused = HadNothing s h old asks
    ⊎ LookDoes s h (registry_of old) (registry_of new) (shelf_of old) (shelf_of new)
IsOneGuarded s h old new asks _ = HadNothing s h old asks
