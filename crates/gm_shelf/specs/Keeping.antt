-- What a call leaves of a shelf, at each of its exits.
use Rattle.std.specs.Prelude.{◌≡◌, ◌≤◌, ◌<◌, ◌↔◌, Result, IsErrOf}
use Rattle.gm_metadata.specs.Images.{Sizes}
use Rattle.gm_shelf.specs.Disk.{AreReads}
use Rattle.gm_shelf.specs.declared.shelf.Shelf.{Ghosts}
use Rattle.gm_shelf.specs.declared.fault.ShelfFault.{ShelfFault}
use Rattle.gm_shelf.specs.declared.fault.ShelfFault.TheVariants.{Absent, Range, Device}

module _ {H : Type 0} (g : Ghosts H) (old new : H) where
  -- An honest shelf stays so, its sizes stay, and its count of failures doesn't fall.
  pub record Keeps : Type 0 where
    pub honest : g.honest old → g.honest new
    pub size : g.size new ≡ g.size old
    pub count : (g.view old).faults ≤ (g.view new).faults

  -- beside that the call only reads
  pub record ReadsOnly : Type 0 where
    pub keeps : Keeps
    pub reads : g.honest old → AreReads (g.view old) (g.view new)

-- Absent and Range tell just when this is so of the sizes, and Device that the device failed, and
-- that it was counted.
pub record FailsJustAs {H T : Type 0} (g : Ghosts H) (old new : H) (result : Result T ShelfFault)
    (lacks ends : Sizes → Type 0) : Type 0 where
  pub absent : IsErrOf result Absent ↔ lacks (g.size old)
  pub range : IsErrOf result Range ↔ ends (g.size old)
  pub device : IsErrOf result Device → (g.view old).faults < (g.view new).faults

-- The call doesn't tell that a provider or a place isn't there.
pub record TellsNoLack {T : Type 0} (result : Result T ShelfFault) : Type 0 where
  pub absent : IsErrOf result Absent → ⊥
  pub range : IsErrOf result Range → ⊥

-- A call that only reads, and only what is there: it fails for want of memory, or if the device
-- failed and that was counted.
pub record Looks {H T : Type 0} (g : Ghosts H) (old new : H) (result : Result T ShelfFault) :
    Type 0 where
  pub only : ReadsOnly g old new
  pub device : IsErrOf result Device → (g.view old).faults < (g.view new).faults
  pub absent : IsErrOf result Absent → ⊥
  pub range : IsErrOf result Range → ⊥
