-- How a call on a shelf fails.
use Rattle.std.specs.Prelude.{◌≡◌, ◌<◌, ◌⊎◌, ℕ, None, Result, IsErrOf, IsSomeAnd}
use Rattle.gm_metadata.specs.declared.label.Label.{Label}
use Rattle.gm_metadata.specs.Images.{Sizes}
use Rattle.gm_shelf.specs.declared.shelf.Shelf.{Ghosts}
use Rattle.gm_shelf.specs.declared.fault.ShelfFault.{ShelfFault}
use Rattle.gm_shelf.specs.declared.fault.ShelfFault.TheVariants.{Absent, Range, Device}
use Rattle.gm_apply.specs.EqualData.{count_of}

-- the provider isn't there
abbrev pub IsAbsent : Label → Sizes → Type 0
IsAbsent p size = size p ≡ None

-- the provider is there, and ends before this place
abbrev pub EndsBefore : ℕ → Label → Sizes → Type 0
EndsBefore place p size = IsSomeAnd (size p) (λ n. n < place)

-- the provider has fewer sectors: none if it isn't there
abbrev pub HasFewer : ℕ → Label → Sizes → Type 0
HasFewer sectors p size = count_of size p < sectors

-- it is so of one of two providers
abbrev pub OneOf : (Label → Sizes → Type 0) → Label → Label → Sizes → Type 0
OneOf P p q size = P p size ⊎ P q size

-- Absent and Range tell this of the sizes, and Device that the device failed, and was counted.
pub record FailsAs {H T : Type 0} (g : Ghosts H) (old new : H) (result : Result T ShelfFault)
    (lacks ends : Sizes → Type 0) : Type 0 where
  pub absent : IsErrOf result Absent → lacks (g.size old)
  pub range : IsErrOf result Range → ends (g.size old)
  pub device : IsErrOf result Device → (g.view old).faults < (g.view new).faults
