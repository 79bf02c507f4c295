-- An outcome that tells of the store: it failed.
use Rattle.gm_front.proofs.Common.{◌≡◌, Option, Some, Ghosts, Held, Image, World, HasRoom, StoreFailed, seen, most_rows, BenchFault, Store, outcome_fault, ComesTo, Asked, Outcome}
use Rattle.gm_shelf.specs.declared.shelf.Shelf.{Ghosts as ShelfGhosts}
use Rattle.gm_front.specs.declared.outcome.Outcome.TheVariants as outcome

pub store_told : {S H : Type 0} (g : Ghosts S) (j : ShelfGhosts H) (r s : Held S)
    (h k : H) (away : Image) (u : World) (asks : Asked) (it : Outcome)
    → ComesTo g j r s h k away u asks it
    → ◌≡◌ {A = Option BenchFault} (outcome_fault it) (Some Store)
    → HasRoom most_rows (seen g r) → StoreFailed g r s
store_told g j r s h k away u asks outcome.Nothing comes is room =
    absurd (let no : ⊥ = cc in no)
store_told g j r s h k away u asks (outcome.Wrong key) comes is room =
    absurd (let no : ⊥ = cc in no)
store_told g j r s h k away u asks (outcome.Answered key answer) comes is room =
    absurd (let no : ⊥ = cc in no)
store_told g j r s h k away u asks (outcome.Failed key fault) comes is room =
    let same : fault ≡ Store = cc in
    comes.2.store same room
