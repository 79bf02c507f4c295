-- What a command has to know of the shelf.
use Rattle.std.specs.Prelude.{◌≡◌, ℕ, List, Option, Some, None, option_map}
use Rattle.gm_metadata.specs.Images.{Image, Sizes}
use Rattle.gm_shelf.specs.declared.shelf.Shelf.{Ghosts as ShelfGhosts}
use Rattle.gm_shelf.specs.LastSector.{last_of}
use Rattle.gm_commands.specs.declared.command.Command.{Command}
use Rattle.gm_commands.specs.declared.command.Command.TheVariants.{Adopt}
use Rattle.gm_refusals.specs.declared.facts.Fact.{Fact}
use Rattle.gm_refusals.specs.Facts.{size_in, last_in, equals_in}
use Rattle.gm_apply.specs.EqualData.{CountsEqual, reach_of}
use Rattle.gm_bench.specs.declared.adopt_scope.Compared.{Compared}

-- if a provider is compared, so many of its first sectors are equal
abbrev pub AreEqual : Sizes → Image → Option Compared → List ℕ → ℕ → Type 0
AreEqual size seen None q n = Unit {0}
AreEqual size seen (Some with) q n =
    CountsEqual seen with.source q (reach_of size with.source q with.limit) n

-- the fact is what the shelf says
pub record IsFact (size : Sizes) (seen : Image) (against : Option Compared)
    (f : Fact) : Type 0 where
  pub sectors : size f.provider ≡ Some f.sectors
  pub last : f.last ≡ last_of f.sectors (seen f.provider)
  pub equal : AreEqual size seen against f.provider f.equal

-- the facts say of this provider what the shelf says
pub record Tell (facts : List Fact) (size : Sizes) (seen : Image) (against : Option Compared)
    (q : List ℕ) : Type 0 where
  pub size_is : size_in facts q ≡ size q
  pub last_is : last_in facts q ≡ option_map (λ n. last_of n (seen q)) (size q)
  pub equal_is : AreEqual size seen against q (equals_in facts q)

-- the sizes that the facts say are the shelf's, even if it isn't honest
abbrev pub TellSizes : List Fact → Sizes → Type 0
TellSizes facts size = (q : List ℕ) (n : ℕ) → size_in facts q ≡ Some n → size q ≡ Some n

-- an adoption looks at its images twice, and only an honest shelf shows them alike both times
abbrev pub IsHonestToAdopt : {H : Type 0} → ShelfGhosts H → H → Command → Type 0
IsHonestToAdopt h shelf (Adopt n ps) = h.honest shelf
IsHonestToAdopt h shelf _ = Unit {0}
