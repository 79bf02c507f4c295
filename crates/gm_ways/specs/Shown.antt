-- What facts say of images, beside what a shelf shows of them.
use Rattle.std.specs.Prelude.{◌≡◌, ◌++◌, ℕ, List, [], ◌∷◌, map, option_map, Some}
use Rattle.gm_metadata.specs.Images.{Image, Sizes}
use Rattle.gm_shelf.specs.LastSector.{last_of}
use Rattle.gm_state.specs.Records.{Records, members, provider}
use Rattle.gm_refusals.specs.declared.facts.Fact.{Fact}
use Rattle.gm_refusals.specs.Facts.{size_in, last_in}
use Rattle.gm_ways.specs.declared.step.Exchange.{Exchange}

-- the fact is what the shelf shows
pub record IsFact (size : Sizes) (seen : Image) (f : Fact) : Type 0 where
  pub sectors : size f.provider ≡ Some f.sectors
  pub last : f.last ≡ last_of f.sectors (seen f.provider)

-- the facts say of this provider what the shelf shows
pub record Tell (facts : List Fact) (size : Sizes) (seen : Image) (q : List ℕ) : Type 0 where
  pub size_is : size_in facts q ≡ size q
  pub last_is : last_in facts q ≡ option_map (λ n. last_of n (seen q)) (size q)

-- the images of the mirror, and both
abbrev pub names_of : Records → Exchange → List (List ℕ)
names_of s e = (map provider (members s.components e.mirror) ++ e.old ∷ []) ++ e.new ∷ []
