-- What a shelf shows to one who tastes it: its providers with their last sectors, without a
-- registry.
use Rattle.std.specs.Prelude.{◌≡◌, ℕ, List, Some}
use Rattle.gm_metadata.specs.Images.{Image, Sizes}
use Rattle.gm_taste.specs.declared.provider.Provider.{Provider}
use Rattle.gm_taste.specs.declared.tasted.Tasted.{Tasted}
use Rattle.gm_taste.specs.Tasted.{DistinctNames, IsTasted}
use Rattle.gm_lists.specs.Ordered.{Has}
use Rattle.gm_shelf.specs.LastSector.{last_of}

-- the provider is what the shelf shows under its name
pub record IsShown (size : Sizes) (seen : Image) (p : Provider) : Type 0 where
  pub sectors_are : size p.name ≡ Some p.sectors
  pub last_is : p.last ≡ last_of p.sectors (seen p.name)

-- these are the providers of the shelf, each once
pub record AreShown (size : Sizes) (seen : Image) (ps : List Provider) : Type 0 where
  pub each : (p : Provider) → Has ps p → IsShown size seen p
  pub all : (name : List ℕ) (n : ℕ) → size name ≡ Some n
      → (p : Provider) × Has ps p × (p.name ≡ name)
  pub once : DistinctNames ps

-- what the last sectors of the shelf's providers tell
abbrev pub IsTastedOn : Sizes → Image → Tasted → Type 0
IsTastedOn size seen t = (ps : List Provider) × AreShown size seen ps × IsTasted ps t
