-- Images that can be taken into a mirror, and what they hold.
use Rattle.std.specs.Prelude.{◌≡◌, ◌≢◌, ◌-◌, ◌<◌, ℕ, Bool, true, false, not, List, [], ◌∷◌, ◌++◌, codes, take, Option, Some, None, MatchOption, if◌then◌else◌}
use Rattle.std.specs.Str.{bytes_eq}
use Rattle.gm_metadata.specs.Images.{Image, Sizes, zeros}
use Rattle.gm_metadata.specs.Sector.{carries}
use Rattle.gm_state.specs.Lookups.{component_of}
use Rattle.gm_state.specs.Records.{Records}
use Rattle.gm_refusals.specs.Applies.{has_wrong_size}
use Rattle.gm_losses.specs.declared.free_image.FreeImage.{FreeImage}
use Rattle.gm_losses.specs.declared.loss.Loss.{Loss}
use Rattle.gm_losses.specs.declared.loss.Loss.TheVariants.{Database, Data, LastSector}

-- a database of SQLite begins so
unfoldable pub database_magic : List ℕ
database_magic = codes "SQLite format 3" ++ 0 ∷ []

-- the first sector is that of a database
abbrev pub is_database : List ℕ → Bool
is_database x = bytes_eq (take 16 x) database_magic

-- a sector is all zeros
abbrev pub is_blank : List ℕ → Bool
is_blank x = bytes_eq x zeros

-- all n sectors are
abbrev pub AreBlank : (ℕ → List ℕ) → ℕ → Type 0
AreBlank sectors n = (i : ℕ) → i < n → sectors i ≡ zeros

-- of n sectors this is the first that isn't all zeros
pub record IsFirstData (sectors : ℕ → List ℕ) (n place : ℕ) : Type 0 where
  pub within : place < n
  pub blank : AreBlank sectors place
  pub some : sectors place ≢ zeros

-- that one is told, or that there is none
abbrev pub TellsFirst : (ℕ → List ℕ) → ℕ → Option ℕ → Type 0
TellsFirst sectors n found = MatchOption found (AreBlank sectors n) (IsFirstData sectors n)

module _ (s : Records) (size : Sizes) (seen : Image) (p : List ℕ) where
  -- the rules let a mirror take the provider, of so many sectors: it has a size that they let pass,
  -- is no component, and carries no metadata
  pub record IsFree (n : ℕ) : Type 0 where
    pub size_is : size p ≡ Some n
    pub right : has_wrong_size n ≡ false
    pub stranger : component_of s p ≡ None
    pub bare : carries (seen p (n - 1)) ≡ false

  -- and these are its first sector and its last one
  pub record IsFreeImage (image : FreeImage) : Type 0 where
    pub free : IsFree image.sectors
    pub first_is : image.first ≡ seen p 0
    pub last_is : image.last ≡ seen p (image.sectors - 1)

  -- that is told, or that they don't let it be taken
  abbrev pub TellsFree : Option FreeImage → Type 0
  TellsFree found = MatchOption found ((n : ℕ) → IsFree n → ⊥) IsFreeImage

-- what a `label` would take away of an image
abbrev pub lost_of : List ℕ → FreeImage → List Loss
lost_of p image =
    (if is_database image.first then Database p ∷ [] else [])
    ++ (if not (is_blank image.last) then LastSector p ∷ [] else [])

-- what an `insert` would take away of an image with these sectors: a database, or else its first
-- data; or that there are none
abbrev pub TellsLost : List ℕ → (ℕ → List ℕ) → FreeImage → Option Loss → Type 0
TellsLost p sectors image None =
    (is_database image.first ≡ false) × AreBlank sectors image.sectors
TellsLost p sectors image (Some (Database q)) = (q ≡ p) × (is_database image.first ≡ true)
TellsLost p sectors image (Some (Data q place)) = (q ≡ p) × (is_database image.first ≡ false)
    × IsFirstData sectors image.sectors place
TellsLost p sectors image (Some _) = ⊥
