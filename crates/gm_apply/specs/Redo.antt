-- What is left of an image by intents that are carried out, or that were stopped on the way.
use Rattle.std.specs.Prelude.{◌≡◌, ◌≤◌, ◌<◌, ◌⊎◌, ℕ, List, Bool, true, false, Option, Some, None, IsSomeAnd, is_some, option_map, ◌&&◌, if◌then◌else◌}
use Rattle.std.specs.List.{list_any}
use Rattle.gm_metadata.specs.Images.{Image, Sizes, Same, same_label}
use Rattle.gm_metadata.specs.Reading.{encoded}
use Rattle.gm_metadata.specs.declared.metadata.Metadata.{Metadata}
use Rattle.gm_shelf.specs.Disk.{View, From}
use Rattle.gm_state.specs.declared.intents.Intent.{Intent}
use Rattle.gm_state.specs.declared.intents.Intent.TheVariants.{Meta, Clear, Copy, Dirty, Patch}
use Rattle.gm_state.specs.Intents.{is_last, is_dirty_of, names, is_place, any_copies, any_fills, Says, IsDirt, InOrder}
use Rattle.gm_state.specs.Lookups.{metadata_of, dirty_metadata_of}
use Rattle.gm_state.specs.Records.{Records}

-- which sectors are meant
abbrev pub Places : Type 0
Places = List ℕ → ℕ → Bool

-- the last sector of the provider
abbrev pub last_of : Sizes → List ℕ → Places
last_of size p q j = same_label p q && is_last (size q) j

-- the images agree but for these
abbrev pub AgreeBut : Places → Image → Image → Type 0
AgreeBut place d x = (q : List ℕ) (j : ℕ) → place q j ≡ false → x q j ≡ d q j

-- the image with these places as in w
abbrev pub with_places : Places → Image → Image → Image
with_places place w d q j = if place q j then w q j else d q j

-- each sector is the old one, or a place as in w
abbrev pub SomePlacesNew : Places → Image → Image → Image → Type 0
SomePlacesNew place w d x = (q : List ℕ) (j : ℕ)
    → (x q j ≡ d q j) ⊎ ((place q j ≡ true) × (x q j ≡ w q j))

-- a Dirty names the sector
abbrev pub is_marked : Sizes → List Intent → Places
is_marked size ts q j = list_any (is_dirty_of q) ts && is_last (size q) j

-- each sector is the old one, a place as in w, or one that a Dirty names, with dirt
abbrev pub SomePlacesWritten : Records → Sizes → List Intent → Image → Image → Image → Type 0
SomePlacesWritten s size ts w d x = (q : List ℕ) (j : ℕ) → (x q j ≡ d q j)
    ⊎ (((is_place size ts q j ≡ true) × (x q j ≡ w q j))
    ⊎ ((is_marked size ts q j ≡ true) × IsDirt s q (x q j)))

-- the provider is as it was but for what was copied to it, and its last sector is the old one
pub record IsAsBefore (size : Sizes) (ts : List Intent) (w d x : Image) (p : List ℕ)
    : Type 0 where
  pub each : (j : ℕ) → (x p j ≡ d p j) ⊎ ((any_copies ts p j ≡ true) × (x p j ≡ w p j))
  pub last : (j : ℕ) → is_last (size p) j ≡ true → x p j ≡ d p j

-- a Dirty marks the provider, and its last sector says so
pub record IsMarked (s : Records) (size : Sizes) (ts : List Intent) (x : Image) (p : List ℕ)
    : Type 0 where
  pub by : list_any (is_dirty_of p) ts ≡ true
  pub last : (j : ℕ) → is_last (size p) j ≡ true → IsDirt s p (x p j)

-- the provider's last sector is the new one, and all data that are brought to it are there
pub record IsNew (size : Sizes) (ts : List Intent) (w x : Image) (p : List ℕ) : Type 0 where
  pub last : (j : ℕ) → is_last (size p) j ≡ true → x p j ≡ w p j
  pub there : (j : ℕ) → any_fills ts p j ≡ true → x p j ≡ w p j

-- how far a provider is on the way from d to w
pub data Stage (s : Records) (size : Sizes) (ts : List Intent) (w d x : Image) (p : List ℕ)
    : Type 0 where
  Before : IsAsBefore size ts w d x p → Stage s size ts w d x p
  Marked : IsMarked s size ts x p → Stage s size ts w d x p
  Behind : IsNew size ts w x p → Stage s size ts w d x p

-- what intents that were stopped on the way leave of d, where the records are s: some places are
-- written, and data come before claims and after dirt
pub record IsPartlyDone (s : Records) (size : Sizes) (ts : List Intent) (w d x : Image)
    : Type 0 where
  pub mix : SomePlacesWritten s size ts w d x
  pub ordered : InOrder size ts → (p : List ℕ) → Stage s size ts w d x p

-- a crash at any moment since old leaves what it left before, or what has P
pub record CrashLeaves (old new : View) (P : Image → Type 0) : Type 0 where
  pub later : old.moment ≤ new.moment
  pub since : (t : ℕ) (x : Image) → t ≤ old.moment → new.left_since t x → old.left_since t x ⊎ P x

-- the places are as in w, in what a read gives and in each image that a crash may leave, and every
-- other sector is as it was
pub record PlacesAreNew (place : Places) (w : Image) (old new : View) : Type 0 where
  pub seen : Same new.seen (with_places place w old.seen)
  pub left : (x : Image) → new.may_leave x
      → From old.may_leave (λ d. Same x (with_places place w d))

-- a crash at any moment of the call leaves some places as in w
abbrev pub Moments : Places → Image → View → View → Type 0
Moments place w old new =
    CrashLeaves old new (λ x. From old.may_leave (λ d. SomePlacesNew place w d x))

-- in the middle of a call some places are as in w: in what a read gives, in what each moment so far
-- left, and in what a crash leaves now
pub record IsUnderWay (place : Places) (w : Image) (old now : View) : Type 0 where
  pub seen : SomePlacesNew place w old.seen now.seen
  pub moments : Moments place w old now
  pub left : (x : Image) → now.may_leave x → From old.may_leave (λ d. SomePlacesNew place w d x)

-- in w these sectors say the metadata that were found
abbrev pub IsFound : Places → Option Metadata → Image → Type 0
IsFound place found w = (q : List ℕ) (j : ℕ) → place q j ≡ true
    → option_map encoded found ≡ Some (w q j)

-- what the intent lays on sector j, where the shelf holds w: what it says, and a Dirty dirt
abbrev pub Lays : Records → List (List ℕ) → Image → Intent → ℕ → List ℕ → Type 0
Lays s bytes w (Dirty p) j x = IsDirt s p x
Lays s bytes w t j x = Says s bytes w t j x

-- in w each sector that the intent names is what it lays there, where the shelf holds x
abbrev pub IsLaid : Records → List (List ℕ) → Sizes → Intent → Image → Image → Type 0
IsLaid s bytes size t x w =
    (q : List ℕ) (j : ℕ) → names size t q j ≡ true → Lays s bytes x t j (w q j)

-- Every sector but these is as it was: in what a read gives, and in each image that a crash may
-- leave, now or at any moment since.
pub record KeepsOthers (place : Places) (old new : View) : Type 0 where
  pub seen : AgreeBut place old.seen new.seen
  pub left : (x : Image) → new.may_leave x → From old.may_leave (λ d. AgreeBut place d x)
  pub moments : CrashLeaves old new (λ x. From old.may_leave (λ d. AgreeBut place d x))

-- the intent writes the sector: a Meta and a Dirty of a provider that is no component write nothing
abbrev pub writes : Records → Sizes → Intent → Places
writes s size (Meta p) q j = is_some (metadata_of s p) && names size (Meta p) q j
writes s size (Dirty p) q j = is_some (dirty_metadata_of s p) && names size (Dirty p) q j
writes s size t q j = names size t q j

-- some intent writes the sector
abbrev pub is_written : Records → Sizes → List Intent → Places
is_written s size ts q j = list_any (λ t. writes s size t q j) ts

-- a provider that the intent reads or writes isn't there
abbrev pub LacksProvider : Sizes → Intent → Type 0
LacksProvider size (Meta p) = size p ≡ None
LacksProvider size (Clear p) = size p ≡ None
LacksProvider size (Copy source target first end) = (size source ≡ None) ⊎ (size target ≡ None)
LacksProvider size (Dirty p) = size p ≡ None
LacksProvider size (Patch p first end) = size p ≡ None

-- the provider has no last sector, or the data go beyond the end of a provider
abbrev pub LacksSector : Sizes → Intent → Type 0
LacksSector size (Meta p) = size p ≡ Some 0
LacksSector size (Clear p) = size p ≡ Some 0
LacksSector size (Copy source target first end) =
    IsSomeAnd (size source) (λ n. n < end) ⊎ IsSomeAnd (size target) (λ n. n < end)
LacksSector size (Dirty p) = size p ≡ Some 0
LacksSector size (Patch p first end) = IsSomeAnd (size p) (λ n. n < end)
