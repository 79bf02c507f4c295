-- What a comparison of an image with its mirror's source found.
use Rattle.std.specs.Prelude.{◌≡◌, ◌<◌, ℕ}
use Rattle.gm_metadata.specs.declared.label.Label.{Label}
use Rattle.gm_metadata.specs.Images.{Image, Sizes}
use Rattle.gm_apply.specs.DifferingData.{IsDifference}
use Rattle.gm_apply.specs.Failing.{HasFewer, OneOf}
use Rattle.gm_mending.specs.declared.owed.Owed.{Owed}
use Rattle.gm_mending.specs.declared.owed.Owed.TheVariants as owed
use Rattle.gm_mending.specs.declared.compared.Compared.{Compared}
use Rattle.gm_mending.specs.declared.compared.Compared.TheVariants.{Equal, Differs, Short, Alone}

module _ (size : Sizes) (seen : Image) (p : Label) where
  -- both have so many sectors, and these are equal
  pub record IsEqual (source : Label) (n : ℕ) : Type 0 where
    pub long : OneOf (HasFewer n) source p size → ⊥
    pub same : (i : ℕ) → i < n → seen source i ≡ seen p i

  -- both have so many sectors, of which so many differ, and that is the first of these
  pub record DiffersBy (source : Label) (n sectors first : ℕ) : Type 0 where
    pub long : OneOf (HasFewer n) source p size → ⊥
    pub within : first < n
    pub by : IsDifference (seen source) (seen p) n
        (record { sectors = sectors; first = first })

  -- what is found of n first sectors beside those of the source
  abbrev pub IsFoundWith : Label → ℕ → Compared → Type 0
  IsFoundWith source n Equal = IsEqual source n
  IsFoundWith source n (Differs q sectors first) = (q ≡ source) × DiffersBy source n sectors first
  IsFoundWith source n (Short q) = (q ≡ source) × OneOf (HasFewer n) source p size
  IsFoundWith source n Alone = ⊥

  -- what is found of that which is owed
  abbrev pub IsFound : Owed → Compared → Type 0
  IsFound owed.Nothing found = found ≡ Equal
  IsFound (owed.With source n) found = IsFoundWith source n found
  IsFound owed.Alone found = found ≡ Alone
