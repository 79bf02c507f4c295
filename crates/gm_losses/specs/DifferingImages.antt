-- The named images of a mirror that would be adopted whose data aren't those of its source.
use Rattle.std.specs.Prelude.{◌<◌, ℕ, List}
use Rattle.gm_metadata.specs.Images.{Image, Sizes}
use Rattle.gm_metadata.specs.declared.metadata.Metadata.{Metadata}
use Rattle.gm_refusals.specs.Adoptable.{data_of}
use Rattle.gm_apply.specs.DifferingData.{IsDifference}
use Rattle.gm_apply.specs.EqualData.{reach_of}
use Rattle.gm_losses.specs.LeftImages.{AreOfMirror}
use Rattle.gm_losses.specs.WholeImages.{IsActiveAmong, IsSourceAmong}

module _ (size : Sizes) (seen : Image) where
  -- The mirror of this name would be adopted from these providers, of which the image on p is
  -- ACTIVE. So many sectors of its data aren't those of the source, and that one is the first. They
  -- are compared up to the ends of both images.
  pub record IsUnlikeSource (name : List ℕ) (ps : List (List ℕ)) (p : List ℕ)
      (sectors first : ℕ) : Type 0 where
    pub mid : ℕ
    pub named : AreOfMirror size seen name mid ps
    pub metadata : Metadata
    pub active : IsActiveAmong size seen ps p metadata
    pub source : List ℕ
    pub said : Metadata
    pub source_is : IsSourceAmong size seen ps source said
    pub some : 0 < sectors
    pub by : IsDifference (seen source) (seen p) (reach_of size source p (data_of said))
        (record { sectors = sectors; first = first })
