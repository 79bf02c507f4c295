-- The whole images of a mirror that would be adopted from a DIRTY one.
use Rattle.std.specs.Prelude.{◌≡◌, ◌==◌, ◌&&◌, ◌||◌, nat_lt, ℕ, Bool, true, false, List}
use Rattle.gm_metadata.specs.Images.{Image, Sizes}
use Rattle.gm_metadata.specs.declared.metadata.Metadata.{Metadata}
use Rattle.gm_lists.specs.Ordered.{Has, label_lt}
use Rattle.gm_losses.specs.LeftImages.{AreOfMirror, IsOfMirror, Says, is_in_use, is_newer, is_whole}

-- data are rather taken from the image on q that says e than from the one on p that says d: by
-- priority, and then by name
abbrev pub goes_first : List ℕ → Metadata → List ℕ → Metadata → Bool
goes_first q e p d = nat_lt d.priority e.priority || (e.priority == d.priority && label_lt q p)

module _ (size : Sizes) (seen : Image) where
  -- of the images on these providers the one on p, which says d, is ACTIVE: it is in use, and none
  -- of them is newer
  pub record IsActiveAmong (ps : List (List ℕ)) (p : List ℕ) (d : Metadata) : Type 0 where
    pub named : Has ps p
    pub says : Says size seen p d
    pub in_use : is_in_use d ≡ true
    pub newest : (q : List ℕ) (e : Metadata) → Has ps q → Says size seen q e
        → is_newer e d ≡ false

  -- their mirror takes its data from it: of those that are ACTIVE none goes first
  pub record IsSourceAmong (ps : List (List ℕ)) (p : List ℕ) (d : Metadata) : Type 0 where
    pub active : IsActiveAmong ps p d
    pub first : (q : List ℕ) (e : Metadata) → IsActiveAmong ps q e
        → goes_first q e p d ≡ false

  -- The mirror of this name would be adopted from these providers, of which the source is DIRTY;
  -- and the image on p, one of that mirror with the source's genid, is whole.
  pub record IsWholeBeside (name : List ℕ) (ps : List (List ℕ)) (p : List ℕ) : Type 0 where
    pub metadata : Metadata
    pub of : IsOfMirror size seen name metadata.mid p metadata
    pub named : AreOfMirror size seen name metadata.mid ps
    pub whole : is_whole metadata ≡ true
    pub source : List ℕ
    pub said : Metadata
    pub source_is : IsSourceAmong ps source said
    pub dirty : said.dflags.dirty ≡ true
    pub genid_is : said.genid ≡ metadata.genid
