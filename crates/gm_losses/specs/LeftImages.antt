-- The other images of a mirror that is adopted.
use Rattle.std.specs.Prelude.{◌≡◌, ◌<◌, ◌↔◌, ◌==◌, ◌&&◌, ◌||◌, not, nat_lt, ℕ, Bool, true, false, List, Ok}
use Rattle.gm_metadata.specs.Images.{Image, Sizes}
use Rattle.gm_metadata.specs.declared.metadata.Metadata.{Metadata}
use Rattle.gm_lists.specs.Ordered.{Has}
use Rattle.gm_taste.specs.declared.provider.Provider.{Provider}
use Rattle.gm_taste.specs.Verdicts.{verdict}
use Rattle.gm_looks.specs.Shown.{IsShown}

-- the one has a greater genid than the other, or the same and a greater syncid
abbrev pub is_newer : Metadata → Metadata → Bool
is_newer d other =
    nat_lt other.genid d.genid || (other.genid == d.genid && nat_lt other.syncid d.syncid)

-- an image that says this takes part in its mirror, and isn't being filled
abbrev pub is_in_use : Metadata → Bool
is_in_use d = not d.dflags.inactive && not d.dflags.synchronizing

-- it is whole: no patch was stopped in it either
abbrev pub is_whole : Metadata → Bool
is_whole d = not d.dflags.dirty && is_in_use d

module _ (size : Sizes) (seen : Image) where
  -- tasting takes the image on the provider to say this
  pub record Says (p : List ℕ) (d : Metadata) : Type 0 where
    pub image : Provider
    pub shown : IsShown size seen image
    pub name_is : image.name ≡ p
    pub taken : verdict image ≡ Ok d

  -- and it is one of the mirror of this name and mid
  pub record IsOfMirror (name : List ℕ) (mid : ℕ) (p : List ℕ) (d : Metadata) : Type 0 where
    pub says : Says p d
    pub name_is : d.name ≡ name
    pub mid_is : d.mid ≡ mid

  -- an image that says this is BROKEN: it takes part, and another of its mirror has a greater genid
  pub record IsBroken (d : Metadata) : Type 0 where
    pub takes_part : d.dflags.inactive ≡ false
    pub provider : List ℕ
    pub other : Metadata
    pub of : IsOfMirror d.name d.mid provider other
    pub behind : d.genid < other.genid

  -- an image that says this is torn: it is DIRTY, and another of its mirror and genid is whole
  pub record IsTorn (d : Metadata) : Type 0 where
    pub dirty : d.dflags.dirty ≡ true
    pub provider : List ℕ
    pub other : Metadata
    pub of : IsOfMirror d.name d.mid provider other
    pub whole : is_whole other ≡ true
    pub genid_is : other.genid ≡ d.genid

  -- these are images of the mirror of this name and mid
  abbrev pub AreOfMirror : List ℕ → ℕ → List (List ℕ) → Type 0
  AreOfMirror name mid ps = (q : List ℕ) → Has ps q
      → (d : Metadata) × IsOfMirror name mid q d

  -- The image on p is left if the mirror of this name is adopted from these providers: it and they
  -- are images of one mirror of that name, and it is none of them, not BROKEN and not torn. It is
  -- newer if it is so beside each of them.
  pub record IsLeft (name : List ℕ) (ps : List (List ℕ)) (p : List ℕ) (newer : Bool) : Type 0 where
    pub metadata : Metadata
    pub of : IsOfMirror name metadata.mid p metadata
    pub named : AreOfMirror name metadata.mid ps
    pub other : Has ps p → ⊥
    pub current : IsBroken metadata → ⊥
    pub needed : IsTorn metadata → ⊥
    pub newer_is : (newer ≡ true) ↔ ((q : List ℕ) (d : Metadata) → Has ps q → Says q d
        → is_newer metadata d ≡ true)
