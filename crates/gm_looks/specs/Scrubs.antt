-- Which ACTIVE components hold other data than their mirror's source.
use Rattle.std.specs.Prelude.{◌≡◌, ◌<◌, ◌⊎◌, ℕ, List, Option, Some, None, MatchOption, true}
use Rattle.gm_metadata.specs.Images.{Image, Sizes}
use Rattle.gm_state.specs.declared.records.Mirror.{Mirror}
use Rattle.gm_state.specs.declared.records.Component.{Component}
use Rattle.gm_state.specs.Intents.{IsOf}
use Rattle.gm_state.specs.Lookups.{is_active}
use Rattle.gm_state.specs.Records.{Records}
use Rattle.gm_state.specs.Sources.{IsBest}
use Rattle.gm_lists.specs.Ordered.{Has, Ascends}
use Rattle.gm_apply.specs.DifferingData.{IsDifference}
use Rattle.gm_looks.specs.declared.scrub.Flaw.{Flaw}
use Rattle.gm_looks.specs.declared.scrub.Flaw.TheVariants.{Uncompared, Differs}
use Rattle.gm_looks.specs.declared.scrub.Scrubbed.{Scrubbed}

-- the mirror is the one that is asked for, or any is
abbrev pub IsAskedFor : Option (List ℕ) → Mirror → Type 0
IsAskedFor None m = Unit {0}
IsAskedFor (Some name) m = m.name ≡ name

-- an ACTIVE component of the mirror
pub record IsActiveOf (s : Records) (m : Mirror) (k : Component) : Type 0 where
  pub of : IsOf s m k
  pub active : is_active k.disk ≡ true

-- the mirror's source: of its ACTIVE components the one that goes before the others
abbrev pub IsSourceOfMirror : Records → Mirror → Component → Type 0
IsSourceOfMirror s m a = IsBest (IsActiveOf s m) (Some a)

-- the images of a component and of its source are there with the sizes that are registered
pub record AreComparable (size : Sizes) (k a : Component) : Type 0 where
  pub component : size k.provider ≡ Some k.sectors
  pub source : size a.provider ≡ Some a.sectors

module _ (size : Sizes) (seen : Image) (m : Mirror) (k a : Component) where
  -- they are, and each data sector is the source's
  pub record IsAsSource : Type 0 where
    pub comparable : AreComparable size k a
    pub same : (i : ℕ) → i < m.data_sectors → seen k.provider i ≡ seen a.provider i

  -- they are, and so many data sectors aren't the source's, of which that is the first
  pub record DiffersBy (sectors first : ℕ) : Type 0 where
    pub comparable : AreComparable size k a
    pub some : 0 < sectors
    pub within : first < m.data_sectors
    pub by : IsDifference (seen a.provider) (seen k.provider) m.data_sectors
        (record { sectors = sectors; first = first })

  -- that is amiss of the component
  abbrev pub HasFlaw : Flaw → Type 0
  HasFlaw Uncompared = AreComparable size k a → ⊥
  HasFlaw (Differs sectors first) = DiffersBy sectors first

-- beside its mirror's source, what is amiss of a component, if something is
abbrev pub MayHaveFlaw : Records → Sizes → Image → Mirror → Component → Option Flaw → Type 0
MayHaveFlaw s size seen m k found = (a : Component) × IsSourceOfMirror s m a
    × MatchOption found (IsAsSource size seen m k a) (HasFlaw size seen m k a)

-- The list has just those ACTIVE components of the mirrors that are asked for which don't hold the
-- data of their mirror's source, in byte order, each with what is amiss.
pub record IsScrub (s : Records) (size : Sizes) (seen : Image) (asked : Option (List ℕ))
    (list : List Scrubbed) : Type 0 where
  pub amiss : (e : Scrubbed) → Has list e → (m : Mirror) × (k : Component) × IsActiveOf s m k
      × IsAskedFor asked m × (k.provider ≡ e.provider)
      × MayHaveFlaw s size seen m k (Some e.flaw)
  pub others : (m : Mirror) (k : Component) → IsActiveOf s m k → IsAskedFor asked m
      → MayHaveFlaw s size seen m k None
      ⊎ ((e : Scrubbed) × Has list e × (e.provider ≡ k.provider))
  pub ascend : Ascends (λ e. e.provider) list
