-- What an audit lists: the components that the shelf shows otherwise than they are registered.
use Rattle.std.specs.Prelude.{◌≡◌, ◌⊎◌, ◌-◌, ℕ, List, Some}
use Rattle.gm_metadata.specs.Images.{Image, Sizes}
use Rattle.gm_metadata.specs.Reading.{encoded}
use Rattle.gm_state.specs.declared.records.Mirror.{Mirror}
use Rattle.gm_state.specs.declared.records.Component.{Component}
use Rattle.gm_state.specs.Intents.{IsOf}
use Rattle.gm_state.specs.Lookups.{metadata}
use Rattle.gm_state.specs.Records.{Records}
use Rattle.gm_lists.specs.Ordered.{Has, Ascends}

-- the provider of the component is there with its registered size, and its last sector is byte for
-- byte its metadata's
pub record IsAsRegistered (size : Sizes) (seen : Image) (m : Mirror) (k : Component) : Type 0 where
  pub size_is : size k.provider ≡ Some k.sectors
  pub last_is : seen k.provider (k.sectors - 1) ≡ encoded (metadata m k)

-- the names are those of just the components that aren't as they are registered, in byte order
pub record IsAudit (s : Records) (size : Sizes) (seen : Image)
    (names : List (List ℕ)) : Type 0 where
  pub amiss : (p : List ℕ) → Has names p → (m : Mirror) × (k : Component) × IsOf s m k
      × (k.provider ≡ p) × (IsAsRegistered size seen m k → ⊥)
  pub others : (m : Mirror) (k : Component) → IsOf s m k
      → IsAsRegistered size seen m k ⊎ Has names k.provider
  pub ascend : Ascends (λ p. p) names
