-- Which components' images aren't as they are registered, and how they stand.
use Rattle.std.specs.Prelude.{◌≡◌, ◌≢◌, ◌⊎◌, Bool, true, List}
use Rattle.gm_metadata.specs.Images.{Image, Sizes}
use Rattle.gm_lists.specs.Ordered.{Has, Ascends}
use Rattle.gm_state.specs.declared.records.Mirror.{Mirror}
use Rattle.gm_state.specs.declared.records.Component.{Component}
use Rattle.gm_state.specs.Intents.{IsOf}
use Rattle.gm_state.specs.Records.{Records}
use Rattle.gm_refusals.specs.Applies.{is_about}
use Rattle.gm_looks.specs.Audits.{IsAsRegistered}
use Rattle.gm_looks.specs.Standings.{IsOfComponent}
use Rattle.gm_looks.specs.declared.standing.Standing.TheVariants.{AsRegistered}
use Rattle.gm_looks.specs.declared.unlike.Meant.{Meant}
use Rattle.gm_looks.specs.declared.unlike.Meant.TheVariants.{All, By}
use Rattle.gm_looks.specs.declared.unlike.Unlike.{Unlike}

-- all components, or those that a command is about
abbrev pub is_meant : Meant → Component → Bool
is_meant All k = true
is_meant (By command) k = is_about command.now k

-- the entry tells how the image of a component stands that is meant, and not as it is registered
pub record TellsUnlike (is_meant : Component → Bool) (size : Sizes) (seen : Image) (m : Mirror)
    (k : Component) (e : Unlike) : Type 0 where
  pub meant : is_meant k ≡ true
  pub stands : IsOfComponent size seen m k e.standing
  pub other : e.standing ≢ AsRegistered

-- The list has just those components that are meant whose images aren't as they are registered, in
-- byte order, each with how it stands.
pub record IsUnlike (is_meant : Component → Bool) (s : Records) (size : Sizes) (seen : Image)
    (list : List Unlike) : Type 0 where
  pub told : (e : Unlike) → Has list e → (m : Mirror) × (k : Component) × IsOf s m k
      × (k.provider ≡ e.provider) × TellsUnlike is_meant size seen m k e
  pub others : (m : Mirror) (k : Component) → IsOf s m k → is_meant k ≡ true
      → IsAsRegistered size seen m k ⊎ ((e : Unlike) × Has list e × (e.provider ≡ k.provider))
  pub ascend : Ascends (λ e. e.provider) list
