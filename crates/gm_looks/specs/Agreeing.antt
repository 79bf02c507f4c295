-- Whether images tell by themselves what the registry says of their components.
use Rattle.std.specs.Prelude.{◌≡◌, List, Option, Some, None}
use Rattle.gm_metadata.specs.Images.{Image, Sizes}
use Rattle.gm_state.specs.declared.records.Mirror.{Mirror}
use Rattle.gm_state.specs.declared.records.Component.{Component}
use Rattle.gm_state.specs.declared.states.ComponentState.{ComponentState}
use Rattle.gm_state.specs.declared.states.ComponentState.TheVariants as component
use Rattle.gm_state.specs.Intents.{IsOf}
use Rattle.gm_state.specs.Records.{Records}
use Rattle.gm_state.specs.States.{component_state}
use Rattle.gm_taste.specs.declared.provider.Provider.{Provider}
use Rattle.gm_taste.specs.declared.tasted.Group.{Group}
use Rattle.gm_taste.specs.declared.tasted.LeftOut.{LeftOut}
use Rattle.gm_taste.specs.declared.tasted.Member.{Member}
use Rattle.gm_taste.specs.declared.tasted.MemberState.{MemberState}
use Rattle.gm_taste.specs.declared.tasted.MemberState.TheVariants.{Inactive, Broken, Stale, Synchronizing, Active}
use Rattle.gm_taste.specs.declared.tasted.Tasted.{Tasted}
use Rattle.gm_lists.specs.Ordered.{Has}
use Rattle.gm_looks.specs.Shown.{IsShown}

-- the provider is that of a registered component, as the shelf shows it
pub record IsRegistered (s : Records) (size : Sizes) (seen : Image) (p : Provider) : Type 0 where
  pub shown : IsShown size seen p
  pub mirror : Mirror
  pub component : Component
  pub of : IsOf s mirror component
  pub name_is : p.name ≡ component.provider

-- the providers are those of the registered components alone
pub record AreRegistered (s : Records) (size : Sizes) (seen : Image)
    (ps : List Provider) : Type 0 where
  pub each : (p : Provider) → Has ps p → IsRegistered s size seen p
  pub all : (m : Mirror) (k : Component) → IsOf s m k
      → (p : Provider) × Has ps p × (p.name ≡ k.provider)

-- the state of a component that a member's is; of a BROKEN one there is none
abbrev pub named : MemberState → Option ComponentState
named Inactive = Some component.Inactive
named Broken = None
named (Stale offset) = Some component.Stale
named (Synchronizing offset) = Some component.Synchronizing
named Active = Some component.Active

-- x is told of as a member
abbrev pub IsTold : Tasted → Member → Type 0
IsTold t x = (g : Group) × Has t.groups.items g × Has g.members.items x

-- each component is told of, none is left out, and each has the state that the records name
pub record Agree (s : Records) (t : Tasted) : Type 0 where
  pub all : (m : Mirror) (k : Component) → IsOf s m k
      → (x : Member) × IsTold t x × (x.provider ≡ k.provider)
  pub states : (x : Member) → IsTold t x → named x.state ≡ component_state s x.provider
  pub none_left : (x : LeftOut) → Has t.left.items x → ⊥
