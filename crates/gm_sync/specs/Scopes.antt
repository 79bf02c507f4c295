-- Which components are meant, which of them are due, and what of these is left to be filled.
use Rattle.std.specs.Prelude.{ℕ, ◌≡◌, ◌&&◌, not, Bool, true, false, List, [], filter, find, map, Option, Some, None}
use Rattle.std.specs.List.{list_any}
use Rattle.gm_metadata.specs.Images.{same_label}
use Rattle.gm_state.specs.declared.records.Mirror.{Mirror as Registered}
use Rattle.gm_state.specs.declared.records.Component.{Component}
use Rattle.gm_state.specs.declared.states.ComponentState.{ComponentState}
use Rattle.gm_state.specs.declared.states.ComponentState.TheVariants.{Active, Stale, Synchronizing, Inactive}
use Rattle.gm_state.specs.Lookups.{component_of}
use Rattle.gm_state.specs.Records.{Records, name}
use Rattle.gm_state.specs.States.{component_state}
use Rattle.gm_sync.specs.declared.due.Due.{Due}
use Rattle.gm_sync.specs.declared.passed_over.PassedOver.{PassedOver}
use Rattle.gm_sync.specs.declared.scope.Scope.{Scope}
use Rattle.gm_sync.specs.declared.scope.Scope.TheVariants.{All, Mirror, Member}

-- a component of that mirror on that provider is meant
abbrev pub is_meant : Scope → List ℕ → List ℕ → Bool
is_meant All mirror provider = true
is_meant (Mirror named) mirror provider = same_label mirror named
is_meant (Member named on) mirror provider = same_label mirror named && same_label provider on

-- the component is meant
abbrev pub is_in : Scope → Component → Bool
is_in scope k = is_meant scope k.mirror k.provider

-- it is of a mirror of which one is meant
abbrev pub is_beside : Scope → Component → Bool
is_beside All k = true
is_beside (Mirror mirror) k = same_label k.mirror mirror
is_beside (Member mirror provider) k = same_label k.mirror mirror

-- no mirror is passed over
abbrev pub PassesNone : PassedOver → Type 0
PassesNone passed = (passed.mirrors.items ≡ []) × (passed.images.items ≡ [])

-- the mirror of this name is passed over
abbrev pub is_passed_over : PassedOver → List ℕ → Bool
is_passed_over passed mirror = list_any (λ n. same_label n mirror) passed.mirrors.items

-- what is meant, but for what is passed over
abbrev pub but : Scope → PassedOver → Due
but meant passed = record { scope = meant; passed_over = passed }

-- a component of that mirror on that provider is due
abbrev pub is_due : Due → List ℕ → List ℕ → Bool
is_due due mirror provider =
    is_meant due.scope mirror provider && not (is_passed_over due.passed_over mirror)

-- a component's state is SYNCHRONIZING
abbrev pub is_synchronizing : Option ComponentState → Bool
is_synchronizing None = false
is_synchronizing (Some Active) = false
is_synchronizing (Some Stale) = false
is_synchronizing (Some Synchronizing) = true
is_synchronizing (Some Inactive) = false

abbrev pub is_filling : Records → Component → Bool
is_filling s k = is_synchronizing (component_state s k.provider)

-- a component is due and SYNCHRONIZING
abbrev pub is_next : Due → Records → Component → Bool
is_next due s k = is_due due k.mirror k.provider && is_filling s k

-- the first such component
abbrev pub next_of : Due → Records → Option Component
next_of due s = find (is_next due s) s.components

-- the component on a provider, if one is there, is of a mirror of which one is meant
abbrev pub is_beside_at : Scope → Option Component → Bool
is_beside_at scope None = false
is_beside_at scope (Some k) = is_beside scope k

abbrev pub is_named_beside : Scope → Records → List ℕ → Bool
is_named_beside scope s p = is_beside_at scope (component_of s p)

-- the component, if one is there, is the mirror's
abbrev pub is_one_of : Registered → Option Component → Bool
is_one_of m None = false
is_one_of m (Some k) = same_label k.mirror m.name

abbrev pub is_component_of : Records → Registered → List ℕ → Bool
is_component_of s m p = is_one_of m (component_of s p)

-- one of the images is of a component of the mirror
abbrev pub has_image : Records → List (List ℕ) → Registered → Bool
has_image s images m = list_any (λ p. is_component_of s m p) images

-- the mirrors that have one
abbrev pub mirrors_of : Records → List (List ℕ) → List (List ℕ)
mirrors_of s images = map name (filter (λ m. has_image s images m) s.mirrors)
