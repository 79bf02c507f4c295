-- The source of a copy.
use Rattle.std.specs.Prelude.{◌≡◌, ◌⊎◌, ◌<◌, ◌==◌, ℕ, Bool, true, not, ◌&&◌, ◌||◌, nat_lt, List, Option, Some, None, find, option_and_then, option_map}
use Rattle.std.specs.List.{list_any}
use Rattle.gm_metadata.specs.Images.{same_label}
use Rattle.gm_state.specs.declared.records.Component.{Component}
use Rattle.gm_lists.specs.Ordered.{Has, label_lt}
use Rattle.gm_state.specs.Records.{Records, members, provider}
use Rattle.gm_state.specs.Lookups.{is_active, component_of}

-- an ACTIVE component of the target's mirror, other than the target
abbrev pub lends_to : Component → Component → Bool
lends_to t k =
    same_label k.mirror t.mirror && (is_active k.disk && not (same_label k.provider t.provider))

-- a has the greater priority, or as great a one and the lesser name
abbrev pub GoesFirst : Component → Component → Type 0
GoesFirst a b = (b.priority < a.priority)
    ⊎ ((b.priority ≡ a.priority) × (label_lt a.provider b.provider ≡ true))

-- the one of those with P that goes before the others; none if none has P
abbrev pub IsBest : (Component → Type 0) → Option Component → Type 0
IsBest P None = (j : Component) → P j → ⊥
IsBest P (Some k) = P k × ((j : Component) → P j → (j ≡ k) ⊎ GoesFirst k j)

-- r names the best of those that lend to the target; a provider that is no component has no source
abbrev pub IsSourceOf : Records → Option Component → Option (List ℕ) → Type 0
IsSourceOf s None r = r ≡ None
IsSourceOf s (Some t) r = (o : Option Component)
    × IsBest (λ j. Has s.components j × (lends_to t j ≡ true)) o
    × (r ≡ option_map (λ k. k.provider) o)

-- r is the source of a copy to the target
abbrev pub IsSource : Records → List ℕ → Option (List ℕ) → Type 0
IsSource s target r = IsSourceOf s (component_of s target) r

-- the same as functions: a goes first
abbrev pub goes_first : Component → Component → Bool
goes_first a b =
    nat_lt b.priority a.priority || (b.priority == a.priority && label_lt a.provider b.provider)

-- of the components that lend to t the one before which no other goes
abbrev pub source_among : Component → List Component → Option Component
source_among t ks =
    find (λ k. lends_to t k && not (list_any (λ j. lends_to t j && goes_first j k) ks)) ks

-- the source of a copy to the target
abbrev pub source_of : Records → List ℕ → Option (List ℕ)
source_of s target =
    option_and_then (λ t. option_map provider (source_among t (members s.components t.mirror)))
    (component_of s target)
