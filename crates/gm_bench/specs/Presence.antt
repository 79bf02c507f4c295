-- Which images an opening needs before it carries anything out.
use Rattle.std.specs.Prelude.{ℕ, Bool, false, not, ◌==◌, nat_lt, List, [], ◌∷◌, Option, Some, None}
use Rattle.std.specs.List.{find, flat_map}
use Rattle.gm_metadata.specs.Images.{Sizes}
use Rattle.gm_state.specs.declared.intents.Intent.{Intent}
use Rattle.gm_state.specs.declared.intents.Intent.TheVariants.{Meta, Clear, Copy, Dirty, Patch}
use Rattle.gm_state.specs.declared.records.Component.{Component}
use Rattle.gm_state.specs.Lookups.{component_of}
use Rattle.gm_state.specs.Records.{Records}
use Rattle.gm_state.specs.Intents.{IsAtHand}
use Rattle.gm_lists.specs.Ordered.{Has}

-- a provider of so many sectors serves: a component with its registered size, another one with a
-- sector
abbrev pub serves : Option Component → Option ℕ → Bool
serves k None = false
serves None (Some n) = nat_lt 0 n
serves (Some k) (Some n) = n == k.sectors

-- the provider is there as the intents need it
abbrev pub is_present : Records → Sizes → List ℕ → Bool
is_present s size p = serves (component_of s p) (size p)

-- the providers of an intent, a copy's target before its source
abbrev pub providers_in : Intent → List (List ℕ)
providers_in (Meta p) = p ∷ []
providers_in (Clear p) = p ∷ []
providers_in (Copy source target first end) = target ∷ source ∷ []
providers_in (Dirty p) = p ∷ []
providers_in (Patch p first end) = p ∷ []

-- the providers of these intents are on a shelf of these sizes, with each sector that they name
abbrev pub AreAtHand : Sizes → List Intent → Type 0
AreAtHand size ts = (t : Intent) → Has ts t → IsAtHand size t

-- the first of these providers that isn't there as the intents need it
abbrev pub absent_among : Records → Sizes → List (List ℕ) → Option (List ℕ)
absent_among s size ps = find (λ p. not (is_present s size p)) ps

-- the first such provider of the intents, in their order
abbrev pub first_absent : Records → Sizes → List Intent → Option (List ℕ)
first_absent s size ts = absent_among s size (flat_map providers_in ts)
