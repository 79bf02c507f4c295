-- What facts say of a provider.
use Rattle.std.specs.Prelude.{ℕ, Bool, false, List, Option, Some, None, find, option_map}
use Rattle.std.specs.Option.{option_map_or}
use Rattle.gm_metadata.specs.Images.{same_label}
use Rattle.gm_metadata.specs.Sector.{carries}
use Rattle.gm_refusals.specs.declared.facts.Fact.{Fact}

-- the fact of a provider, if it is there
abbrev pub fact_of : List Fact → List ℕ → Option Fact
fact_of facts provider = find (λ f. same_label f.provider provider) facts

-- how many sectors it has
abbrev pub size_in : List Fact → List ℕ → Option ℕ
size_in facts provider = option_map (λ f. f.sectors) (fact_of facts provider)

-- the last of them
abbrev pub last_in : List Fact → List ℕ → Option (List ℕ)
last_in facts provider = option_map (λ f. f.last) (fact_of facts provider)

-- a last sector carries metadata
abbrev pub last_carries : Option (List ℕ) → Bool
last_carries None = false
last_carries (Some x) = carries x

-- how many of its first sectors are known to equal those of the source
abbrev pub equals_in : List Fact → List ℕ → ℕ
equals_in facts provider = option_map_or (λ f. f.equal) (fact_of facts provider) 0
