-- Which images say that they are components of a mirror, and aren't.
use Rattle.std.specs.Prelude.{◌≡◌, ◌≤◌, ◌==◌, ℕ, Bool, false, List, Option, Some, None, Ok, flat_map, nat_lt, option_and_then, if◌then◌else◌}
use Rattle.std.specs.List.{filter_map}
use Rattle.std.specs.Option.{option_map_or}
use Rattle.gm_metadata.specs.Images.{Image, Sizes, same_label}
use Rattle.gm_metadata.specs.declared.metadata.Metadata.{Metadata}
use Rattle.gm_lists.specs.Ordered.{Has}
use Rattle.gm_state.specs.declared.records.Mirror.{Mirror}
use Rattle.gm_state.specs.declared.records.Component.{Component}
use Rattle.gm_state.specs.Intents.{IsOf}
use Rattle.gm_state.specs.Lookups.{component_of, mirror_of}
use Rattle.gm_state.specs.Records.{Records}
use Rattle.gm_taste.specs.declared.provider.Provider.{Provider}
use Rattle.gm_taste.specs.declared.tasted.Member.{Member}
use Rattle.gm_taste.specs.declared.tasted.Tasted.{Tasted}
use Rattle.gm_taste.specs.Verdicts.{verdict}
use Rattle.gm_looks.specs.Shown.{IsShown, IsTastedOn}
use Rattle.gm_unlike.specs.declared.claims.Claim.{Claim}

-- the image is there, and its last sector is taken to say that
pub record Carries (size : Sizes) (seen : Image) (p : List ℕ) (x : Metadata) : Type 0 where
  pub image : Provider
  pub name_is : image.name ≡ p
  pub shown : IsShown size seen image
  pub says : verdict image ≡ Ok x

-- an image that carries the name and the number of a registered mirror is registered as its
-- component, unless its genid is less than the mirror's: then it was given up
abbrev pub AreRegistered : Records → Sizes → Image → Type 0
AreRegistered s size seen = (m : Mirror) (p : List ℕ) (x : Metadata) → Has s.mirrors m
    → Carries size seen p x → x.name ≡ m.name → x.mid ≡ m.mid → m.genid ≤ x.genid
    → (k : Component) × IsOf s m k × (k.provider ≡ p)

-- the mirror that metadata name by name and number
abbrev pub with_mid : ℕ → Mirror → Option Mirror
with_mid mid m = if m.mid == mid then Some m else None

abbrev pub named_mirror : Records → Metadata → Option Mirror
named_mirror s x = option_and_then (with_mid x.mid) (mirror_of s x.name)

-- the image is a component of the mirror of this name
abbrev pub is_component_of : Records → List ℕ → List ℕ → Bool
is_component_of s p mirror = option_map_or (λ k. same_label k.mirror mirror) (component_of s p) false

-- what a member claims of this mirror, if it is no component of it
abbrev pub claim_on : Records → Member → Mirror → Option Claim
claim_on s x m =
    if is_component_of s x.provider m.name then None
    else Some (record {
      provider = x.provider;
      mirror = m.name;
      is_given_up = nat_lt x.metadata.genid m.genid;
    })

abbrev pub claim_of : Records → Member → Option Claim
claim_of s x = option_and_then (claim_on s x) (named_mirror s x.metadata)

-- what all members claim that were tasted
abbrev pub claims_in : Records → Tasted → List Claim
claims_in s t = flat_map (λ g. filter_map (claim_of s) g.members.items) t.groups.items

-- what the images claim, as they are tasted
abbrev pub AreClaims : Records → Sizes → Image → List Claim → Type 0
AreClaims s size seen claims = (t : Tasted) × IsTastedOn size seen t × (claims ≡ claims_in s t)
