-- From which source components differ, and which of them hold equal data.
use Rattle.std.specs.Prelude.{◌≡◌, ◌↔◌, ◌⊎◌, ◌<◌, ◌≤◌, ℕ, Bool, true, false, List, unwrap_or}
use Rattle.std.specs.Option.{option_map_or}
use Rattle.gm_metadata.specs.Images.{Image, Sizes}
use Rattle.gm_lists.specs.Ordered.{Has}
use Rattle.gm_state.specs.declared.records.Mirror.{Mirror}
use Rattle.gm_state.specs.declared.records.Component.{Component}
use Rattle.gm_state.specs.Lookups.{component_of, mirror_of}
use Rattle.gm_state.specs.Records.{Records}
use Rattle.gm_state.specs.Sources.{source_of}
use Rattle.gm_apply.specs.EqualData.{count_of}
use Rattle.gm_looks.specs.Scrubs.{IsActiveOf, IsSourceOfMirror}
use Rattle.gm_looks.specs.declared.scrub.Flaw.{Flaw}
use Rattle.gm_looks.specs.declared.scrub.Flaw.TheVariants.{Uncompared, Differs}
use Rattle.gm_looks.specs.declared.scrub.Scrubbed.{Scrubbed}
use Rattle.gm_unlike.specs.declared.unequal.Unequal.{Unequal}

-- ---- what is told

-- what a scrub tells of it
abbrev pub scrubbed : Unequal → Scrubbed
scrubbed e = record { provider = e.provider; flaw = e.flaw }

-- data differ, and not only weren't compared
abbrev pub differs : Flaw → Bool
differs Uncompared = false
differs (Differs sectors first) = true

-- each data sector of the mirror is the same on both
abbrev pub HoldEqualData : Image → Mirror → Component → Component → Type 0
HoldEqualData seen m j k = (i : ℕ) → i < m.data_sectors → seen j.provider i ≡ seen k.provider i

-- the entry is that of an ACTIVE component of the mirror, whose data differ
pub record IsToldOf (s : Records) (list : List Unequal) (m : Mirror) (k : Component)
    (e : Unequal) : Type 0 where
  pub active : IsActiveOf s m k
  pub listed : Has list e
  pub provider : e.provider ≡ k.provider
  pub differs : differs e.flaw ≡ true

-- What is told of components whose data differ from their mirror's source.
pub record AreUnequal (s : Records) (seen : Image) (list : List Unequal) : Type 0 where
  -- the mirror's source is named
  pub source : (m : Mirror) (k a : Component) (e : Unequal) → IsToldOf s list m k e
      → IsSourceOfMirror s m a → e.source ≡ a.provider
  -- two of a mirror name one component just if they hold equal data
  pub equal : (m : Mirror) (j k : Component) (e f : Unequal) → IsToldOf s list m j e
      → IsToldOf s list m k f → (e.like ≡ f.like) ↔ HoldEqualData seen m j k
  -- that is one of them, of the same mirror, and names itself
  pub first : (e : Unequal) → Has list e → (f : Unequal) × Has list f
      × (f.provider ≡ e.like) × (f.like ≡ f.provider) × (f.mirror ≡ e.mirror)

-- ---- how it is found

-- a component as it is told of if no other holds equal data
abbrev pub by_itself : Records → Scrubbed → Unequal
by_itself s x = record {
  provider = x.provider;
  mirror = option_map_or (λ k. k.mirror) (component_of s x.provider) x.provider;
  flaw = x.flaw;
  source = unwrap_or (source_of s x.provider) x.provider;
  like = x.provider;
}

-- how many data sectors a mirror has
abbrev pub sectors_in : Records → List ℕ → ℕ
sectors_in s mirror = option_map_or (λ m. m.data_sectors) (mirror_of s mirror) 0

-- the first that holds its own data, the one differs in as many sectors as the other, of the same
-- mirror, with the same first
pub record MayBeLike (known new : Unequal) : Type 0 where
  pub first : known.like ≡ known.provider
  pub mirror : known.mirror ≡ new.mirror
  pub flaw : known.flaw ≡ new.flaw
  pub differs : differs known.flaw ≡ true

-- two images have so many sectors, and these are equal
pub record HoldSame (size : Sizes) (seen : Image) (n : ℕ) (p q : List ℕ) : Type 0 where
  pub one : n ≤ count_of size p
  pub other : n ≤ count_of size q
  pub same : (i : ℕ) → i < n → seen p i ≡ seen q i

-- p is the first of a list that may be like the new one and holds the same, or the new one itself
-- if there is none
abbrev pub IsFirstLike : (List ℕ → List ℕ → Type 0) → List Unequal → Unequal → List ℕ → Type 0
IsFirstLike Same list new p =
    ((l : Unequal) × Has list l × MayBeLike l new × Same l.provider new.provider
    × (p ≡ l.provider))
    ⊎ (((l : Unequal) → Has list l → MayBeLike l new → Same l.provider new.provider → ⊥)
    × (p ≡ new.provider))
