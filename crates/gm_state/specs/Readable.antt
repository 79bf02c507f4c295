-- Which intents may be pending if the records are those of a state.
use Rattle.std.specs.Prelude.{◌≡◌, ◌≢◌, ◌≤◌, ◌<◌, ◌⊎◌, ◌+◌, ℕ, Bool, true, false, IsTrue, List, [], ◌∷◌, ◌++◌, length, filter, None, IsSomeAnd}
use Rattle.std.specs.List.{list_any}
use Rattle.gm_metadata.specs.Images.{same_label}
use Rattle.gm_metadata.specs.Labels.{is_label}
use Rattle.gm_state.specs.declared.intents.Intent.{Intent}
use Rattle.gm_state.specs.declared.intents.Intent.TheVariants.{Meta, Clear, Copy, Dirty, Patch}
use Rattle.gm_state.specs.declared.records.Mirror.{Mirror}
use Rattle.gm_state.specs.declared.records.Component.{Component}
use Rattle.gm_state.specs.declared.records.Disk.TheVariants.{InSync}
use Rattle.gm_lists.specs.Ordered.{Has}
use Rattle.gm_state.specs.Records.{Records}
use Rattle.gm_state.specs.Lookups.{component_of}
pub use Rattle.gm_commands.specs.Sectors.{AreSectors}
use Rattle.gm_state.specs.Intents.{IsOf, is_meta_of, is_dirty_of}

abbrev pub is_copy : Intent → Bool
is_copy (Copy source target first end) = true
is_copy _ = false

abbrev pub is_patch : Intent → Bool
is_patch (Patch p first end) = true
is_patch _ = false

-- a Copy or a Patch that brings data to p
abbrev pub is_fill_of : List ℕ → Intent → Bool
is_fill_of p (Copy source target first end) = same_label target p
is_fill_of p (Patch q first end) = same_label q p
is_fill_of p _ = false

-- the data of a component are copied from another ACTIVE one of its mirror, within the mirror's
-- data
pub record IsCopyWithin (s : Records) (source target : List ℕ) (first end : ℕ) : Type 0 where
  pub mirror : Mirror
  pub to : Component
  pub from : Component
  pub to_is : IsOf s mirror to
  pub from_is : IsOf s mirror from
  pub target_is : to.provider ≡ target
  pub source_is : from.provider ≡ source
  pub other : source ≢ target
  pub active : from.disk ≡ InSync
  pub ordered : first ≤ end
  pub within : end ≤ mirror.data_sectors

-- bytes are laid over data of an ACTIVE component, within its mirror's
pub record IsPatchWithin (s : Records) (p : List ℕ) (first end : ℕ) : Type 0 where
  pub mirror : Mirror
  pub on : Component
  pub on_is : IsOf s mirror on
  pub provider_is : on.provider ≡ p
  pub active : on.disk ≡ InSync
  pub ordered : first < end
  pub within : end ≤ mirror.data_sectors

-- Meta of a component, Clear of a provider that is none, a copy within the data of one, Dirty of an
-- ACTIVE one, or a patch within the data of such a one
abbrev pub IsReadable : Records → Intent → Type 0
IsReadable s (Meta p) = component_of s p ≢ None
IsReadable s (Clear p) = IsTrue (is_label p) × (component_of s p ≡ None)
IsReadable s (Copy source target first end) = IsCopyWithin s source target first end
IsReadable s (Dirty p) = IsSomeAnd (component_of s p) (λ k. k.disk ≡ InSync)
IsReadable s (Patch p first end) = IsPatchWithin s p first end

-- between the earlier intents and the later ones: after a Meta nothing brings data to its
-- provider, a Copy, a Dirty and a Patch come before some Meta of theirs, and a Patch after some
-- Dirty of its provider
abbrev pub StandsBetween : List Intent → Intent → List Intent → Type 0
StandsBetween earlier (Meta p) later = list_any (is_fill_of p) later ≡ false
StandsBetween earlier (Clear p) later = Unit {0}
StandsBetween earlier (Copy source target first end) later =
    list_any (is_meta_of target) later ≡ true
StandsBetween earlier (Dirty p) later = list_any (is_meta_of p) later ≡ true
StandsBetween earlier (Patch p first end) later =
    (list_any (is_dirty_of p) earlier ≡ true) × (list_any (is_meta_of p) later ≡ true)

-- so stands each of these, where `earlier` are the intents before them
abbrev pub AreOrderedFrom : List Intent → List Intent → Type 0
AreOrderedFrom earlier [] = Unit {0}
AreOrderedFrom earlier (t ∷ ts) = StandsBetween earlier t ts × AreOrderedFrom (earlier ++ t ∷ []) ts

abbrev pub AreOrdered : List Intent → Type 0
AreOrdered ts = AreOrderedFrom [] ts

-- a Patch goes over so many sectors from this one on
abbrev pub IsOfRange : ℕ → ℕ → Intent → Type 0
IsOfRange start count (Patch p first end) = (first ≡ start) × (end ≡ start + count)
IsOfRange start count _ = Unit {0}

-- All Patches have one range, of as many sectors as are pending, and stand beside no Copy; if
-- there is none, nothing is pending to be laid.
pub record AreOfOnePatch (bytes : List (List ℕ)) (ts : List Intent) : Type 0 where
  pub start : ℕ
  pub ranges : (t : Intent) → Has ts t → IsOfRange start (length bytes) t
  pub apart : (list_any is_patch ts ≡ false) ⊎ (list_any is_copy ts ≡ false)
  pub needed : list_any is_patch ts ≡ false → bytes ≡ []

-- The intents and the bytes that are pending, cut into sectors, are readable for the state.
pub record AreReadable (s : Records) (bytes : List (List ℕ)) (ts : List Intent) : Type 0 where
  pub sectors : AreSectors bytes
  pub each : (t : Intent) → Has ts t → IsReadable s t
  pub one_copy : length (filter is_copy ts) ≤ 1
  pub one_patch : AreOfOnePatch bytes ts
  pub ordered : AreOrdered ts
