-- How images stand to what is registered and pending: when each standing comes.
use Rattle.std.specs.Prelude.{◌≡◌, ◌≢◌, ◌⊎◌, ◌-◌, ◌==◌, ◌&&◌, ◌||◌, not, nat_lt, ℕ, Bool, List, Some, None, Result, Ok, Err, if◌then◌else◌}
use Rattle.std.specs.List.{list_any}
use Rattle.gm_metadata.specs.Images.{Image, Sizes, same_label, zeros}
use Rattle.gm_metadata.specs.Reading.{decode_of, encoded}
use Rattle.gm_metadata.specs.declared.fault.DecodeFault.{DecodeFault}
use Rattle.gm_metadata.specs.declared.fault.DecodeFault.TheVariants.{Magic}
use Rattle.gm_metadata.specs.declared.metadata.Metadata.{Metadata}
use Rattle.gm_shelf.specs.LastSector.{last_sector}
use Rattle.gm_lists.specs.Ordered.{Has}
use Rattle.gm_state.specs.declared.records.Mirror.{Mirror}
use Rattle.gm_state.specs.declared.records.Component.{Component}
use Rattle.gm_state.specs.Intents.{IsOf}
use Rattle.gm_state.specs.Lookups.{metadata}
use Rattle.gm_state.specs.Records.{Records}
use Rattle.gm_looks.specs.Audits.{IsAsRegistered}
use Rattle.gm_looks.specs.Words.{without_zero}
use Rattle.gm_looks.specs.declared.standing.Standing.{Standing}
use Rattle.gm_looks.specs.declared.standing.Standing.TheVariants.{AsRegistered, Absent, AnotherSize, Zero, NoMetadata, Damaged, AnotherMirror, AnotherComponent, Older, Newer, Member}

-- ---- what metadata say beside those that are registered

-- their genid or their syncid is greater
abbrev pub is_newer : Metadata → Metadata → Bool
is_newer registered found =
    nat_lt registered.genid found.genid || nat_lt registered.syncid found.syncid

-- their genid or their syncid is less
abbrev pub is_older : Metadata → Metadata → Bool
is_older registered found =
    nat_lt found.genid registered.genid || nat_lt found.syncid registered.syncid

-- they say the same mirror
abbrev pub is_of_mirror : Metadata → Metadata → Bool
is_of_mirror registered found =
    same_label found.name registered.name && (found.mid == registered.mid)

-- what they say: the first of these that applies
abbrev pub says : Metadata → Metadata → Standing
says registered found =
    if not (is_of_mirror registered found) then AnotherMirror
    else if not (found.did == registered.did) then AnotherComponent
    else if is_newer registered found then Newer
    else if is_older registered found then Older
    else Member

-- a sector that isn't readable as metadata begins as such, or doesn't
abbrev pub unreadable : DecodeFault → Standing
unreadable Magic = NoMetadata
unreadable fault = Damaged

-- what a sector says, by what decoding it gives
abbrev pub said_by : (Metadata → Standing) → Result Metadata DecodeFault → Standing
said_by by (Ok found) = by found
said_by by (Err fault) = unreadable fault

abbrev pub said : Metadata → List ℕ → Standing
said registered x = said_by (says registered) (decode_of x)

-- they say the name of one of the mirrors, and another mid
abbrev pub belies : List Mirror → Metadata → Bool
belies ms found = list_any (λ m. same_label found.name m.name && not (found.mid == m.mid)) ms

abbrev pub said_of_mirrors : List Mirror → List ℕ → Standing
said_of_mirrors ms x =
    said_by (λ found. if belies ms found then AnotherMirror else Member) (decode_of x)

-- ---- how an image stands

-- the image of a component is there in another size than is registered
pub record HasAnotherSize (size : Sizes) (k : Component) : Type 0 where
  pub sectors : ℕ
  pub size_is : size k.provider ≡ Some sectors
  pub other : sectors ≢ k.sectors

-- how it stands by its size alone, if that isn't the registered one
abbrev pub IsBySize : Sizes → Component → Standing → Type 0
IsBySize size k standing =
    (((size k.provider ≡ None) ⊎ (size k.provider ≡ Some 0)) × (standing ≡ Absent))
    ⊎ (HasAnotherSize size k × (standing ≡ AnotherSize))

-- it is there in its registered size, and its last sector is this one, which isn't the component's
-- metadata
pub record ShowsOther (size : Sizes) (seen : Image) (m : Mirror) (k : Component)
    (x : List ℕ) : Type 0 where
  pub size_is : size k.provider ≡ Some k.sectors
  pub last_is : seen k.provider (k.sectors - 1) ≡ x
  pub other : x ≢ encoded (metadata m k)

-- how the image of a component of the mirror stands
abbrev pub IsOfComponent : Sizes → Image → Mirror → Component → Standing → Type 0
IsOfComponent size seen m k standing =
    (IsAsRegistered size seen m k × (standing ≡ AsRegistered))
    ⊎ ((last_sector size seen k.provider ≡ None) × (standing ≡ Absent))
    ⊎ (HasAnotherSize size k × (standing ≡ AnotherSize))
    ⊎ ((x : List ℕ) × ShowsOther size seen m k x × (standing ≡ said (metadata m k) x))

-- how an image stands that is to be cleared
abbrev pub IsOfCleared : Records → Sizes → Image → List ℕ → Standing → Type 0
IsOfCleared s size seen p standing =
    ((last_sector size seen p ≡ None) × (standing ≡ Absent))
    ⊎ ((last_sector size seen p ≡ Some zeros) × (standing ≡ Zero))
    ⊎ ((x : List ℕ) × (last_sector size seen p ≡ Some x) × (x ≢ zeros)
    × (standing ≡ said_of_mirrors s.mirrors x))

-- as one that is to be cleared, but zeros are no metadata
abbrev pub IsOfStranger : Records → Sizes → Image → List ℕ → Standing → Type 0
IsOfStranger s size seen p standing = (found : Standing)
    × IsOfCleared s size seen p found × (standing ≡ without_zero found)

-- how an image stands that is copied from or to, or takes metadata, dirt or bytes: as a component
-- if it is one
pub record IsOfNamed (s : Records) (size : Sizes) (seen : Image) (p : List ℕ)
    (standing : Standing) : Type 0 where
  pub component : (m : Mirror) (k : Component) → IsOf s m k → k.provider ≡ p
      → IsOfComponent size seen m k standing
  pub stranger : ((k : Component) → Has s.components k → k.provider ≡ p → ⊥)
      → IsOfStranger s size seen p standing
