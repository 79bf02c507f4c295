-- What intents name and say.
use Rattle.std.specs.Prelude.{◌≡◌, ◌+◌, ◌-◌, ◌<◌, ◌≤◌, ℕ, Bool, true, false, not, ◌==◌, ◌&&◌, ◌||◌, nat_le, nat_lt, List, [], ◌∷◌, ◌++◌, Option, Some, None, IsSome, IsSomeAnd, slice_get}
use Rattle.std.specs.List.{list_any}
use Rattle.gm_metadata.specs.Images.{Image, Sizes, same_label, zeros}
use Rattle.gm_metadata.specs.Reading.{encoded}
use Rattle.gm_state.specs.declared.intents.Intent.{Intent}
use Rattle.gm_state.specs.declared.intents.Intent.TheVariants.{Meta, Clear, Copy, Dirty, Patch}
use Rattle.gm_state.specs.declared.records.Mirror.{Mirror}
use Rattle.gm_state.specs.declared.records.Component.{Component}
use Rattle.gm_lists.specs.Ordered.{Has}
use Rattle.gm_state.specs.Records.{Records, members}
use Rattle.gm_state.specs.Lookups.{metadata, dirty_metadata}

-- sector j is the last one of a provider of so many sectors
abbrev pub is_last : Option ℕ → ℕ → Bool
is_last None j = false
is_last (Some n) j = n == j + 1

-- the intent copies to sector j of provider q
abbrev pub copies : Intent → List ℕ → ℕ → Bool
copies (Meta p) q j = false
copies (Clear p) q j = false
copies (Copy source target first end) q j = same_label target q && (nat_le first j && nat_lt j end)
copies (Dirty p) q j = false
copies (Patch p first end) q j = false

-- the intent lays bytes over sector j of provider q
abbrev pub patches : Intent → List ℕ → ℕ → Bool
patches (Meta p) q j = false
patches (Clear p) q j = false
patches (Copy source target first end) q j = false
patches (Dirty p) q j = false
patches (Patch p first end) q j = same_label p q && (nat_le first j && nat_lt j end)

-- the intent brings data to the sector
abbrev pub fills : Intent → List ℕ → ℕ → Bool
fills t q j = copies t q j || patches t q j

-- the intent names sector j of provider q: the last one for Meta, Clear and Dirty, those from first
-- to end - 1 of the target for Copy, and of the provider for Patch
abbrev pub names : Sizes → Intent → List ℕ → ℕ → Bool
names size (Meta p) q j = same_label p q && is_last (size q) j
names size (Clear p) q j = same_label p q && is_last (size q) j
names size (Copy source target first end) q j = copies (Copy source target first end) q j
names size (Dirty p) q j = same_label p q && is_last (size q) j
names size (Patch p first end) q j = patches (Patch p first end) q j

-- the intent reads or writes provider q
abbrev pub touches : List ℕ → Intent → Bool
touches q (Meta p) = same_label p q
touches q (Clear p) = same_label p q
touches q (Copy source target first end) = same_label source q || same_label target q
touches q (Dirty p) = same_label p q
touches q (Patch p first end) = same_label p q

abbrev pub is_dirty : Intent → Bool
is_dirty (Dirty p) = true
is_dirty _ = false

abbrev pub is_dirty_of : List ℕ → Intent → Bool
is_dirty_of p (Dirty q) = same_label q p
is_dirty_of p _ = false

abbrev pub is_meta_of : List ℕ → Intent → Bool
is_meta_of p (Meta q) = same_label q p
is_meta_of p _ = false

-- the intent names the sector with what may claim data: a Dirty doesn't
abbrev pub claims : Sizes → Intent → List ℕ → ℕ → Bool
claims size t q j = not (is_dirty t) && names size t q j

-- some intent copies to the sector
abbrev pub any_copies : List Intent → List ℕ → ℕ → Bool
any_copies [] q j = false
any_copies (t ∷ ts) q j = copies t q j || any_copies ts q j

-- some intent brings data to the sector
abbrev pub any_fills : List Intent → List ℕ → ℕ → Bool
any_fills [] q j = false
any_fills (t ∷ ts) q j = fills t q j || any_fills ts q j

-- some intent names the sector
abbrev pub is_place : Sizes → List Intent → List ℕ → ℕ → Bool
is_place size [] q j = false
is_place size (t ∷ ts) q j = names size t q j || is_place size ts q j

-- the component of a mirror is registered
pub record IsOf (s : Records) (m : Mirror) (k : Component) : Type 0 where
  pub mirror : Has s.mirrors m
  pub component : Has (members s.components m.name) k

-- the sector says the metadata of the component on p
abbrev pub IsMeta : Records → List ℕ → List ℕ → Type 0
IsMeta s p x = (m : Mirror) × (k : Component) × IsOf s m k × (k.provider ≡ p)
    × (x ≡ encoded (metadata m k))

-- the sector says the same with DIRTY
abbrev pub IsDirt : Records → List ℕ → List ℕ → Type 0
IsDirt s p x = (m : Mirror) × (k : Component) × IsOf s m k × (k.provider ≡ p)
    × (x ≡ encoded (dirty_metadata m k))

-- what sector j holds by the intent when all is carried out, where the records are s, the pending
-- bytes are these sectors and the shelf holds w: the component's metadata, zeros, the source's
-- sector, or one of the bytes'; where a Dirty wrote, what the Meta after it says
abbrev pub Says : Records → List (List ℕ) → Image → Intent → ℕ → List ℕ → Type 0
Says s bytes w (Meta p) j x = IsMeta s p x
Says s bytes w (Clear p) j x = x ≡ zeros
Says s bytes w (Copy source target first end) j x = x ≡ w source j
Says s bytes w (Dirty p) j x = IsMeta s p x
Says s bytes w (Patch p first end) j x = slice_get bytes (j - first) ≡ Some x

-- in w each place holds what its intent says
abbrev pub AllSay : Records → List (List ℕ) → Sizes → List Intent → Image → Type 0
AllSay s bytes size ts w = (t : Intent) → Has ts t → (q : List ℕ) (j : ℕ)
    → names size t q j ≡ true → Says s bytes w t j (w q j)

-- the source of a copy is there, and none of the sectors that it lends is a place
abbrev pub Lends : Sizes → List Intent → Intent → Type 0
Lends size ts (Copy source target first end) =
    IsSome (size source) × ((j : ℕ) → first ≤ j → j < end → is_place size ts source j ≡ false)
Lends size ts _ = Unit {0}

-- on the providers that are there the images agree but for the places
abbrev pub Agrees : Sizes → List Intent → Image → Image → Type 0
Agrees size ts x w = (q : List ℕ) → IsSome (size q) → (j : ℕ) → is_place size ts q j ≡ false
    → x q j ≡ w q j

-- each component that an intent reads or writes is there, with its registered size
abbrev pub AreThere : Records → List Intent → Sizes → Type 0
AreThere s ts size = (m : Mirror) (k : Component) → IsOf s m k
    → list_any (touches k.provider) ts ≡ true → size k.provider ≡ Some k.sectors

-- each provider that the intent reads or writes is there, with the sectors that it names
abbrev pub IsAtHand : Sizes → Intent → Type 0
IsAtHand size (Meta p) = IsSomeAnd (size p) (λ n. 0 < n)
IsAtHand size (Clear p) = IsSomeAnd (size p) (λ n. 0 < n)
IsAtHand size (Copy source target first end) =
    IsSomeAnd (size source) (λ n. end ≤ n) × IsSomeAnd (size target) (λ n. end ≤ n)
IsAtHand size (Dirty p) = IsSomeAnd (size p) (λ n. 0 < n)
IsAtHand size (Patch p first end) = IsSomeAnd (size p) (λ n. end ≤ n)

-- a Meta comes after each Dirty of its provider, so that no dirt is left
abbrev pub LeaveNoDirt : List Intent → Type 0
LeaveNoDirt [] = Unit {0}
LeaveNoDirt (t ∷ ts) =
    ((q : List ℕ) → is_dirty_of q t ≡ true → list_any (is_meta_of q) ts ≡ true) × LeaveNoDirt ts

-- on the providers that are there w is the image that the intents lead to from x, where the records
-- are s and the pending bytes are these
pub record IsRedo (s : Records) (bytes : List (List ℕ)) (size : Sizes) (ts : List Intent)
    (x w : Image) : Type 0 where
  pub says : AllSay s bytes size ts w
  pub lends : (t : Intent) → Has ts t → Lends size ts t
  pub clean : LeaveNoDirt ts
  pub agrees : Agrees size ts x w

-- Data before claim, and dirt before data, where `earlier` are the intents before these: after a
-- write of a provider's last sector that may claim nothing brings data to that provider, no data
-- reach a last sector, and a Patch comes after a Dirty of its provider.
abbrev pub InOrderFrom : Sizes → List Intent → List Intent → Type 0
InOrderFrom size earlier [] = Unit {0}
InOrderFrom size earlier (t ∷ ts) =
    ((q : List ℕ) (j : ℕ) → is_last (size q) j ≡ true → claims size t q j ≡ true → (i : ℕ)
    → any_fills ts q i ≡ false)
    × ((q : List ℕ) (j : ℕ) → fills t q j ≡ true → is_last (size q) j ≡ false)
    × ((q : List ℕ) (j : ℕ) → patches t q j ≡ true → list_any (is_dirty_of q) earlier ≡ true)
    × InOrderFrom size (earlier ++ t ∷ []) ts

abbrev pub InOrder : Sizes → List Intent → Type 0
InOrder size ts = InOrderFrom size [] ts

-- the intents lead somewhere from x
abbrev pub LeadSomewhere : Records → List (List ℕ) → Sizes → List Intent → Image → Type 0
LeadSomewhere s bytes size ts x = (w : Image) × IsRedo s bytes size ts x w
