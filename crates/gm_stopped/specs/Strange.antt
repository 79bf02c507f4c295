-- The images that pending writes name and that no stop leaves so.
use Rattle.std.specs.Prelude.{◌≡◌, ◌⊎◌, ◌==◌, ◌&&◌, ◌+◌, ◌++◌, ℕ, Bool, true, false, not, List, [], ◌∷◌, Option, Some, None, fold, sum_by, if◌then◌else◌}
use Rattle.std.specs.List.{list_any}
use Rattle.gm_metadata.specs.Images.{Image, Sizes, same_label}
use Rattle.gm_lists.specs.Ordered.{Has}
use Rattle.gm_shelf.specs.LastSector.{last_sector}
use Rattle.gm_state.specs.declared.intents.Intent.{Intent}
use Rattle.gm_state.specs.declared.intents.Intent.TheVariants.{Meta, Clear, Copy, Dirty, Patch}
use Rattle.gm_state.specs.declared.records.Component.{Component}
use Rattle.gm_state.specs.Lookups.{component_of}
use Rattle.gm_state.specs.Records.{Records}
use Rattle.gm_stopped.specs.Leavings.{may_be_left}
use Rattle.gm_stopped.specs.declared.stopped.Role.TheVariants.{Written, Cleared, Source, Target}
use Rattle.gm_stopped.specs.declared.stopped.Stopped.{Stopped}
use Rattle.gm_stopped.specs.declared.strange.Need.{Need}

-- which image a write names first, and how it needs it
abbrev pub first_need : Intent → Need
first_need (Meta p) = record { image = p; role = Written }
first_need (Clear p) = record { image = p; role = Cleared }
first_need (Copy source target first end) = record { image = source; role = Source }
first_need (Dirty p) = record { image = p; role = Written }
first_need (Patch p first end) = record { image = p; role = Written }

-- a copy also names the image that it fills
abbrev pub second_need : Intent → Option Need
second_need (Copy source target first end) =
    Some (record { image = target; role = Target first })
second_need _ = None

-- the write needs an image so
abbrev pub Needs : Intent → Need → Type 0
Needs t need = (first_need t ≡ need) ⊎ (second_need t ≡ Some need)

-- so many sectors are those that are registered; of no component any are
abbrev pub has_right_size : Option Component → ℕ → Bool
has_right_size None n = true
has_right_size (Some k) n = k.sectors == n

-- the names with this one at their end, unless it is among them
abbrev pub with_name : List (List ℕ) → List ℕ → List (List ℕ)
with_name names p = if list_any (λ n. same_label n p) names then names else names ++ p ∷ []

-- whether an image of so many sectors with this last one can't be what a stop left
abbrev pub is_strange_as : Records → Stopped → Need → Option ℕ → Option (List ℕ) → Bool
is_strange_as s stopped need None last = false
is_strange_as s stopped need (Some n) None = false
is_strange_as s stopped need (Some n) (Some x) = has_right_size (component_of s need.image) n
    && not (may_be_left s stopped need.role
    (record { name = need.image; sectors = n; last = x }))

module _ (s : Records) (stopped : Stopped) (size : Sizes) (seen : Image) where
  -- The image is there in its size, and its last sector can't be what a stop left.
  pub record IsStrange (need : Need) : Type 0 where
    pub sectors : ℕ
    pub last : List ℕ
    pub there : size need.image ≡ Some sectors
    pub last_is : last_sector size seen need.image ≡ Some last
    pub right : has_right_size (component_of s need.image) sectors ≡ true
    pub strange : may_be_left s stopped need.role
        (record { name = need.image; sectors = sectors; last = last }) ≡ false

  -- the write needs an image by this name, and that is strange
  pub record IsStrangeTo (t : Intent) (p : List ℕ) : Type 0 where
    pub need : Need
    pub needs : Needs t need
    pub image : need.image ≡ p
    pub strange : IsStrange need

  -- each of the names is that of a strange image
  abbrev pub AreStrange : List Intent → List (List ℕ) → Type 0
  AreStrange ts names = (p : List ℕ) → Has names p → (t : Intent) × Has ts t × IsStrangeTo t p

  -- the strange images that a write needs are among them
  abbrev pub HasStrangeOf : Intent → List (List ℕ) → Type 0
  HasStrangeOf t names = (need : Need) → Needs t need → IsStrange need → Has names need.image

  -- so are those of all writes
  abbrev pub HasStrange : List Intent → List (List ℕ) → Type 0
  HasStrange ts names = (t : Intent) → Has ts t → HasStrangeOf t names

  -- ---- their list

  -- `IsStrange` as a test
  abbrev pub is_strange : Need → Bool
  is_strange need =
      is_strange_as s stopped need (size need.image) (last_sector size seen need.image)

  -- with the image at the end, if it is strange and isn't among them
  abbrev pub with_strange : List (List ℕ) → Need → List (List ℕ)
  with_strange names need = if is_strange need then with_name names need.image else names

  abbrev pub with_second : List (List ℕ) → Option Need → List (List ℕ)
  with_second names None = names
  with_second names (Some need) = with_strange names need

  -- with the strange images that a write needs
  abbrev pub with_strange_of : List (List ℕ) → Intent → List (List ℕ)
  with_strange_of names t = with_second (with_strange names (first_need t)) (second_need t)

  -- the strange images of all writes, each once, in the order in which they name them
  abbrev pub strange_names : List Intent → List (List ℕ)
  strange_names ts = fold with_strange_of [] ts

  -- ---- what is missing from names

  -- 1 if the image is strange and isn't among them
  abbrev pub missing : List (List ℕ) → Need → ℕ
  missing names need =
      if is_strange need && not (list_any (λ n. same_label n need.image) names) then 1 else 0

  abbrev pub missing_second : List (List ℕ) → Option Need → ℕ
  missing_second names None = 0
  missing_second names (Some need) = missing names need

  -- how many of the strange images that a write needs
  abbrev pub missing_of : List (List ℕ) → Intent → ℕ
  missing_of names t = missing names (first_need t) + missing_second names (second_need t)

  -- and all writes
  abbrev pub missing_in : List (List ℕ) → List Intent → ℕ
  missing_in names ts = sum_by (missing_of names) ts
