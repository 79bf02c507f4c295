-- What is strange as a test, and as a fact.
use Rattle.gm_stopped.proofs.Common.{◌≡◌, ◌∙◌, ℕ, ◌+◌, ◌<◌, Bool, true, false, List, [], Option, Some, None, length, take, get_or, if◌then◌else◌, sym, ap, refl, Image, Sizes, Same, last_sector}
use Rattle.std.specs.Prelude.{◌&&◌, ◌↔◌, not, IsTrue}
use Rattle.std.proofs.lemmas.List.Sums.{fold_more}
use Rattle.gm_state.specs.declared.intents.Intent.{Intent}
use Rattle.gm_state.specs.Lookups.{component_of}
use Rattle.gm_state.specs.Records.{Records}
use Rattle.gm_stopped.proofs.Listing.{same_last}
use Rattle.gm_stopped.proofs.Truth.{told_by}
use Rattle.gm_stopped.specs.Leavings.{may_be_left}
use Rattle.gm_stopped.specs.Strange.{IsStrange, has_right_size, is_strange, is_strange_as, second_need, first_need, strange_names, with_name, with_second, with_strange, with_strange_of}
use Rattle.gm_stopped.specs.declared.stopped.Stopped.{Stopped}
use Rattle.gm_stopped.specs.declared.strange.Need.{Need}

both : (a b : Bool) → a ≡ true → b ≡ false → (a && not b) ≡ true
both true false h k = refl
both true true h k = cc
both false b h k = cc

each : (a b : Bool) → (a && not b) ≡ true → (a ≡ true) × (b ≡ false)
each true false h = (refl, refl)
each true true h = cc
each false b h = cc

module _ (s : Records) (stopped : Stopped) (size : Sizes) (seen : Image) (need : Need) where
  tested : IsStrange s stopped size seen need → is_strange s stopped size seen need ≡ true
  tested is =
      ap (λ (o : Option ℕ). is_strange_as s stopped need o (last_sector size seen need.image))
      is.there
      ∙ (ap (λ (o : Option (List ℕ)). is_strange_as s stopped need (Some is.sectors) o) is.last_is
      ∙ both (has_right_size (component_of s need.image) is.sectors) (may_be_left s stopped
      need.role (record { name = need.image; sectors = is.sectors; last = is.last }))
      is.right is.strange)

  of_parts : (n : Option ℕ) (x : Option (List ℕ)) → size need.image ≡ n
      → last_sector size seen need.image ≡ x → is_strange_as s stopped need n x ≡ true
      → IsStrange s stopped size seen need
  of_parts None x en ex t = cc
  of_parts (Some n) None en ex t = cc
  of_parts (Some n) (Some x) en ex t =
      let parts = each (has_right_size (component_of s need.image) n) (may_be_left s stopped
      need.role (record { name = need.image; sectors = n; last = x })) t in
      record {
        sectors = n;
        last = x;
        there = en;
        last_is = ex;
        right = parts.0;
        strange = parts.1;
      }

  -- the test tells the fact
  pub is_test : (b : Bool) → IsTrue b ↔ IsStrange s stopped size seen need
      → b ≡ is_strange s stopped size seen need
  is_test b same = told_by b (is_strange s stopped size seen need) (λ t. tested (same.0 t))
      (λ t. same.1 (of_parts (size need.image) (last_sector size seen need.image) refl refl t))

  -- without it the names stay
  pub without_it : (names : List (List ℕ)) (b : Bool) → b ≡ false
      → IsTrue b ↔ IsStrange s stopped size seen need
      → names ≡ with_strange s stopped size seen names need
  without_it names b none same =
      ap (λ (b : Bool). if b then with_name names need.image else names)
      (sym none ∙ is_test b same)

  -- a later look tests the same
  pub same_test : (size' : Sizes) (seen' : Image) → size' ≡ size → Same seen' seen
      → is_strange s stopped size' seen' need ≡ is_strange s stopped size seen need
  same_test size' seen' e same =
      ap (λ (o : Sizes). is_strange_as s stopped need (o need.image)
      (last_sector size' seen' need.image)) e
      ∙ ap (λ (o : Option (List ℕ)). is_strange_as s stopped need (size need.image) o)
      (same_last size size' seen' seen e same need.image)

  pub same_with : (size' : Sizes) (seen' : Image) → size' ≡ size → Same seen' seen
      → (names : List (List ℕ)) → with_strange s stopped size' seen' names need
      ≡ with_strange s stopped size seen names need
  same_with size' seen' e same names =
      ap (λ (b : Bool). if b then with_name names need.image else names)
      (same_test size' seen' e same)

module _ (s : Records) (stopped : Stopped) (size : Sizes) (seen : Image) where
  same_second : (size' : Sizes) (seen' : Image) → size' ≡ size → Same seen' seen
      → (names : List (List ℕ)) (o : Option Need) → with_second s stopped size' seen' names o
      ≡ with_second s stopped size seen names o
  same_second size' seen' e same names None = refl
  same_second size' seen' e same names (Some need) =
      same_with s stopped size seen need size' seen' e same names

  same_with_of : (size' : Sizes) (seen' : Image) → size' ≡ size → Same seen' seen
      → (names : List (List ℕ)) (t : Intent) → with_strange_of s stopped size' seen' names t
      ≡ with_strange_of s stopped size seen names t
  same_with_of size' seen' e same names t =
      ap (λ (ns : List (List ℕ)). with_second s stopped size' seen' ns (second_need t))
      (same_with s stopped size seen (first_need t) size' seen' e same names)
      ∙ same_second size' seen' e same (with_strange s stopped size seen names (first_need t))
      (second_need t)

  -- a later look lists the same of a write
  pub listed_before : (size' : Sizes) (seen' : Image) → size' ≡ size → Same seen' seen
      → (names more : List (List ℕ)) (t : Intent)
      → more ≡ with_strange_of s stopped size' seen' names t
      → more ≡ with_strange_of s stopped size seen names t
  listed_before size' seen' e same names more t new =
      new ∙ same_with_of size' seen' e same names t

  -- the list with one write more
  pub listed_more : (ts : List Intent) (i : ℕ) (t : Intent) (names more : List (List ℕ))
      → i < length ts → t ≡ get_or ts i t
      → names ≡ strange_names s stopped size seen (take i ts)
      → more ≡ with_strange_of s stopped size seen names t
      → more ≡ strange_names s stopped size seen (take (i + 1) ts)
  listed_more ts i t names more low is before new =
      new ∙ (ap (λ (ns : List (List ℕ)). with_strange_of s stopped size seen ns t) before
      ∙ (ap (λ (x : Intent). with_strange_of s stopped size seen
      (strange_names s stopped size seen (take i ts)) x) is
      ∙ sym (fold_more (with_strange_of s stopped size seen) [] ts i t low)))
