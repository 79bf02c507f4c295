-- How many strange images are missing from names that grow.
use Rattle.gm_stopped.proofs.Common.{◌≡◌, ◌∙◌, ℕ, ◌+◌, ◌<◌, ◌≤◌, Bool, true, false, List, Option, Some, None, if◌then◌else◌, length, take, get_or, arith, sym, ap, subst, refl, Image, Sizes, Same, Has, same_from, same_is, some_any, same_label}
use Rattle.std.specs.Prelude.{◌&&◌, ◌↔◌, not, IsTrue}
use Rattle.std.specs.List.{list_any}
use Rattle.std.proofs.lemmas.List.Sums.{sum_by-le-sum_by, sum_by_more}
use Rattle.gm_lists.proofs.Finding.{any_from}
use Rattle.gm_state.specs.declared.intents.Intent.{Intent}
use Rattle.gm_state.specs.Records.{Records}
use Rattle.gm_stopped.proofs.StrangeTest.{is_test, same_test}
use Rattle.gm_stopped.specs.Strange.{IsStrange, first_need, is_strange, missing, missing_in, missing_of, missing_second, second_need}
use Rattle.gm_stopped.specs.declared.stopped.Stopped.{Stopped}
use Rattle.gm_stopped.specs.declared.strange.Need.{Need}

-- of two such numbers
abbrev count : Bool → Bool → ℕ
count a b = if a && not b then 1 else 0

count_le : (a b : Bool) → count a b ≤ 1
count_le true true = omega arith
count_le true false = omega arith
count_le false b = omega arith

count_fewer : (a b more : Bool) → (b ≡ true → more ≡ true) → count a more ≤ count a b
count_fewer a true more h = let e : more ≡ true = h refl in rw e (omega arith)
count_fewer true false true h = omega arith
count_fewer true false false h = omega arith
count_fewer false false more h = omega arith

count_had : (a b : Bool) → b ≡ true → count a b ≡ 0
count_had true true e = refl
count_had true false e = cc
count_had false b e = refl

-- a name that is among others
abbrev among : List (List ℕ) → List ℕ → Bool
among names p = list_any (λ n. same_label n p) names

has_among : (names : List (List ℕ)) (p : List ℕ) → Has names p → among names p ≡ true
has_among names p h = any_from (λ n. same_label n p) names p h (same_from p p refl)

among_has : (names : List (List ℕ)) (p : List ℕ) → among names p ≡ true → Has names p
among_has names p e =
    let found = some_any (λ n. same_label n p) names e in
    subst (λ (n : List ℕ). Has names n) (same_is found.0 p found.2) found.1

abbrev pub Grow : List (List ℕ) → List (List ℕ) → Type 0
Grow names more = (p : List ℕ) → Has names p → Has more p

module _ (s : Records) (stopped : Stopped) (size : Sizes) (seen : Image) where
  -- ---- one image

  pub missing_le : (names : List (List ℕ)) (need : Need)
      → missing s stopped size seen names need ≤ 1
  missing_le names need =
      count_le (is_strange s stopped size seen need) (among names need.image)

  pub listed_not_missing : (names : List (List ℕ)) (need : Need) → Has names need.image
      → missing s stopped size seen names need ≡ 0
  listed_not_missing names need h = count_had (is_strange s stopped size seen need)
      (among names need.image) (has_among names need.image h)

  pub other_not_missing : (names : List (List ℕ)) (need : Need) (b : Bool) → b ≡ false
      → IsTrue b ↔ IsStrange s stopped size seen need
      → missing s stopped size seen names need ≡ 0
  other_not_missing names need b none same =
      ap (λ (a : Bool). count a (among names need.image))
      (sym (sym none ∙ is_test s stopped size seen need b same))

  fewer : (names more : List (List ℕ)) → Grow names more → (need : Need)
      → missing s stopped size seen more need ≤ missing s stopped size seen names need
  fewer names more grow need =
      count_fewer (is_strange s stopped size seen need) (among names need.image)
      (among more need.image)
      (λ e. has_among more need.image (grow need.image (among_has names need.image e)))

  -- ---- those of a write

  fewer_second : (names more : List (List ℕ)) → Grow names more → (o : Option Need)
      → missing_second s stopped size seen more o ≤ missing_second s stopped size seen names o
  fewer_second names more grow None = omega arith
  fewer_second names more grow (Some need) = fewer names more grow need

  fewer_of : (names more : List (List ℕ)) → Grow names more → (t : Intent)
      → missing_of s stopped size seen more t ≤ missing_of s stopped size seen names t
  fewer_of names more grow t = omega (
    arith,
    fewer names more grow (first_need t),
    fewer_second names more grow (second_need t),
  )

  -- ---- those of writes

  pub one_more : (ts : List Intent) (i : ℕ) (t : Intent) (names more : List (List ℕ))
      (before mid after : ℕ) → i < length ts → t ≡ get_or ts i t → Grow names more
      → missing_in s stopped size seen names (take i ts) + before ≤ mid
      → missing_of s stopped size seen more t + mid ≤ after
      → missing_in s stopped size seen more (take (i + 1) ts) + before ≤ after
  one_more ts i t names more before mid after low is grow so_far this =
      omega (
        arith,
        so_far,
        this,
        sum_by_more (missing_of s stopped size seen more) ts i t low,
        ap (missing_of s stopped size seen more) is,
        sum_by-le-sum_by (missing_of s stopped size seen more)
            (missing_of s stopped size seen names) (take i ts) (fewer_of names more grow),
      )

  -- those of a write after both of its images, of which a later look says the same
  pub both_of : (size' : Sizes) (seen' : Image) → size' ≡ size → Same seen' seen
      → (t : Intent) (need : Need) → second_need t ≡ Some need → (names more : List (List ℕ))
      → (before mid after : ℕ) → Grow names more
      → missing s stopped size seen names (first_need t) + before ≤ mid
      → missing s stopped size' seen' more need + mid ≤ after
      → missing_of s stopped size seen more t + before ≤ after
  both_of size' seen' e same t need is names more before mid after grow one two =
      let second : missing_second s stopped size seen more (second_need t)
      ≡ missing s stopped size' seen' more need =
      ap (missing_second s stopped size seen more) is
      ∙ ap (λ (a : Bool). count a (among more need.image))
      (sym (same_test s stopped size seen need size' seen' e same)) in
      omega (arith, one, two, second, fewer names more grow (first_need t))

  same_second : (size' : Sizes) (seen' : Image) → size' ≡ size → Same seen' seen
      → (names : List (List ℕ)) (o : Option Need)
      → missing_second s stopped size' seen' names o ≡ missing_second s stopped size seen names o
  same_second size' seen' e same names None = refl
  same_second size' seen' e same names (Some need) =
      ap (λ (a : Bool). count a (among names need.image))
      (same_test s stopped size seen need size' seen' e same)

  -- a later look says the same of a write
  pub seen_before : (size' : Sizes) (seen' : Image) → size' ≡ size → Same seen' seen
      → (names : List (List ℕ)) (t : Intent) (before after : ℕ)
      → missing_of s stopped size' seen' names t + before ≤ after
      → missing_of s stopped size seen names t + before ≤ after
  seen_before size' seen' e same names t before after this =
      omega (
        arith,
        this,
        same_second size' seen' e same names (second_need t),
        same_second size' seen' e same names (Some (first_need t)),
      )
