-- By how many sectors two providers differ.
use Rattle.gm_apply.proofs.Common.{◌≡◌, ◌≢◌, ◌∙◌, ◌<◌, ◌≤◌, ◌+◌, ◌-◌, ℕ, zero, suc, List, length, if◌then◌else◌, inl, inr, refl, sym, ap, subst, arith, add-suc, add-zero, add_assoc, bytes_eq, cases_lt, differ, same_from, Label, Image, Same, IsRun, sector_of, IsDifference, IsWithin, count_differing, sectors_from, Difference}

module _ (a b : ℕ → List ℕ) where
  -- of equal ones none differs
  pub count_equal : (n : ℕ) → ((k : ℕ) → k < n → a k ≡ b k) → count_differing a b n ≡ 0
  count_equal zero equal = refl
  count_equal (suc k) equal =
      let less = count_equal k (λ j few. equal j (omega (arith, few))) in
      rw (same_from (a k) (b k) (equal k (omega arith)), less) refl

  -- if one differs, they are some
  pub count_some : (n k : ℕ) → k < n → a k ≢ b k → 0 < count_differing a b n
  count_some zero k few e = omega (arith, few)
  count_some (suc n) k few e =
      elim (cases_lt k n) [
        | inl below ↦ let some = count_some n k below e in omega (arith, some)
        | inr from ↦
            let same : k ≡ n = omega (arith, few, from) in
            let here : a n ≢ b n = subst (λ (j : ℕ). a j ≢ b j) same e in
            rw (differ (a n) (b n) here) (omega arith)
      ]

  -- those after the first n are counted by themselves
  count_behind : (n m : ℕ) → count_differing a b (n + m)
      ≡ count_differing a b n + count_differing (λ k. a (n + k)) (λ k. b (n + k)) m
  count_behind n zero = rw add-zero (sym (add-zero (count_differing a b n)))
  count_behind n (suc m) =
      let one = if bytes_eq (a (n + m)) (b (n + m)) then 0 else 1 in
      rw add-suc
      (ap (λ c. c + one) (count_behind n m)
      ∙ add_assoc (count_differing a b n)
      (count_differing (λ k. a (n + k)) (λ k. b (n + k)) m) one)

  -- how the first n differ, and the m after them
  module _ (n m : ℕ) (d e f : Difference) (front : IsDifference a b n d) (few : IsWithin n d)
      (run : IsDifference (λ k. a (n + k)) (λ k. b (n + k)) m e)
      (sectors : f.sectors ≡ d.sectors + e.sectors) (before : d.first < n → f.first ≡ d.first)
      (behind : n ≤ d.first → f.first ≡ n + e.first) where
    equal_below : (k : ℕ) → k < f.first → a k ≡ b k
    equal_below k low =
        elim (cases_lt d.first n) [
          | inl some ↦ front.equal k (let is = before some in omega (arith, is, low))
          | inr none ↦ elim (cases_lt k n) [
            | inl below ↦ front.equal k (omega (arith, below, none))
            | inr from ↦
                let is = behind none in
                let sum : n + (k - n) ≡ k = omega (arith, from) in
                subst (λ (j : ℕ). a j ≡ b j) sum (run.equal (k - n) (omega (arith, is, low, from)))
          ]
        ]

    differs_there : f.first < n + m → a f.first ≢ b f.first
    differs_there low =
        elim (cases_lt d.first n) [
          | inl some ↦
              subst (λ (j : ℕ). a j ≢ b j) (sym (before some)) (front.first some)
          | inr none ↦
              let is = behind none in
              subst (λ (j : ℕ). a j ≢ b j) (sym is) (run.first (omega (arith, is, low)))
        ]

    pub difference_then : IsDifference a b (n + m) f
    difference_then = record {
      sectors = sectors ∙ ap (λ c. c + e.sectors) front.sectors
          ∙ ap (λ c. count_differing a b n + c) run.sectors ∙ sym (count_behind n m);
      equal = equal_below;
      first = differs_there;
    }

-- what holds the same differs as much
module _ (a b a' b' : ℕ → List ℕ) where
  count_same : (n : ℕ) → ((k : ℕ) → k < n → a k ≡ a' k) → ((k : ℕ) → k < n → b k ≡ b' k)
      → count_differing a b n ≡ count_differing a' b' n
  count_same zero e f = refl
  count_same (suc n) e f =
      let less = count_same n (λ k low. e k (omega (arith, low)))
      (λ k low. f k (omega (arith, low))) in
      rw (e n (omega arith), f n (omega arith), less) refl

  pub difference_same : (n : ℕ) (d : Difference) → ((k : ℕ) → k < n → a k ≡ a' k)
      → ((k : ℕ) → k < n → b k ≡ b' k) → d.first ≤ n → IsDifference a b n d
      → IsDifference a' b' n d
  difference_same n d e f within is = record {
    sectors = is.sectors ∙ count_same n e f;
    equal = λ k low. (let few : k < n = omega (arith, low, within) in
        sym (e k few) ∙ is.equal k low ∙ f k few);
    first = λ low same. is.first low (e d.first low ∙ same ∙ sym (f d.first low));
  }

-- an image that holds the same
pub difference_seen : (x y : Image) (p q : Label) (from n : ℕ) (d : Difference) → Same y x
    → IsWithin n d → IsDifference (sectors_from y p from) (sectors_from y q from) n d
    → IsDifference (sectors_from x p from) (sectors_from x q from) n d
difference_seen x y p q from n d same within is =
    difference_same (sectors_from y p from) (sectors_from y q from) (sectors_from x p from)
    (sectors_from x q from) n d (λ k low. same p (from + k)) (λ k low. same q (from + k))
    within.first is

-- of two runs that were read
pub difference_read : (x : Image) (p q : Label) (from n : ℕ) (a b : List (List ℕ))
    (d : Difference) → length a ≡ n → length b ≡ n → IsRun p from x a → IsRun q from x b
    → IsWithin n d → IsDifference (sector_of a) (sector_of b) n d
    → IsDifference (sectors_from x p from) (sectors_from x q from) n d
difference_read x p q from n a b d along blong aread bread within is =
    difference_same (sector_of a) (sector_of b) (sectors_from x p from) (sectors_from x q from) n d
    (λ k low. aread k (omega (arith, low, along)))
    (λ k low. bread k (omega (arith, low, blong))) within.first is

-- the first one stays within both
pub within_then : (n m d e f : ℕ) → d ≤ n → e ≤ m → (d < n → f ≡ d) → (n ≤ d → f ≡ n + e)
    → f ≤ n + m
within_then n m d e f low few before behind =
    elim (cases_lt d n) [
      | inl some ↦ let is = before some in omega (arith, is, low)
      | inr none ↦ let is = behind none in omega (arith, is, few)
    ]
