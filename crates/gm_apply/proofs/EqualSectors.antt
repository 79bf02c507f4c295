-- First sectors of two providers that are equal.
use Rattle.gm_apply.proofs.Common.{◌≡◌, ◌≢◌, ◌∙◌, ◌<◌, ◌≤◌, ◌+◌, ◌-◌, ℕ, true, nat_le, inl, inr, refl, sym, ap, subst, arith, leb-true, bytes_eq, cases_lt, Decides-below_and, same_from_decides, leb_tells, bytes_eq-Decides, Label, Image, Same, agree, CountsEqual, IsEqualPart}
use Rattle.std.specs.Bool.{Decides}
use Rattle.std.proofs.Math.Bool.{and_comm}

-- each of the first n sectors of two providers is equal
abbrev pub AreEqualBelow : Image → Label → Label → ℕ → Type 0
AreEqualBelow x p q n = (k : ℕ) → k < n → x p k ≡ x q k

module _ (x : Image) (p q : Label) where
  -- the test tells whether they are
  agree_tells : (n : ℕ) → Decides (agree x p q n) (AreEqualBelow x p q n)
  agree_tells n =
      Decides-below_and (λ k. bytes_eq (x p k) (x q k)) (λ k. x p k ≡ x q k) (λ k. agree x p q k)
      (λ k. bytes_eq-Decides (x p k) (x q k))
      refl (λ k. and_comm (agree x p q k) (bytes_eq (x p k) (x q k))) n

  -- if the first n are equal and the next one differs, n is their count
  pub counted : (reach n : ℕ) → AreEqualBelow x p q n → (n < reach → x p n ≢ x q n)
      → CountsEqual x p q reach n
  counted reach n equal differs k within =
      same_from_decides (nat_le k n) (agree x p q k) (up, down) (agree_tells k)
    where
      up : nat_le k n ≡ true → AreEqualBelow x p q k
      up e j few = let low : k ≤ n = leb-true k n e in equal j (omega (arith, few, low))

      down : AreEqualBelow x p q k → nat_le k n ≡ true
      down below = elim (leb_tells k n) [
        | inl low ↦ low.0
        | inr high
            ↦ absurd (differs (omega (arith, high.1, within)) (below n high.1))
      ]

  -- a part of a run after them
  module _ (n sectors m : ℕ) (equal : AreEqualBelow x p q n)
      (part : IsEqualPart x p q n sectors m) where
    pub equal_part : AreEqualBelow x p q (n + m)
    equal_part k few =
        elim (cases_lt k n) [
          | inl below ↦ equal k below
          | inr from ↦
              let sum : n + (k - n) ≡ k = omega (arith, from) in
              subst (λ (j : ℕ). x p j ≡ x q j) sum (part.equal (k - n) (omega (arith, few, from)))
        ]

    pub part_counted : (reach : ℕ) → m < sectors → CountsEqual x p q reach (n + m)
    part_counted reach short = counted reach (n + m) equal_part (λ _. part.differs short)

-- an image that holds the same has the same part
pub same_part : (x y : Image) (p q : Label) (first sectors n : ℕ) → Same y x
    → IsEqualPart y p q first sectors n → IsEqualPart x p q first sectors n
same_part x y p q first sectors n same part = record {
  equal = λ k few. sym (same p (first + k)) ∙ part.equal k few ∙ same q (first + k);
  differs = λ few e. part.differs few (same p (first + n) ∙ e ∙ sym (same q (first + n)));
}

-- a provider is equal to itself, as far as one looks
pub itself_counted : (x : Image) (p q : Label) (reach : ℕ) → q ≡ p → CountsEqual x p q reach reach
itself_counted x p q reach same =
    counted x p q reach reach (λ k few. ap (λ (a : Label). x a k) (sym same))
    (λ few. absurd (omega (arith, few)))
