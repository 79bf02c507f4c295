-- Whether two images hold the same, by how many of their first sectors are equal.
use Rattle.std.proofs.Common.{◌≡◌, ◌∙◌, inl, inr, ℕ, zero, suc, ◌<◌, ◌≤◌, ◌&&◌, min, nat_le, true, false, refl, sym, subst, arith, List, le-leb, leb-true, lt-ltb}
use Rattle.std.proofs.lemmas.Bool.{and_parts, cases_lt}
use Rattle.std.specs.Str.{bytes_eq}
use Rattle.gm_metadata.specs.Images.{Image, Same, Sizes, agree}
use Rattle.gm_lists.proofs.Order.{same_from, same_is}
use Rattle.gm_apply.specs.EqualData.{CountsEqual, count_of, reach_of}
use Rattle.gm_unlike.specs.Unequals.{HoldSame}

-- the first n sectors of two images
module _ (x : Image) (p q : List ℕ) where
  agree_is : (n : ℕ) → agree x p q n ≡ true → (i : ℕ) → i < n → x p i ≡ x q i
  agree_is zero e i few = absurd (omega (arith, few))
  agree_is (suc n) e i few =
      let parts = and_parts (agree x p q n) (bytes_eq (x p n) (x q n)) e in
      elim (cases_lt i n) [
        | inl below ↦ agree_is n parts.0 i below
        | inr from ↦
            let here : i ≡ n = omega (arith, few, from) in
            subst (λ (j : ℕ). x p j ≡ x q j) (sym here) (same_is (x p n) (x q n) parts.1)
      ]

  agree_from : (n : ℕ) → ((i : ℕ) → i < n → x p i ≡ x q i) → agree x p q n ≡ true
  agree_from zero same = refl
  agree_from (suc n) same =
      rw (
        agree_from n (λ i few. same i (omega (arith, few))),
        same_from (x p n) (x q n) (same n (omega arith)),
      ) refl

-- if as many are equal as there are to be, they hold the same, and else they don't
pub counted_same : (size : Sizes) (seen : Image) (p q : List ℕ) (limit n : ℕ)
    → CountsEqual seen p q (reach_of size p q limit) n → n ≤ reach_of size p q limit
    → n ≡ limit → HoldSame size seen limit p q
counted_same size seen p q limit n counts within all =
    let far : limit ≤ reach_of size p q limit = omega (arith, within, all) in
    record {
      one = omega (arith, far);
      other = omega (arith, far);
      same = agree_is seen p q limit
          (sym (counts limit far) ∙ le-leb limit n (omega (arith, all)));
    }

pub same_counted : (size : Sizes) (seen : Image) (p q : List ℕ) (limit n : ℕ)
    → CountsEqual seen p q (reach_of size p q limit) n → n ≤ reach_of size p q limit
    → HoldSame size seen limit p q → n ≡ limit
same_counted size seen p q limit n counts within hold =
    let one = hold.one in
    let other = hold.other in
    let far : limit ≤ reach_of size p q limit = omega (arith, one, other) in
    let all : limit ≤ n = leb-true limit n
    (counts limit far ∙ agree_from seen p q limit hold.same) in
    omega (arith, all, within)

-- it goes both ways, and on
pub same_back : (size : Sizes) (seen : Image) (n : ℕ) (p q : List ℕ) → HoldSame size seen n p q
    → HoldSame size seen n q p
same_back size seen n p q hold = record {
  one = hold.other;
  other = hold.one;
  same = λ i few. sym (hold.same i few);
}

pub same_on : (size : Sizes) (seen : Image) (n : ℕ) (p q r : List ℕ) → HoldSame size seen n p q
    → HoldSame size seen n q r → HoldSame size seen n p r
same_on size seen n p q r first second = record {
  one = first.one;
  other = second.other;
  same = λ i few. first.same i few ∙ second.same i few;
}

-- what was only read holds the same as before, and held it
pub hold_before : (size size' : Sizes) (x y : Image) (n : ℕ) (p q : List ℕ) → size' ≡ size
    → Same y x → HoldSame size' y n p q → HoldSame size x n p q
hold_before size size' x y n p q e same hold =
    subst (λ (z : Sizes). HoldSame z x n p q) e
    (record {
      one = hold.one;
      other = hold.other;
      same = λ i few. sym (same p i) ∙ (hold.same i few ∙ same q i);
    })

pub hold_after : (size size' : Sizes) (x y : Image) (n : ℕ) (p q : List ℕ) → size' ≡ size
    → Same y x → HoldSame size x n p q → HoldSame size' y n p q
hold_after size size' x y n p q e same hold =
    subst (λ (z : Sizes). HoldSame z y n p q) (sym e)
    (record {
      one = hold.one;
      other = hold.other;
      same = λ i few. same p i ∙ (hold.same i few ∙ sym (same q i));
    })
