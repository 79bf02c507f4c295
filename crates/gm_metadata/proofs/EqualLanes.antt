-- Lanes that differ nowhere are equal.
use Rattle.gm_metadata.proofs.Common.{◌≡◌, ◌∙◌, ◌+◌, ◌*◌, ◌%◌, ℕ, Bool, true, false, not, refl, sym, ap₂, arith, List, [], ◌∷◌, length, cond, IsTrue, nat_eq, ◌==◌, rules, mask_l-mod, length-zip2, nat_tests}
use lib.Lanes.{mask_l, zip2}

first : (t : ℕ → ℕ → Bool) (x y : ℕ) (xs ys : List ℕ) (b : Bool)
    → ((a b : ℕ) → t a b ≡ false → a ≡ b) → t x y ≡ b → cond b 1 0 + 2 * mask_l (zip2 t xs ys) ≡ 0
    → (mask_l (zip2 t xs ys) ≡ 0 → xs ≡ ys) → x ∷ xs ≡ y ∷ ys
first t x y xs ys true same e k more = absurd (omega arith)
first t x y xs ys false same e k more = ap₂ (λ z zs. z ∷ zs) (same x y e) (more (omega arith))

pub none_differ : (t : ℕ → ℕ → Bool) → ((a b : ℕ) → t a b ≡ false → a ≡ b) → (xs ys : List ℕ)
    → length xs ≡ length ys → mask_l (zip2 t xs ys) ≡ 0 → xs ≡ ys
none_differ t same [] [] n h = refl
none_differ t same [] (y ∷ ys) n h = absurd (omega arith)
none_differ t same (x ∷ xs) [] n h = absurd (omega arith)
none_differ t same (x ∷ xs) (y ∷ ys) n h =
    first t x y xs ys _ same refl h (none_differ t same xs ys (omega arith))

abbrev pub differs : ℕ → ℕ → Bool
differs a b = not (a == b)

not_different : (a b : ℕ) → differs a b ≡ false → a ≡ b
not_different a b h = grind (arith, nat_tests)

self_differs : (a : ℕ) → differs a a ≡ false
self_differs a = grind (arith, nat_tests)

none_of_same : (xs : List ℕ) → mask_l (zip2 differs xs xs) ≡ 0
none_of_same [] = refl
none_of_same (x ∷ xs) = rw (self_differs x) (rw (none_of_same xs) refl)

mask_small : (xs ys : List ℕ) → length xs ≡ 64 → length ys ≡ 64
    → mask_l (zip2 differs xs ys) % 18446744073709551616 ≡ mask_l (zip2 differs xs ys)
mask_small xs ys n m =
    mask_l-mod (zip2 differs xs ys) 64 (rw (length-zip2 differs xs ys (n ∙ sym m)) (omega arith))

is_zero : (n : ℕ) → IsTrue (nat_eq n 0) → n ≡ 0
is_zero n h = search (rules, h)

pub same_lanes : (xs ys : List ℕ) → length xs ≡ 64 → length ys ≡ 64
    → (IsTrue (nat_eq (mask_l (zip2 differs xs ys) % 18446744073709551616) 0) → xs ≡ ys)
    × (xs ≡ ys → IsTrue (nat_eq (mask_l (zip2 differs xs ys) % 18446744073709551616) 0))
same_lanes xs ys n m =
    let small = mask_small xs ys n m in (
      λ h. let k = rw small at h in
          none_differ differs not_different xs ys (n ∙ sym m) (is_zero _ k),
      λ e. rw (small, ← e) (rw (none_of_same xs) refl),
    )
