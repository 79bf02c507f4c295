-- Places that intents name: for what is pending after a loss.
use Rattle.gm_bench.proofs.Common.{◌≡◌, ℕ, ◌+◌, ◌-◌, ◌<◌, ◌≤◌, ◌&&◌, ◌||◌, Bool, true, false, refl, arith, List, Option, Some, None, nat_le, nat_lt, eqb-true, eq-eqb, and_parts, nat_tests, same_label, is_last, same_is}

pub or_none : (a b : Bool) → a ≡ false → b ≡ false → (a || b) ≡ false
or_none a b e f = rw (e, f) refl

pub last_is : (o : Option ℕ) (n j : ℕ) → o ≡ Some n → is_last o j ≡ true → j ≡ n - 1
last_is None n j e l = cc
last_is (Some k) n j e l = let h : k ≡ n = cc in let i : k ≡ j + 1 = eqb-true k (j + 1) l in
    omega (arith, h, i)

pub last_at : (o : Option ℕ) (n j : ℕ) → o ≡ Some n → 0 < n → j ≡ n - 1 → is_last o j ≡ true
last_at None n j e l i = cc
last_at (Some k) n j e l i = let h : k ≡ n = cc in eq-eqb k (j + 1) (omega (arith, h, l, i))

-- what a Copy and a Patch say of the sectors that they bring
pub range_of : (t : List ℕ) (a b : ℕ) (q : List ℕ) (j : ℕ)
    → (same_label t q && (nat_le a j && nat_lt j b)) ≡ true → (t ≡ q) × (a ≤ j) × (j < b)
range_of t a b q j e =
    let parts = and_parts (same_label t q) (nat_le a j && nat_lt j b) e in
    let h : (nat_le a j && nat_lt j b) ≡ true = parts.1 in
    (same_is t q parts.0, grind (arith, nat_tests), grind (arith, nat_tests))
