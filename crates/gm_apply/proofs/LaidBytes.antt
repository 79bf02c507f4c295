-- Bytes that are laid over sectors of a provider.
use Rattle.gm_apply.proofs.Common.{◌≡◌, ◌∙◌, inl, inr, ℕ, Some, ◌≤◌, ◌<◌, ◌+◌, ◌-◌, ◌&&◌, length, take, List, true, refl, sym, ap, arith, le-leb, lt-ltb, leb-true, ltb-true, nat_le, nat_lt, cases_Bool, and_parts, ltb-false, get_or-take, length-take-le, slice_get, get_or_from_slice_get, slice_get_within, Image, Same, same_label, label_refl, View, sector_of, put_run, IsRunWrite, Patch, patches, with_places, IsUnderWay}
use Rattle.gm_apply.proofs.UnderWay.{going_run}
use Rattle.gm_apply.proofs.Sectors.{swapped}

-- the first n sectors of the bytes, from sector a of p on, below b
module _ (p : List ℕ) (a b n : ℕ) (bytes : List (List ℕ)) (few : n ≤ length bytes)
    (fits : a + n ≤ b) where
  long : length (take n bytes) ≡ n
  long = length-take-le n bytes few

  same_sector : (k : ℕ) → k < n → sector_of bytes (a + k - a) ≡ sector_of (take n bytes) k
  same_sector k low =
      let at : a + k - a ≡ k = omega arith in
      ap (sector_of bytes) at ∙ sym (get_or-take n bytes k _ low)

  told : (k : ℕ) → k < length (take n bytes) → (patches (Patch p a b) p (a + k) ≡ true)
      × (sector_of bytes (a + k - a) ≡ sector_of (take n bytes) k)
  told k low = (
    rw (
      label_refl p,
      le-leb a (a + k) (omega arith),
      lt-ltb (a + k) b (omega (arith, low, long, fits)),
    ) refl,
    same_sector k (omega (arith, low, long)),
  )

  pub lay_going : (old new : View) → IsRunWrite p a (take n bytes) old new
      → IsUnderWay (patches (Patch p a b)) (λ q j. sector_of bytes (j - a)) old new
  lay_going old new law = going_run (patches (Patch p a b)) (λ q j. sector_of bytes (j - a))
      old new p a (take n bytes) told law

  pub lay_seen : a + n ≡ b → (x new : Image) → Same new (put_run p a (take n bytes) x)
      → Same new (with_places (patches (Patch p a b)) (λ q j. sector_of bytes (j - a)) x)
  lay_seen whole x new written q j =
      written q j ∙ elim (cases_Bool (patches (Patch p a b) q j)) [
        | inl here ↦
            let range = and_parts (nat_le a j) (nat_lt j b)
            (and_parts (same_label p q) (nat_le a j && nat_lt j b) here).1 in
            let from : a ≤ j = leb-true a j range.0 in
            let below : j < b = ltb-true j b range.1 in
            let low : j - a < n = omega (arith, from, below, whole) in
            rw (inside q j, here) (get_or-take n bytes (j - a) _ low)
        | inr off ↦ rw (inside q j, off) refl
      ]
    where
      inside : (q : List ℕ) (j : ℕ)
          → (same_label q p && (nat_le a j && nat_lt j (a + length (take n bytes))))
          ≡ patches (Patch p a b) q j
      inside q j = rw (long, whole, swapped q p) refl

-- if all sectors of the range say theirs, there are bytes for all
module _ (p : List ℕ) (a b : ℕ) (bytes : List (List ℕ)) (w : Image)
    (says : (q : List ℕ) (j : ℕ) → patches (Patch p a b) q j ≡ true
    → slice_get bytes (j - a) ≡ Some (w q j)) where
  pub bytes_same : (q : List ℕ) (j : ℕ) → patches (Patch p a b) q j ≡ true
      → sector_of bytes (j - a) ≡ w q j
  bytes_same q j e = get_or_from_slice_get bytes (j - a) (w q j) _ (says q j e)

  pub bytes_enough : b ≤ a + length bytes
  bytes_enough =
      elim (cases_Bool (nat_lt a b)) [
        | inr none ↦ (let few : b ≤ a = ltb-false a b none in omega (arith, few))
        | inl some ↦
            let low : a < b = ltb-true a b some in
            let within : b - 1 - a < length bytes =
            slice_get_within bytes (b - 1 - a) (w p (b - 1)) (says p (b - 1)
            (rw (
              label_refl p,
              le-leb a (b - 1) (omega (arith, low)),
              lt-ltb (b - 1) b (omega (arith, low)),
            ) refl)) in
            omega (arith, low, within)
      ]
