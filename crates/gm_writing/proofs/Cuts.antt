-- Slices that end with what they are of.
use Rattle.std.proofs.Common.{◌≡◌, ◌≤◌, ◌+◌, ◌-◌, inl, inr, ℕ, List, [], ◌++◌, length, take, drop, min, sym, ap, ap₂, subst, ◌∙◌, arith}
use Rattle.std.proofs.Math.ListN.{drop_of_length-le}
use Rattle.std.proofs.lemmas.Bool.{cases_lt}
use Rattle.std.proofs.lemmas.List.{take-append-drop, take_rest, length-drop, append-nil}

-- a list has no elements beyond its end
whole : (n : ℕ) (xs : List ℕ) → length xs ≤ n → take n xs ≡ xs
whole n xs ends =
    sym (append-nil (take n xs))
    ∙ (ap (λ r. take n xs ++ r) (sym (drop_of_length-le xs ends)) ∙ take-append-drop n xs)

-- so many elements from a place on, as far as there are any
pub cut : (xs : List ℕ) (i n : ℕ)
    → take (min (min i (length xs) + n) (length xs) - min i (length xs))
    (drop (min i (length xs)) xs)
    ≡ take n (drop i xs)
cut xs i n = elim (cases_lt i (length xs)) [
  | inl within ↦
      let begins : min i (length xs) ≡ i = omega arith in
      let from : drop (min i (length xs)) xs ≡ drop i xs = ap (λ k. drop k xs) begins in
      elim (cases_lt (i + n) (length xs)) [
        | inl more ↦ ap₂ take (omega arith) from
        | inr last ↦
            ap₂ take (let e : min (min i (length xs) + n) (length xs) - min i (length xs)
            ≡ length xs - i = omega arith in e) from
            ∙ (take_rest xs i ∙ sym (whole n (drop i xs)
            (subst (λ k. k ≤ n) (sym (length-drop i xs)) (omega arith))))
      ]
  | inr beyond ↦
      let begins : length xs ≤ min i (length xs) = omega arith in
      ap (λ r. take (min (min i (length xs) + n) (length xs) - min i (length xs)) r)
      (drop_of_length-le xs begins)
      ∙ (whole _ [] (omega arith)
      ∙ sym (ap (take n) (drop_of_length-le xs beyond) ∙ whole n [] (omega arith)))
]
