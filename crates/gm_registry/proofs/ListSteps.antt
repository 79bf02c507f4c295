-- The elements of a list, one by one.
use Rattle.gm_registry.proofs.Common.{◌≡◌, ◌∙◌, inl, inr, ℕ, zero, suc, ◌+◌, ◌<◌, List, [], ◌∷◌, length, take, get_or, sym, subst, arith, Has}

-- an element of a list is had by it
pub had : {X : Type 0} (xs : List X) (i : ℕ) (x : X) → i < length xs → x ≡ get_or xs i x → Has xs x
had [] i x low is = absurd (omega (arith, low))
had (y ∷ xs) zero x low is = inl (sym is)
had (y ∷ xs) (suc i) x low is = inr (had xs i x (omega (arith, low)) is)

-- what holds of the first elements and of the next one holds of one more
pub one_more_so : {X : Type 0} (P : X → Type 0) (xs : List X) (i : ℕ) (x : X) → i < length xs
    → x ≡ get_or xs i x → ((y : X) → Has (take i xs) y → P y) → P x
    → (y : X) → Has (take (i + 1) xs) y → P y
one_more_so P [] i x low is so next y has = absurd (omega (arith, low))
one_more_so P (z ∷ xs) zero x low is so next y (inl same) = subst P (is ∙ same) next
one_more_so P (z ∷ xs) zero x low is so next y (inr none) = absurd none
one_more_so {X} P (z ∷ xs) (suc i) x low is so next y has =
    let longer : suc i + 1 ≡ suc (i + 1) = omega arith in
    let there : Has (z ∷ take (i + 1) xs) y = subst (λ k. Has (take k (z ∷ xs)) y) longer has in
    elim there [
      | inl same ↦ so y (inl same)
      | inr after
          ↦ one_more_so P xs i x (omega (arith, low)) is (λ w h. so w (inr h)) next y after
    ]
