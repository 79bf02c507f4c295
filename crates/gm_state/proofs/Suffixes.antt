-- What holds of a list, told from what is left of it.
use Rattle.gm_state.proofs.Common.{◌≡◌, ◌∙◌, inr, ⊎_elim, ℕ, zero, suc, ◌+◌, ◌<◌, ◌≤◌, List, [], ◌∷◌, drop, length, get_or, refl, sym, ap, add-one, drop-cons, arith, Has}

-- the first of what is left
pub next_is : {A : Type 0} (xs : List A) (i : ℕ) (x : A) → i < length xs → x ≡ get_or xs i x
    → drop i xs ≡ x ∷ drop (i + 1) xs
next_is xs i x low is = rw add-one (drop-cons xs i x low ∙ ap (λ y. y ∷ drop (suc i) xs) (sym is))

-- ---- each of a list

abbrev pub Each : {A : Type 0} → (A → Type 0) → List A → Type 0
Each {A} P xs = (x : A) → Has xs x → P x

-- ---- one of a list

-- a list has it if what is left of the list has it
pub record IsLeft {A : Type 0} (x : A) (all rest : List A) : Type 0 where
  pub there : Has rest x → Has all x
  pub back : Has all x → Has rest x

pub passed_over : {A : Type 0} (x y : A) (all rest : List A) → ¬ (y ≡ x) → IsLeft x all (y ∷ rest)
    → IsLeft x all rest
passed_over x y all rest other left =
    record {
      there = λ h. left.there (inr h);
      back = λ h. ⊎_elim (λ (s : y ≡ x). absurd (other s)) (λ (k : Has rest x). k) (left.back h);
    }

pub none_left : {A : Type 0} (xs : List A) (i : ℕ) → length xs ≤ i → drop i xs ≡ []
none_left [] zero h = refl
none_left [] (suc i) h = refl
none_left (x ∷ xs) zero h = absurd (omega arith)
none_left (x ∷ xs) (suc i) h = none_left xs i (omega arith)
