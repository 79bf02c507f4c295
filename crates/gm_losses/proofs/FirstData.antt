-- The first data of sectors, by runs.
use Rattle.gm_losses.proofs.Common.{◌≡◌, ◌∙◌, inl, inr, ℕ, ◌+◌, ◌-◌, ◌<◌, ◌≤◌, List, Option, Some, None, sym, ap, arith, cases_lt, cases_order, AreBlank, IsFirstData, TellsFirst}

-- sectors that are the same have the same first data
pub tells_same : (f g : ℕ → List ℕ) (n : ℕ) (found : Option ℕ) → ((i : ℕ) → i < n → f i ≡ g i)
    → TellsFirst f n found → TellsFirst g n found
tells_same f g n None same blank = λ i low. sym (same i low) ∙ blank i low
tells_same f g n (Some place) same first = record {
  within = first.within;
  blank = λ i low. sym (same i (let w = first.within in omega arith)) ∙ first.blank i low;
  some = λ e. first.some (same place first.within ∙ e);
}

-- two that are first are one
pub one_first : (f : ℕ → List ℕ) (n a b : ℕ) → IsFirstData f n a → IsFirstData f n b → a ≡ b
one_first f n a b x y = elim (cases_order a b) [
  | inl e ↦ e
  | inr (inl low) ↦ absurd (x.some (y.blank a low))
  | inr (inr low) ↦ absurd (y.some (x.blank b low))
]

module _ (f : ℕ → List ℕ) (place length : ℕ) (before : AreBlank f place) where
  in_run : (i : ℕ) → place ≤ i → f (place + (i - place)) ≡ f i
  in_run i high = ap f (omega arith)

  -- a run of zeros after those
  pub blank_then : AreBlank (λ k. f (place + k)) length → AreBlank f (place + length)
  blank_then run i low = elim (cases_lt i place) [
    | inl was ↦ before i was
    | inr new ↦ sym (in_run i new) ∙ run (i - place) (omega arith)
  ]

  -- the first data of a run after those
  pub first_then : (n found : ℕ) → place + length ≤ n
      → IsFirstData (λ k. f (place + k)) length found → IsFirstData f n (place + found)
  first_then n found long first = record {
    within = let w = first.within in omega arith;
    blank = λ i low. elim (cases_lt i place) [
      | inl was ↦ before i was
      | inr new ↦ sym (in_run i new) ∙ first.blank (i - place) (omega arith)
    ];
    some = first.some;
  }
