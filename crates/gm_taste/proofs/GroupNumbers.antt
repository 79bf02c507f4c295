-- The numbers of a group: the greatest of those that are meant.
use Rattle.gm_taste.proofs.Common.{◌≡◌, ◌∙◌, ◌⊎◌, inl, inr, ⊎_elim, ℕ, ◌≤◌, Bool, true, false, ◌&&◌, nat_lt, cond, refl, sym, ap, arith, List, [], ◌∷◌, cases_Bool, nat_tests, Taken, Has, raised}

-- ---- the greatest number of those that are meant

abbrev step : Bool → ℕ → ℕ → ℕ
step b n m = cond (b && nat_lt n m) m n

step_least : (b : Bool) (n m : ℕ) → n ≤ step b n m
step_least true n m = grind (arith, nat_tests)
step_least false n m = omega arith

step_bound : (b : Bool) (n m : ℕ) → b ≡ true → m ≤ step b n m
step_bound true n m e = grind (arith, nat_tests)
step_bound false n m e = cc

step_is : (b : Bool) (n m : ℕ) → (step b n m ≡ n) ⊎ ((b ≡ true) × (step b n m ≡ m))
step_is true n m =
    elim (cases_Bool (nat_lt n m)) [ inl e ↦ rw e (inr (refl, refl)) | inr e ↦ rw e (inl refl) ]
step_is false n m = inl refl

module _ (meant : Taken → Bool) (number : Taken → ℕ) where
  least : (n : ℕ) (ts : List Taken) → n ≤ raised meant number n ts
  least n [] = omega arith
  least n (t ∷ ts) =
      let a : n ≤ step (meant t) n (number t) = step_least (meant t) n (number t) in
      let b : step (meant t) n (number t) ≤ raised meant number (step (meant t) n (number t)) ts =
      least (step (meant t) n (number t)) ts in
      go n (step (meant t) n (number t)) (raised meant number (step (meant t) n (number t)) ts) a b
    where
      go : (n m k : ℕ) → n ≤ m → m ≤ k → n ≤ k
      go n m k a b = omega arith

  pub bound : (n : ℕ) (ts : List Taken) (t : Taken) → Has ts t → meant t ≡ true
      → number t ≤ raised meant number n ts
  bound n [] t h e = absurd h
  bound n (u ∷ ts) t (inr h) e = bound (step (meant u) n (number u)) ts t h e
  bound n (u ∷ ts) t (inl s) e =
      go (number u) (step (meant u) n (number u)) (raised meant number n (u ∷ ts)) (number t)
      (ap number s) (step_bound (meant u) n (number u) (ap meant s ∙ e))
      (least (step (meant u) n (number u)) ts)
    where
      go : (a m k b : ℕ) → a ≡ b → a ≤ m → m ≤ k → b ≤ k
      go a m k b e l h = omega arith

  abbrev Reached : List Taken → ℕ → Type 0
  Reached ts n = (t : Taken) × Has ts t × (meant t ≡ true) × (number t ≡ n)

  reached : (n : ℕ) (ts : List Taken) → (raised meant number n ts ≡ n)
      ⊎ Reached ts (raised meant number n ts)
  reached n [] = inl refl
  reached n (u ∷ ts) =
      let m = step (meant u) n (number u) in
      ⊎_elim (λ (e : raised meant number m ts ≡ m). ⊎_elim (λ (f : m ≡ n). inl (e ∙ f))
      (λ (f : (meant u ≡ true) × (m ≡ number u)). inr (u, inl refl, f.0, sym (e ∙ f.1)))
      (step_is (meant u) n (number u)))
      (λ (r : Reached ts (raised meant number m ts)). inr (r.0, inr r.1, r.2, r.3)) (reached m ts)

  -- if one is meant, one reaches the greatest
  pub greatest : (ts : List Taken) (t : Taken) → Has ts t → meant t ≡ true
      → Reached ts (raised meant number 0 ts)
  greatest ts t h e =
      ⊎_elim (λ (z : raised meant number 0 ts ≡ 0). (
        t,
        h,
        e,
        least_is (number t) (raised meant number 0 ts) z (bound 0 ts t h e),
      ))
      (λ (r : Reached ts (raised meant number 0 ts)). r) (reached 0 ts)
    where
      least_is : (a b : ℕ) → b ≡ 0 → a ≤ b → a ≡ b
      least_is a b z l = omega arith
