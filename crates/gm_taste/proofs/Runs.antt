-- Lists that a sort left: what ties with the first stands first.
use Rattle.gm_taste.proofs.Common.{◌≡◌, ◌∙◌, inl, inr, ⊎_elim, ℕ, suc, ◌+◌, ◌<◌, Bool, true, false, not, refl, sym, ap, subst, arith, true≢false, List, [], ◌∷◌, ◌++◌, length, get_or, take, drop, filter, IsStrictWeakOrder, prefix_len, IsSortedBy, ties, cases_Bool, sorted_far, Has, AscendsBy, Has-push, Has-Contains}

one_more : (n : ℕ) → 1 + n ≡ suc n
one_more n = omega arith

pub not_true : (b : Bool) → not b ≡ true → b ≡ false
not_true true h = absurd (true≢false (sym h))
not_true false h = refl

pub not_false : (b : Bool) → b ≡ false → not b ≡ true
not_false b h = rw h refl

-- ---- filters

module _ {X : Type 0} (p : X → Bool) where
  none_pass : (xs : List X) → ((x : X) → Has xs x → p x ≡ false) → filter p xs ≡ []
  none_pass [] h = refl
  none_pass (x ∷ xs) h = rw (h x (inl refl)) (none_pass xs (λ y k. h y (inr k)))

  all_pass : (xs : List X) → ((x : X) → Has xs x → p x ≡ true) → filter p xs ≡ xs
  all_pass [] h = refl
  all_pass (x ∷ xs) h =
      rw (h x (inl refl)) (ap (λ (ys : List X). x ∷ ys) (all_pass xs (λ y k. h y (inr k))))

  -- if what passes passes q too, q's filter takes nothing away
  pub filter_kept : (q : X → Bool) → ((x : X) → p x ≡ true → q x ≡ true) → (xs : List X)
      → filter p (filter q xs) ≡ filter p xs
  filter_kept q h [] = refl
  filter_kept q h (x ∷ xs) =
      elim (cases_Bool (p x)) [
        | inl e ↦ rw (h x e, e) (ap (λ (ys : List X). x ∷ ys) (filter_kept q h xs))
        | inr e ↦ elim (cases_Bool (q x)) [
          | inl f ↦ rw (f, e) (filter_kept q h xs)
          | inr f ↦ rw (f, e) (filter_kept q h xs)
        ]
      ]

-- what goes after all others is pushed
pub AscendsBy-push : {X : Type 0} (before : X → X → Bool) (xs : List X) (y : X)
    → AscendsBy before xs → ((x : X) → Has xs x → before x y ≡ true)
    → AscendsBy before (xs ++ y ∷ [])
AscendsBy-push before [] y a h = (λ z k. absurd k, tt)
AscendsBy-push {X} before (x ∷ xs) y a h = (
  λ z k. ⊎_elim (λ (m : Has xs z). a.0 z m)
      (λ (e : y ≡ z). subst (λ (w : X). before x w ≡ true) e (h x (inl refl))) (Has-push xs y z k),
  AscendsBy-push before xs y a.1 (λ z k. h z (inr k)),
)

-- ---- sorted lists

-- none goes before one that it comes after
abbrev pub Rises : {X : Type 0} → (X → X → Bool) → List X → Type 0
Rises lt xs = AscendsBy (λ a b. not (lt b a)) xs

module _ {X : Type 0} (lt : X → X → Bool) (order : IsStrictWeakOrder lt) where
  pub sorted_rises : (xs : List X) → IsSortedBy lt xs → Rises lt xs
  sorted_rises [] up = tt
  sorted_rises (x ∷ xs) up = (
    λ y h.
        let c = Has-Contains xs y h in
        not_false (lt y x) (at_place c.0 y c.1 c.2),
    sorted_rises xs (λ k d l m. rest k d m),
  )
    where
      at_place : (k : ℕ) (y : X) → k < length xs → get_or xs k y ≡ y → lt y x ≡ false
      at_place k y l e =
          let far : lt (get_or (x ∷ xs) (suc k) y) (get_or (x ∷ xs) 0 y) ≡ false =
          sorted_far lt order (x ∷ xs) up 0 (suc k) y (omega arith) (omega arith) in
          subst (λ (z : X). lt z x ≡ false) e far

      rest : (k : ℕ) (d : X) → k + 1 < length xs → lt (get_or xs (k + 1) d) (get_or xs k d) ≡ false
      rest k d m =
          let next : lt (get_or (x ∷ xs) (suc k + 1) d) (get_or (x ∷ xs) (suc k) d) ≡ false =
          up (suc k) d (omega arith) (omega arith) in
          let e : suc k + 1 ≡ suc (k + 1) = omega arith in
          let f : lt (get_or (x ∷ xs) (suc (k + 1)) d) (get_or (x ∷ xs) (suc k) d) ≡ false =
          rw e at next in
          f

  -- what doesn't tie with x, and isn't before it, is after it
  pub untied : (x y : X) → lt y x ≡ false → ties lt x y ≡ false → lt x y ≡ true
  untied x y l t =
      elim (cases_Bool (lt x y)) [
        | inl e ↦ e
        | inr e ↦ (let f : true ≡ false = rw (e, l) at t in absurd (true≢false f))
      ]

  -- nor does what comes after it
  untied_behind : (x y z : X) → lt x y ≡ true → lt z y ≡ false → ties lt x z ≡ false
  untied_behind x y z l m =
      elim (cases_Bool (lt x z)) [
        | inl e ↦ rw e refl
        | inr e ↦ absurd (true≢false (sym l ∙ order.chain x z y e m))
      ]

  -- those that tie with x are the first, if none goes before x
  pub cut : (x : X) (xs : List X) → ((y : X) → Has xs y → lt y x ≡ false) → Rises lt xs
      → (take (prefix_len (ties lt x) xs) xs ≡ filter (ties lt x) xs)
      × (drop (prefix_len (ties lt x) xs) xs ≡ filter (λ y. not (ties lt x y)) xs)
  cut x [] low up = (refl, refl)
  cut x (y ∷ ys) low up =
      elim (cases_Bool (ties lt x y)) [
        | inl t ↦
            let c = cut x ys (λ z h. low z (inr h)) up.1 in
            rw (t, one_more (prefix_len (ties lt x) ys)) (ap (λ (zs : List X). y ∷ zs) c.0, c.1)
        | inr t ↦
            let l : lt x y ≡ true = untied x y (low y (inl refl)) t in
            let none : (z : X) → Has ys z → ties lt x z ≡ false =
            λ z h. untied_behind x y z l (not_true (lt z y) (up.0 z h)) in
            rw t (
              sym (none_pass (ties lt x) ys none),
              ap (λ (zs : List X). y ∷ zs)
                  (sym (all_pass (λ z. not (ties lt x z)) ys (λ z h. not_false _ (none z h)))),
            )
      ]
