-- What is there once several records are put at their places.
use Rattle.gm_lists.proofs.Common.{◌≡◌, ◌∙◌, ◌⊎◌, inl, inr, ⊎_elim, ℕ, ◌+◌, ◌≤◌, Bool, true, false, refl, sym, ap, subst, arith, List, [], ◌∷◌, filter, length, bytes_eq, label_lt, Has, Ascends, put, put_all}
use Rattle.gm_lists.proofs.Order.{same_tells, differ, lt_asym, lt_differ}
use Rattle.gm_lists.proofs.Putting.{put_there, put_stays, put_or, filter-put, filter-put_out, Ascends-put, length-put_le}

module _ {X : Type 0} (key : X → List ℕ) where
  pub put_all_or : (xs ys : List X) (z : X) → Has (put_all key xs ys) z → Has xs z ⊎ Has ys z
  put_all_or [] ys z h = inr h
  put_all_or (x ∷ xs) ys z h =
      ⊎_elim (λ (i : Has xs z). inl (inr i)) (λ (i : Has (put key x ys) z).
      ⊎_elim (λ (e : x ≡ z). inl (inl e)) (λ (j : Has ys z). inr j) (put_or key x ys z i))
      (put_all_or xs (put key x ys) z h)

  -- what is there stays, if what has its name is the same
  pub put_all_stays : (xs ys : List X) (z : X) → ((x : X) → Has xs x → key x ≡ key z → x ≡ z)
      → Has ys z → Has (put_all key xs ys) z
  put_all_stays [] ys z same h = h
  put_all_stays (x ∷ xs) ys z same h =
      put_all_stays xs (put key x ys) z (λ y i. same y (inr i))
      (elim (same_tells (key z) (key x)) [
        | inl e ↦ subst (λ (y : X). Has (put key x ys) y) (same x (inl refl) (sym e.1))
            (put_there key x ys)
        | inr n ↦ put_stays key x ys z h n.1
      ])

  -- what is put is there
  pub put_all_there : (xs ys : List X) (z : X) → ((x : X) → Has xs x → key x ≡ key z → x ≡ z)
      → Has xs z → Has (put_all key xs ys) z
  put_all_there [] ys z same h = absurd h
  put_all_there (x ∷ xs) ys z same (inl e) =
      put_all_stays xs (put key x ys) z (λ y i. same y (inr i))
      (subst (λ (y : X). Has (put key x ys) y) e (put_there key x ys))
  put_all_there (x ∷ xs) ys z same (inr h) =
      put_all_there xs (put key x ys) z (λ y i. same y (inr i)) h

  pub length-put_all_le : (xs ys : List X) → length (put_all key xs ys) ≤ length xs + length ys
  length-put_all_le [] ys = omega arith
  length-put_all_le (x ∷ xs) ys =
      let a : length (put_all key xs (put key x ys)) ≤ length xs + length (put key x ys) =
      length-put_all_le xs (put key x ys) in
      let b : length (put key x ys) ≤ length ys + 1 = length-put_le key x ys in
      omega arith

  -- in a part of the list that all of them are of
  pub filter-put_all : (p : X → Bool) (xs ys : List X) → Ascends key ys
      → ((x : X) → Has xs x → p x ≡ true)
      → ((x z : X) → Has xs x → Has ys z → key z ≡ key x → p z ≡ true)
      → filter p (put_all key xs ys) ≡ put_all key xs (filter p ys)
  filter-put_all p [] ys a t h = refl
  filter-put_all p (x ∷ xs) ys a t h =
      filter-put_all p xs (put key x ys) (Ascends-put key x ys a) (λ y i. t y (inr i))
      (λ y z i j e. ⊎_elim (λ (s : x ≡ z). subst (λ (w : X). p w ≡ true) s (t x (inl refl)))
      (λ (k : Has ys z). h y z (inr i) k e) (put_or key x ys z j))
      ∙ ap (put_all key xs) (filter-put key p x ys a (t x (inl refl))
      (λ z j e. h x z (inl refl) j e))

  -- in a part that none is of
  pub filter-put_all_out : (p : X → Bool) (xs ys : List X) → ((x : X) → Has xs x → p x ≡ false)
      → ((x z : X) → Has xs x → Has ys z → key z ≡ key x → p z ≡ false)
      → filter p (put_all key xs ys) ≡ filter p ys
  filter-put_all_out p [] ys t h = refl
  filter-put_all_out p (x ∷ xs) ys t h =
      filter-put_all_out p xs (put key x ys) (λ y i. t y (inr i))
      (λ y z i j e. ⊎_elim (λ (s : x ≡ z). subst (λ (w : X). p w ≡ false) s (t x (inl refl)))
      (λ (k : Has ys z). h y z (inr i) k e) (put_or key x ys z j))
      ∙ filter-put_out key p x ys (t x (inl refl)) (λ z j e. h x z (inl refl) j e)

  -- the first stays in front of what comes after it
  behind : (xs : List X) (y : X) (ys : List X)
      → ((x : X) → Has xs x → label_lt (key y) (key x) ≡ true)
      → put_all key xs (y ∷ ys) ≡ y ∷ put_all key xs ys
  behind [] y ys h = refl
  behind (x ∷ xs) y ys h =
      let l : label_lt (key y) (key x) ≡ true = h x (inl refl) in
      let e : bytes_eq (key x) (key y) ≡ false =
      differ (key x) (key y) (λ s. lt_differ (key y) (key x) l (sym s)) in
      let g : label_lt (key x) (key y) ≡ false = lt_asym (key y) (key x) l in
      rw (e, g) (behind xs y (put key x ys) (λ z k. h z (inr k)))

  -- what stands in order already is put as it stands
  pub put_ordered : (xs : List X) → Ascends key xs → put_all key xs [] ≡ xs
  put_ordered [] a = refl
  put_ordered (x ∷ xs) a = behind xs x [] a.0 ∙ ap (λ (ys : List X). x ∷ ys) (put_ordered xs a.1)
