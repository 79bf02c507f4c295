-- A list whose elements are changed where they stand.
use Rattle.gm_lists.proofs.Common.{◌≡◌, ◌≢◌, ◌∙◌, inl, inr, ℕ, Bool, true, false, refl, sym, ap, subst, List, [], ◌∷◌, map, filter, bytes_eq, cases_Bool, Has, Ascends, label_lt, put}
use Rattle.gm_lists.proofs.Order.{same_from, differ, lt_asym, lt_differ}
use Rattle.gm_lists.proofs.Lists.{Has-map}

module _ {X : Type 0} (f : X → X) where
  pub map_id : (xs : List X) → ((x : X) → Has xs x → f x ≡ x) → map f xs ≡ xs
  map_id [] h = refl
  map_id (x ∷ xs) h = rw (h x (inl refl)) (ap (λ ys. x ∷ ys) (map_id xs (λ y k. h y (inr k))))

  -- a test of what f keeps
  pub filter-map : (p : X → Bool) → ((x : X) → p (f x) ≡ p x) → (xs : List X)
      → filter p (map f xs) ≡ map f (filter p xs)
  filter-map p keeps [] = refl
  filter-map p keeps (x ∷ xs) =
      elim (cases_Bool (p x)) [
        | inl t ↦ rw (keeps x, t) (ap (λ ys. f x ∷ ys) (filter-map p keeps xs))
        | inr t ↦ rw (keeps x, t) (filter-map p keeps xs)
      ]

  pub Ascends-map : (key : X → List ℕ) → ((x : X) → key (f x) ≡ key x) → (xs : List X)
      → Ascends key xs → Ascends key (map f xs)
  Ascends-map key keeps [] a = tt
  Ascends-map key keeps (x ∷ xs) a = (
    λ y h. let r = Has-map f xs y h in
        subst (λ (z : X). label_lt (key (f x)) (key z) ≡ true) r.2
        (rw (keeps x, keeps r.0) (a.0 r.0 r.1)),
    Ascends-map key keeps xs a.1,
  )

  -- to put one in place of the one of its name is to change that one where it stands
  pub put-map : (key : X → List ℕ) (xs : List X) → Ascends key xs → (x k : X) → Has xs k
      → key x ≡ key k → f k ≡ x
      → ((y : X) → Has xs y → key y ≢ key k → f y ≡ y) → put key x xs ≡ map f xs
  put-map key [] a x k h e new rest = absurd h
  put-map key (y ∷ ys) a x k (inl s) e new rest =
      let at : bytes_eq (key x) (key y) ≡ true = same_from (key x) (key y) (e ∙ sym (ap key s)) in
      let here : f y ≡ x = ap f s ∙ new in
      let others : map f ys ≡ ys =
      map_id ys (λ z i. rest z (inr i) (λ d. lt_differ (key y) (key z) (a.0 z i)
      (ap key s ∙ sym d))) in
      rw (at, here, others) refl
  put-map key (y ∷ ys) a x k (inr h) e new rest =
      let below : label_lt (key y) (key x) ≡ true =
      subst (λ (n : List ℕ). label_lt (key y) n ≡ true) (sym e) (a.0 k h) in
      let apart : bytes_eq (key x) (key y) ≡ false =
      differ (key x) (key y) (λ d. lt_differ (key y) (key x) below (sym d)) in
      let behind : label_lt (key x) (key y) ≡ false = lt_asym (key y) (key x) below in
      let here : f y ≡ y = rest y (inl refl) (λ d. lt_differ (key y) (key x) below (d ∙ sym e)) in
      rw (apart, behind, here)
      (ap (λ zs. y ∷ zs) (put-map key ys a.1 x k h e new (λ z i. rest z (inr i))))
