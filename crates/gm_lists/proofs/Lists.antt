-- Being one of a list, and standing in order, through filters and maps.
use Rattle.gm_lists.proofs.Common.{◌≡◌, ◌∙◌, ◌⊎◌, inl, inr, ⊎_elim, ℕ, Bool, true, refl, sym, ap, subst, List, [], ◌∷◌, ◌++◌, filter, map, Option, Some, None, filter_map, cons_option, cases_Bool, label_lt, Has, AscendsBy, Ascends}

-- what was pushed is there last
pub Has-push : {X : Type 0} (xs : List X) (y x : X) → Has (xs ++ y ∷ []) x → Has xs x ⊎ (y ≡ x)
Has-push [] y x h = ⊎_elim (λ (s : y ≡ x). inr s) (λ (k : ⊥). absurd k) h
Has-push (z ∷ zs) y x (inl s) = inl (inl s)
Has-push (z ∷ zs) y x (inr h) =
    ⊎_elim (λ (k : Has zs x). inl (inr k)) (λ (s : y ≡ x). inr s) (Has-push zs y x h)

-- ---- a filter

module _ {X : Type 0} (p : X → Bool) where
  pub Has-filter : (xs : List X) (x : X) → Has (filter p xs) x → Has xs x × (p x ≡ true)
  Has-filter [] x h = absurd h
  Has-filter (y ∷ ys) x h =
      elim (cases_Bool (p y)) [
        | inl e ↦ (let k : (y ≡ x) ⊎ Has (filter p ys) x = rw e at h in
            ⊎_elim (λ (s : y ≡ x). (inl s, sym (ap p s) ∙ e))
            (λ (t : Has (filter p ys) x). let r = Has-filter ys x t in (inr r.0, r.1)) k)
        | inr e ↦ (let k : Has (filter p ys) x = rw e at h in let r = Has-filter ys x k in
            (inr r.0, r.1))
      ]

  pub filter-Has : (xs : List X) (x : X) → Has xs x → p x ≡ true → Has (filter p xs) x
  filter-Has [] x h e = absurd h
  filter-Has (y ∷ ys) x (inl s) e = let t : p y ≡ true = ap p s ∙ e in rw t (inl s)
  filter-Has (y ∷ ys) x (inr k) e =
      elim (cases_Bool (p y)) [
        | inl t ↦ rw t (inr (filter-Has ys x k e))
        | inr t ↦ rw t (filter-Has ys x k e)
      ]

  pub AscendsBy-filter : (before : X → X → Bool) (xs : List X) → AscendsBy before xs
      → AscendsBy before (filter p xs)
  AscendsBy-filter before [] a = a
  AscendsBy-filter before (x ∷ xs) a =
      elim (cases_Bool (p x)) [
        | inl t ↦ rw t (λ y h. a.0 y (Has-filter xs y h).0, AscendsBy-filter before xs a.1)
        | inr t ↦ rw t (AscendsBy-filter before xs a.1)
      ]

  pub Ascends-filter : (key : X → List ℕ) (xs : List X) → Ascends key xs → Ascends key (filter p xs)
  Ascends-filter key xs a = AscendsBy-filter (λ x y. label_lt (key x) (key y)) xs a

-- ---- a map

module _ {X Y : Type 0} (f : X → Y) where
  pub Has-map : (xs : List X) (y : Y) → Has (map f xs) y → (x : X) × Has xs x × (f x ≡ y)
  Has-map [] y h = absurd h
  Has-map (x ∷ xs) y (inl s) = (x, inl refl, s)
  Has-map (x ∷ xs) y (inr h) = let r = Has-map xs y h in (r.0, inr r.1, r.2)

  pub map-Has : (xs : List X) (x : X) → Has xs x → Has (map f xs) (f x)
  map-Has [] x h = absurd h
  map-Has (z ∷ zs) x (inl s) = inl (ap f s)
  map-Has (z ∷ zs) x (inr h) = inr (map-Has zs x h)

  pub AscendsBy-map : (before : Y → Y → Bool) (xs : List X)
      → AscendsBy (λ a b. before (f a) (f b)) xs → AscendsBy before (map f xs)
  AscendsBy-map before [] a = a
  AscendsBy-map before (x ∷ xs) a = (
    λ y h. let r = Has-map xs y h in
        subst (λ (z : Y). before (f x) z ≡ true) r.2 (a.0 r.0 r.1),
    AscendsBy-map before xs a.1,
  )

-- ---- a map of some

Has-cons : {Y : Type 0} (o : Option Y) (ys : List Y) (y : Y) → Has (cons_option o ys) y
    → (o ≡ Some y) ⊎ Has ys y
Has-cons None ys y h = inr h
Has-cons (Some x) ys y (inl s) = inl (ap Some s)
Has-cons (Some x) ys y (inr h) = inr h

cons-Has : {Y : Type 0} (o : Option Y) (ys : List Y) (y : Y) → Has ys y → Has (cons_option o ys) y
cons-Has None ys y h = h
cons-Has (Some x) ys y h = inr h

cons-first : {Y : Type 0} (o : Option Y) (ys : List Y) (y : Y) → o ≡ Some y
    → Has (cons_option o ys) y
cons-first o ys y e = rw e (inl refl)

module _ {X Y : Type 0} (f : X → Option Y) where
  pub Has-filter_map : (xs : List X) (y : Y) → Has (filter_map f xs) y
      → (x : X) × Has xs x × (f x ≡ Some y)
  Has-filter_map [] y h = absurd h
  Has-filter_map (x ∷ xs) y h =
      ⊎_elim (λ (s : f x ≡ Some y). (x, inl refl, s))
      (λ (k : Has (filter_map f xs) y). let r = Has-filter_map xs y k in
      (r.0, inr r.1, r.2)) (Has-cons (f x) (filter_map f xs) y h)

  pub filter_map-Has : (xs : List X) (x : X) (y : Y) → Has xs x → f x ≡ Some y
      → Has (filter_map f xs) y
  filter_map-Has [] x y h e = absurd h
  filter_map-Has (z ∷ zs) x y (inl s) e = cons-first (f z) (filter_map f zs) y (ap f s ∙ e)
  filter_map-Has (z ∷ zs) x y (inr h) e =
      cons-Has (f z) (filter_map f zs) y (filter_map-Has zs x y h e)

  -- if what is made keeps its name, it keeps its order
  pub AscendsBy-filter_map : (key : X → List ℕ) (name : Y → List ℕ)
      → ((x : X) (y : Y) → f x ≡ Some y → key x ≡ name y) → (xs : List X)
      → AscendsBy (λ a b. label_lt (key a) (key b)) xs
      → AscendsBy (λ a b. label_lt (name a) (name b)) (filter_map f xs)
  AscendsBy-filter_map key name keeps [] a = a
  AscendsBy-filter_map key name keeps (x ∷ xs) a =
      joined (f x) refl (AscendsBy-filter_map key name keeps xs a.1)
    where
      joined : (o : Option Y) → f x ≡ o
          → AscendsBy (λ a b. label_lt (name a) (name b)) (filter_map f xs)
          → AscendsBy (λ a b. label_lt (name a) (name b)) (cons_option o (filter_map f xs))
      joined None e rest = rest
      joined (Some y) e rest = (
        λ z h.
            let r = Has-filter_map xs z h in
            let l : label_lt (key x) (key r.0) ≡ true = a.0 r.0 r.1 in
            let n : key x ≡ name y = keeps x y e in
            let m : key r.0 ≡ name z = keeps r.0 z r.2 in
            rw (n, m) at l,
        rest,
      )
