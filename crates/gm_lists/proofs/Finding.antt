-- Finding one in a list, and what a test of some one tells.
use Rattle.gm_lists.proofs.Common.{◌≡◌, ◌∙◌, ◌⊎◌, Option, inl, inr, ⊎_elim, ℕ, Bool, true, false, ◌||◌, refl, sym, ap, ap₂, List, [], ◌∷◌, ◌++◌, filter, find, map, Some, None, list_all, list_any, cases_Bool, or_parts, or_left, or_right, same_label, Has, Ascends}
use Rattle.gm_lists.proofs.Order.{same_from, same_is}
use Rattle.gm_lists.proofs.Putting.{one}

-- there is one, or none
pub option_cases : {X : Type 0} (o : Option X) → (o ≡ None) ⊎ ((x : X) × (o ≡ Some x))
option_cases None = inl refl
option_cases (Some x) = inr (x, refl)

pub found : {X : Type 0} (p : X → Bool) (xs : List X) (x : X) → find p xs ≡ Some x
    → Has xs x × (p x ≡ true)
found p [] x e = cc
found p (y ∷ ys) x e =
    elim (cases_Bool (p y)) [
      | inl t ↦ (let f : Some y ≡ Some x = rw t at e in let s : y ≡ x = cc in
          (inl s, sym (ap p s) ∙ t))
      | inr t ↦ (let f : find p ys ≡ Some x = rw t at e in let r = found p ys x f in (inr r.0, r.1))
    ]

pub found_none : {X : Type 0} (p : X → Bool) (xs : List X) → find p xs ≡ None → (x : X) → Has xs x
    → p x ≡ false
found_none p [] e x h = absurd h
found_none p (y ∷ ys) e x h =
    elim (cases_Bool (p y)) [
      | inl t ↦ (let f : Some y ≡ None = rw t at e in absurd (let g : ⊥ = cc in g))
      | inr t ↦ (let f : find p ys ≡ None = rw t at e in
          ⊎_elim (λ (s : y ≡ x). sym (ap p s) ∙ t) (λ (k : Has ys x). found_none p ys f x k) h)
    ]

pub find_none : {X : Type 0} (p : X → Bool) (xs : List X) → ((x : X) → Has xs x → p x ≡ false)
    → find p xs ≡ None
find_none p [] h = refl
find_none p (y ∷ ys) h = rw (h y (inl refl)) (find_none p ys (λ x k. h x (inr k)))

-- no one passes
pub none_any : {X : Type 0} (p : X → Bool) (xs : List X) → list_any p xs ≡ false → (x : X)
    → Has xs x → p x ≡ false
none_any p [] e x h = absurd h
none_any p (y ∷ ys) e x h =
    let parts : (p y ≡ false) × (list_any p ys ≡ false) = or_parts (p y) (list_any p ys) e in
    ⊎_elim (λ (s : y ≡ x). sym (ap p s) ∙ parts.0) (λ (k : Has ys x). none_any p ys parts.1 x k) h

pub any_none : {X : Type 0} (p : X → Bool) (xs : List X) → ((x : X) → Has xs x → p x ≡ false)
    → list_any p xs ≡ false
any_none p [] h = refl
any_none p (x ∷ xs) h = rw (h x (inl refl)) (any_none p xs (λ y i. h y (inr i)))

-- some one passes
pub some_any : {X : Type 0} (p : X → Bool) (xs : List X) → list_any p xs ≡ true
    → (x : X) × Has xs x × (p x ≡ true)
some_any p [] e = absurd (let h : ⊥ = cc in h)
some_any p (x ∷ xs) e =
    elim (cases_Bool (p x)) [
      | inl t ↦ (x, inl refl, t)
      | inr t ↦ (let f : list_any p xs ≡ true = rw t at e in let r = some_any p xs f in
          (r.0, inr r.1, r.2))
    ]

-- some one doesn't
pub some_other : {X : Type 0} (p : X → Bool) (xs : List X) → list_all p xs ≡ false
    → (x : X) × Has xs x × (p x ≡ false)
some_other p [] e = absurd (let h : ⊥ = cc in h)
some_other p (x ∷ xs) e =
    elim (cases_Bool (p x)) [
      | inl t ↦ (let f : list_all p xs ≡ false = rw t at e in let r = some_other p xs f in
          (r.0, inr r.1, r.2))
      | inr t ↦ (x, inl refl, t)
    ]

pub any_from : {X : Type 0} (p : X → Bool) (xs : List X) (x : X) → Has xs x → p x ≡ true
    → list_any p xs ≡ true
any_from p [] x h e = absurd h
any_from p (y ∷ ys) x (inl s) e = or_left (p y) (list_any p ys) (ap p s ∙ e)
any_from p (y ∷ ys) x (inr h) e = or_right (p y) (list_any p ys) (any_from p ys x h e)

-- tests that agree on a list
pub any_agree : {X : Type 0} (p q : X → Bool) (xs : List X) → ((x : X) → Has xs x → p x ≡ q x)
    → list_any p xs ≡ list_any q xs
any_agree p q [] h = refl
any_agree p q (x ∷ xs) h =
    ap₂ (λ a b. a || b) (h x (inl refl)) (any_agree p q xs (λ y k. h y (inr k)))

pub filter_agree : {X : Type 0} (p q : X → Bool) (xs : List X) → ((x : X) → Has xs x → p x ≡ q x)
    → filter p xs ≡ filter q xs
filter_agree p q [] h = refl
filter_agree p q (x ∷ xs) h =
    let rest : filter p xs ≡ filter q xs = filter_agree p q xs (λ y k. h y (inr k)) in
    elim (cases_Bool (q x)) [
      | inl t ↦ rw (h x (inl refl), t) (ap (λ l. x ∷ l) rest)
      | inr t ↦ rw (h x (inl refl), t) rest
    ]

pub any-map : {X Y : Type 0} (p : Y → Bool) (f : X → Y) (xs : List X)
    → list_any p (map f xs) ≡ list_any (λ x. p (f x)) xs
any-map p f [] = refl
any-map p f (x ∷ xs) = ap (λ b. p (f x) || b) (any-map p f xs)

-- one that a command names
pub any_one : {X : Type 0} (p : X → Bool) (x : X) → list_any p (x ∷ []) ≡ false → p x ≡ false
any_one p x e = none_any p (x ∷ []) e x (inl refl)

pub not_both : {A : Type 0} (b : Bool) → b ≡ true → b ≡ false → A
not_both b p q = cc

-- the one element that passes is found
pub find_only : {X : Type 0} (p : X → Bool) (xs : List X) (x : X) → Has xs x → p x ≡ true
    → ((y : X) → Has xs y → p y ≡ true → y ≡ x) → find p xs ≡ Some x
find_only p xs x h e only =
    elim (option_cases (find p xs)) [
      | inl none ↦ not_both (p x) e (found_none p xs none x h)
      | inr some ↦ (let f = found p xs some.0 some.1 in some.1 ∙ ap Some (only some.0 f.0 f.1))
    ]

-- in byte order of names each is found by its own
pub find_one : {X : Type 0} (key : X → List ℕ) (xs : List X) → Ascends key xs → (x : X) → Has xs x
    → find (λ y. same_label (key y) (key x)) xs ≡ Some x
find_one key [] a x h = absurd h
find_one key (y ∷ ys) a x (inl s) = rw (same_from (key y) (key x) (ap key s)) (ap Some s)
find_one key (y ∷ ys) a x (inr h) =
    elim (cases_Bool (same_label (key y) (key x))) [
      | inl e ↦ rw e
          (ap Some (one key (y ∷ ys) a y x (inl refl) (inr h) (same_is (key y) (key x) e)))
      | inr e ↦ rw e (find_one key ys a.1 x h)
    ]

-- ---- what stands in a list that is made of others

pub Has-append_left : {X : Type 0} (xs ys : List X) (x : X) → Has xs x → Has (xs ++ ys) x
Has-append_left [] ys x h = absurd h
Has-append_left (z ∷ xs) ys x (inl e) = inl e
Has-append_left (z ∷ xs) ys x (inr h) = inr (Has-append_left xs ys x h)

pub Has-append_right : {X : Type 0} (xs ys : List X) (x : X) → Has ys x → Has (xs ++ ys) x
Has-append_right [] ys x h = h
Has-append_right (z ∷ xs) ys x h = inr (Has-append_right xs ys x h)
