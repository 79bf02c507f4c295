-- Sectors that intents name, and those that they bring data to.
use Rattle.gm_state.proofs.Common.{◌≡◌, ◌⊎◌, inl, inr, ⊎_elim, ℕ, ◌+◌, ◌<◌, ◌≤◌, nat_le, nat_lt, ◌&&◌, ◌||◌, Bool, List, [], ◌∷◌, ◌++◌, Option, Some, None, true, false, refl, sym, subst, arith, eqb-true, eq-eqb, ltb-true, and_parts, leb-true, or_left, or_right, Sizes, same_label, Intent, Meta, Clear, Copy, Dirty, Patch, is_last, copies, fills, names, is_dirty, is_dirty_of, is_meta_of, any_copies, any_fills, is_place, Has, not_both, Has-append_left, same_is, same_from}

pub or_true : (a b : Bool) → (a || b) ≡ true → (a ≡ true) ⊎ (b ≡ true)
or_true true b e = inl refl
or_true false b e = inr e

pub Has-append : {X : Type 0} (xs ys : List X) (x : X) → Has (xs ++ ys) x → Has xs x ⊎ Has ys x
Has-append [] ys x h = inr h
Has-append (z ∷ xs) ys x (inl s) = inl (inl s)
Has-append (z ∷ xs) ys x (inr h) =
    ⊎_elim (λ (k : Has xs x). inl (inr k)) (λ (k : Has ys x). inr k) (Has-append xs ys x h)

-- ---- last sectors

pub last_only : (o : Option ℕ) (j i : ℕ) → is_last o j ≡ true → is_last o i ≡ true → j ≡ i
last_only None j i e f = cc
last_only (Some n) j i e f =
    let a : n ≡ j + 1 = eqb-true n (j + 1) e in
    let b : n ≡ i + 1 = eqb-true n (i + 1) f in
    omega (arith, a, b)

pub last_at : (o : Option ℕ) (n : ℕ) → o ≡ Some (n + 1) → is_last o n ≡ true
last_at o n e = rw e (eq-eqb (n + 1) (n + 1) refl)

pub last_named : (size : Sizes) (p q : List ℕ) (j : ℕ)
    → (same_label p q && is_last (size q) j) ≡ true → (p ≡ q) × (is_last (size q) j ≡ true)
last_named size p q j e = let parts = and_parts (same_label p q) (is_last (size q) j) e in
    (same_is p q parts.0, parts.1)

-- ---- one intent

-- what brings data names the sector
pub fills_named : (size : Sizes) (t : Intent) (q : List ℕ) (j : ℕ) → fills t q j ≡ true
    → names size t q j ≡ true
fills_named size (Meta p) q j e = cc
fills_named size (Clear p) q j e = cc
fills_named size (Copy f t a b) q j e =
    ⊎_elim (λ (h : copies (Copy f t a b) q j ≡ true). h)
    (λ (h : false ≡ true). absurd (let x : ⊥ = cc in x))
    (or_true (copies (Copy f t a b) q j) false e)
fills_named size (Dirty p) q j e = cc
fills_named size (Patch p a b) q j e = e

-- a sector that is copied to is one of the target's, within the range
pub copied_at : (s t : List ℕ) (a b : ℕ) (q : List ℕ) (j : ℕ) → copies (Copy s t a b) q j ≡ true
    → (t ≡ q) × (a ≤ j) × (j < b)
copied_at s t a b q j e =
    let parts = and_parts (same_label t q) (nat_le a j && nat_lt j b) e in
    let range = and_parts (nat_le a j) (nat_lt j b) parts.1 in
    (same_is t q parts.0, leb-true a j range.0, ltb-true j b range.1)

-- what names a sector that isn't the last one brings data to it, and is no Dirty
pub named_fills : (size : Sizes) (t : Intent) (q : List ℕ) (j : ℕ) → is_last (size q) j ≡ false
    → names size t q j ≡ true → (fills t q j ≡ true) × (is_dirty t ≡ false)
named_fills size (Meta p) q j off e =
    not_both (is_last (size q) j) (last_named size p q j e).1 off
named_fills size (Clear p) q j off e =
    not_both (is_last (size q) j) (last_named size p q j e).1 off
named_fills size (Copy f t a b) q j off e = (or_left (copies (Copy f t a b) q j) false e, refl)
named_fills size (Dirty p) q j off e =
    not_both (is_last (size q) j) (last_named size p q j e).1 off
named_fills size (Patch p a b) q j off e = (e, refl)

-- what names a last sector and brings no data there brings none to the provider
pub last_fills : (size : Sizes) (t : Intent) (q : List ℕ) (l : ℕ) → is_last (size q) l ≡ true
    → names size t q l ≡ true → (fills t q l ≡ true → is_last (size q) l ≡ false) → (i : ℕ)
    → fills t q i ≡ false
last_fills size (Meta p) q l last e apart i = refl
last_fills size (Clear p) q l last e apart i = refl
last_fills size (Copy f t a b) q l last e apart i =
    not_both (is_last (size q) l) last (apart (or_left (copies (Copy f t a b) q l) false e))
last_fills size (Dirty p) q l last e apart i = refl
last_fills size (Patch p a b) q l last e apart i = not_both (is_last (size q) l) last (apart e)

-- a Dirty and a Meta name the last sector of their provider
pub dirty_names : (size : Sizes) (t : Intent) (q : List ℕ) (j : ℕ) → is_dirty_of q t ≡ true
    → is_last (size q) j ≡ true → names size t q j ≡ true
dirty_names size (Meta p) q j e last = cc
dirty_names size (Clear p) q j e last = cc
dirty_names size (Copy f t a b) q j e last = cc
dirty_names size (Dirty p) q j e last = rw (e, last) refl
dirty_names size (Patch p a b) q j e last = cc

pub meta_names : (size : Sizes) (t : Intent) (q : List ℕ) (j : ℕ) → is_meta_of q t ≡ true
    → is_last (size q) j ≡ true → names size t q j ≡ true
meta_names size (Meta p) q j e last = rw (e, last) refl
meta_names size (Clear p) q j e last = cc
meta_names size (Copy f t a b) q j e last = cc
meta_names size (Dirty p) q j e last = cc
meta_names size (Patch p a b) q j e last = cc

-- a Dirty that names a sector is one of its provider, and the sector is the last one
pub dirty_last : (size : Sizes) (t : Intent) (q : List ℕ) (j : ℕ) → is_dirty t ≡ true
    → names size t q j ≡ true → is_last (size q) j ≡ true
dirty_last size (Meta p) q j e n = cc
dirty_last size (Clear p) q j e n = cc
dirty_last size (Copy f t a b) q j e n = cc
dirty_last size (Dirty p) q j e n = (last_named size p q j n).1
dirty_last size (Patch p a b) q j e n = cc

pub dirty_is_of : (size : Sizes) (t : Intent) (q : List ℕ) (j : ℕ) → is_dirty t ≡ true
    → names size t q j ≡ true → is_dirty_of q t ≡ true
dirty_is_of size (Meta p) q j e n = cc
dirty_is_of size (Clear p) q j e n = cc
dirty_is_of size (Copy f t a b) q j e n = cc
dirty_is_of size (Dirty p) q j e n = same_from p q (last_named size p q j n).0
dirty_is_of size (Patch p a b) q j e n = cc

-- ---- one of a list

-- a sector that one of them names is a place
pub place_from : (size : Sizes) (ts : List Intent) (t : Intent) (q : List ℕ) (j : ℕ) → Has ts t
    → names size t q j ≡ true → is_place size ts q j ≡ true
place_from size [] t q j h e = absurd h
place_from size (r ∷ rs) t q j (inl s) e =
    or_left (names size r q j) (is_place size rs q j)
    (subst (λ (x : Intent). names size x q j ≡ true) (sym s) e)
place_from size (r ∷ rs) t q j (inr h) e =
    or_right (names size r q j) (is_place size rs q j) (place_from size rs t q j h e)

pub placed_by : (size : Sizes) (ts : List Intent) (q : List ℕ) (j : ℕ)
    → is_place size ts q j ≡ true → (t : Intent) × Has ts t × (names size t q j ≡ true)
placed_by size [] q j e = cc
placed_by size (t ∷ ts) q j e =
    ⊎_elim (λ (h : names size t q j ≡ true). (t, inl refl, h))
    (λ (h : is_place size ts q j ≡ true). let r = placed_by size ts q j h in
    (r.0, inr r.1, r.2)) (or_true (names size t q j) (is_place size ts q j) e)

pub place_more : (size : Sizes) (xs ys : List Intent) (q : List ℕ) (j : ℕ)
    → is_place size xs q j ≡ true → is_place size (xs ++ ys) q j ≡ true
place_more size xs ys q j e =
    let by = placed_by size xs q j e in
    place_from size (xs ++ ys) by.0 q j (Has-append_left xs ys by.0 by.1) by.2

pub copied_by : (ts : List Intent) (q : List ℕ) (j : ℕ) → any_copies ts q j ≡ true
    → (t : Intent) × Has ts t × (copies t q j ≡ true)
copied_by [] q j e = cc
copied_by (t ∷ ts) q j e =
    ⊎_elim (λ (h : copies t q j ≡ true). (t, inl refl, h))
    (λ (h : any_copies ts q j ≡ true). let r = copied_by ts q j h in (r.0, inr r.1, r.2))
    (or_true (copies t q j) (any_copies ts q j) e)

pub copies_from : (ts : List Intent) (t : Intent) (q : List ℕ) (j : ℕ) → Has ts t
    → copies t q j ≡ true → any_copies ts q j ≡ true
copies_from [] t q j h e = absurd h
copies_from (r ∷ rs) t q j (inl s) e =
    or_left (copies r q j) (any_copies rs q j)
    (subst (λ (x : Intent). copies x q j ≡ true) (sym s) e)
copies_from (r ∷ rs) t q j (inr h) e =
    or_right (copies r q j) (any_copies rs q j) (copies_from rs t q j h e)

pub filled_by : (ts : List Intent) (q : List ℕ) (j : ℕ) → any_fills ts q j ≡ true
    → (t : Intent) × Has ts t × (fills t q j ≡ true)
filled_by [] q j e = cc
filled_by (t ∷ ts) q j e =
    ⊎_elim (λ (h : fills t q j ≡ true). (t, inl refl, h))
    (λ (h : any_fills ts q j ≡ true). let r = filled_by ts q j h in (r.0, inr r.1, r.2))
    (or_true (fills t q j) (any_fills ts q j) e)

pub fills_from : (ts : List Intent) (t : Intent) (q : List ℕ) (j : ℕ) → Has ts t
    → fills t q j ≡ true → any_fills ts q j ≡ true
fills_from [] t q j h e = absurd h
fills_from (r ∷ rs) t q j (inl s) e =
    or_left (fills r q j) (any_fills rs q j)
    (subst (λ (x : Intent). fills x q j ≡ true) (sym s) e)
fills_from (r ∷ rs) t q j (inr h) e =
    or_right (fills r q j) (any_fills rs q j) (fills_from rs t q j h e)
