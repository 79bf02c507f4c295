-- What a put or a deletion leaves.
use Rattle.gm_lists.proofs.Common.{◌≡◌, ◌≢◌, ◌∙◌, ◌⊎◌, inl, inr, ⊎_elim, ℕ, Bool, true, false, refl, sym, ap, subst, List, [], ◌∷◌, cond, filter, map, ◌≤◌, length, arith, suc, ◌+◌, true≢false, bytes_eq, prefix_len, insert, cases_Bool, label_lt, Has, Ascends, put, put_all}
use Rattle.gm_lists.proofs.Lists.{Has-filter}
use Rattle.gm_lists.proofs.Order.{same_tells, same_from, same_is, differ, lt_trans, lt_asym, lt_other, lt_differ}

-- ---- what is put

module _ {X : Type 0} (key : X → List ℕ) where
  -- two of one name are one
  pub one : (xs : List X) → Ascends key xs → (x y : X) → Has xs x → Has xs y → key x ≡ key y → x ≡ y
  one [] a x y h k e = absurd h
  one (z ∷ zs) a x y (inl s) (inl t) e = sym s ∙ t
  one (z ∷ zs) a x y (inl s) (inr t) e = absurd (lt_differ (key z) (key y) (a.0 y t) (ap key s ∙ e))
  one (z ∷ zs) a x y (inr s) (inl t) e =
      absurd (lt_differ (key z) (key x) (a.0 x s) (ap key t ∙ sym e))
  one (z ∷ zs) a x y (inr s) (inr t) e = one zs a.1 x y s t e

  pub put_there : (x : X) (ys : List X) → Has (put key x ys) x
  put_there x [] = inl refl
  put_there x (y ∷ ys) =
      elim (cases_Bool (bytes_eq (key x) (key y))) [
        | inl e ↦ rw e (inl refl)
        | inr e ↦ elim (cases_Bool (label_lt (key x) (key y))) [
          | inl l
              ↦ rw (e, l) (inl refl)
          | inr l ↦ rw (e, l) (inr (put_there x ys))
        ]
      ]

  pub put_or : (x : X) (ys : List X) (z : X) → Has (put key x ys) z → (x ≡ z) ⊎ Has ys z
  put_or x [] z h = ⊎_elim (λ (s : x ≡ z). inl s) (λ (k : ⊥). absurd k) h
  put_or x (y ∷ ys) z h =
      elim (cases_Bool (bytes_eq (key x) (key y))) [
        | inl e ↦ (let k : (x ≡ z) ⊎ Has ys z = rw e at h in
            ⊎_elim (λ (s : x ≡ z). inl s) (λ (t : Has ys z). inr (inr t)) k)
        | inr e ↦ elim (cases_Bool (label_lt (key x) (key y))) [
          | inl l ↦ (let k : (x ≡ z) ⊎ Has (y ∷ ys) z = rw (e, l) at h in k)
          | inr l ↦ (let k : (y ≡ z) ⊎ Has (put key x ys) z = rw (e, l) at h in
              ⊎_elim (λ (s : y ≡ z). inr (inl s)) (λ (t : Has (put key x ys) z).
              ⊎_elim (λ (s : x ≡ z). inl s) (λ (u : Has ys z). inr (inr u)) (put_or x ys z t)) k)
        ]
      ]

  -- what has another name stays
  pub put_stays : (x : X) (ys : List X) (z : X) → Has ys z → key z ≢ key x → Has (put key x ys) z
  put_stays x [] z h n = absurd h
  put_stays x (y ∷ ys) z h n =
      elim (cases_Bool (bytes_eq (key x) (key y))) [
        | inl e ↦ rw e
            (⊎_elim (λ (s : y ≡ z). absurd (n (sym (ap key s) ∙ sym (same_is (key x) (key y) e))))
            (λ (t : Has ys z). inr t) h)
        | inr e ↦ elim (cases_Bool (label_lt (key x) (key y))) [
          | inl l ↦ rw (e, l) (inr h)
          | inr l ↦ rw (e, l) (⊎_elim (λ (s : y ≡ z). inl s)
              (λ (t : Has ys z). inr (put_stays x ys z t n)) h)
        ]
      ]

  pub Ascends-put : (x : X) (ys : List X) → Ascends key ys → Ascends key (put key x ys)
  Ascends-put x [] a = (λ y h. absurd h, tt)
  Ascends-put x (y ∷ ys) a =
      elim (cases_Bool (bytes_eq (key x) (key y))) [
        | inl e ↦ rw e (λ z h. rw (same_is (key x) (key y) e) (a.0 z h), a.1)
        | inr e ↦ elim (cases_Bool (label_lt (key x) (key y))) [
          | inl l ↦ rw (
            e,
            l,
          ) (
            λ z h. ⊎_elim (λ (s : y ≡ z). subst (λ (w : X). label_lt (key x) (key w) ≡ true) s
                l) (λ (t : Has ys z). lt_trans (key x) (key y) (key z) l (a.0 z t)) h,
            a,
          )
          | inr l ↦ rw (
            e,
            l,
          ) (
            λ z h. ⊎_elim (λ (s : x ≡ z). subst (λ (w : X). label_lt (key y) (key w) ≡ true) s
                (lt_other (key x) (key y) e l)) (λ (t : Has ys z). a.0 z t) (put_or x ys z h),
            Ascends-put x ys a.1,
          )
        ]
      ]

  -- x stands before all that come after it
  pub put_first : (x : X) (ys : List X) → ((z : X) → Has ys z → label_lt (key x) (key z) ≡ true)
      → put key x ys ≡ x ∷ ys
  put_first x [] h = refl
  put_first x (y ∷ ys) h =
      let l : label_lt (key x) (key y) ≡ true = h y (inl refl) in
      let e : bytes_eq (key x) (key y) ≡ false =
      differ (key x) (key y) (lt_differ (key x) (key y) l) in
      rw (e, l) refl

  -- in a part of the list
  pub filter-put : (p : X → Bool) (x : X) (ys : List X) → Ascends key ys → p x ≡ true
      → ((z : X) → Has ys z → key z ≡ key x → p z ≡ true)
      → filter p (put key x ys) ≡ put key x (filter p ys)
  filter-put p x [] a t h = rw t refl
  filter-put p x (y ∷ ys) a t h =
      elim (cases_Bool (bytes_eq (key x) (key y))) [
        | inl e ↦ (let u : p y ≡ true = h y (inl refl) (sym (same_is (key x) (key y) e)) in
            rw (e, t, u) (rw e refl))
        | inr e ↦ elim (cases_Bool (label_lt (key x) (key y))) [
          | inl l ↦ elim (cases_Bool (p y)) [
            | inl u ↦ rw (e, l, t, u) (rw (e, l) refl)
            | inr u ↦ rw (
              e,
              l,
              t,
              u,
            ) (sym (put_first x (filter p ys)
                (λ z k. lt_trans (key x) (key y) (key z) l (a.0 z (Has-filter p ys z k).0))))
          ]
          | inr l ↦ elim (cases_Bool (p y)) [
            | inl u ↦ rw (
              e,
              l,
              u,
            ) (rw (e, l) (ap (λ (zs : List X). y ∷ zs)
                (filter-put p x ys a.1 t (λ z k. h z (inr k)))))
            | inr u ↦ rw (e, l, u) (filter-put p x ys a.1 t (λ z k. h z (inr k)))
          ]
        ]
      ]

  pub filter-put_out : (p : X → Bool) (x : X) (ys : List X) → p x ≡ false
      → ((z : X) → Has ys z → key z ≡ key x → p z ≡ false) → filter p (put key x ys) ≡ filter p ys
  filter-put_out p x [] t h = rw t refl
  filter-put_out p x (y ∷ ys) t h =
      elim (cases_Bool (bytes_eq (key x) (key y))) [
        | inl e ↦ (let u : p y ≡ false = h y (inl refl) (sym (same_is (key x) (key y) e)) in
            rw (e, t, u) refl)
        | inr e ↦ elim (cases_Bool (label_lt (key x) (key y))) [
          | inl l ↦ rw (e, l, t) refl
          | inr l ↦ elim (cases_Bool (p y)) [
            | inl u ↦ rw (e, l, u) (ap (λ (zs : List X). y ∷ zs)
                (filter-put_out p x ys t (λ z k. h z (inr k))))
            | inr u ↦ rw (e, l, u) (filter-put_out p x ys t (λ z k. h z (inr k)))
          ]
        ]
      ]

-- ---- a put at a place

one_more : (n : ℕ) → 1 + n ≡ suc n
one_more n = omega arith

-- if nothing has its name, x goes after those that are before it
pub put_insert : {X : Type 0} (key : X → List ℕ) (x : X) (ys : List X)
    → ((z : X) → Has ys z → bytes_eq (key z) (key x) ≡ false)
    → put key x ys ≡ insert ys (prefix_len (λ y. label_lt (key y) (key x)) ys) x
put_insert key x [] h = refl
put_insert {X = X} key x (y ∷ ys) h =
    let n : bytes_eq (key y) (key x) ≡ false = h y (inl refl) in
    let m : bytes_eq (key x) (key y) ≡ false =
    differ (key x) (key y) (λ e. true≢false (sym (same_from (key y) (key x) (sym e)) ∙ n)) in
    elim (cases_Bool (label_lt (key y) (key x))) [
      | inl t ↦ (let u : label_lt (key x) (key y) ≡ false = lt_asym (key y) (key x) t in
          rw (m, u, t) (rw (one_more (prefix_len (λ (z : X). label_lt (key z) (key x)) ys))
          (ap (λ (zs : List X). y ∷ zs) (put_insert key x ys (λ z k. h z (inr k))))))
      | inr t ↦ (let u : label_lt (key x) (key y) ≡ true = lt_other (key y) (key x) n t in
          rw (m, u, t) refl)
    ]

-- ---- two filters, and a change of what passes one

module _ {X : Type 0} (p : X → Bool) where
  pub filter_swap : (q : X → Bool) (xs : List X) → filter p (filter q xs) ≡ filter q (filter p xs)
  filter_swap q [] = refl
  filter_swap q (x ∷ xs) =
      elim (cases_Bool (p x)) [
        | inl t ↦ elim (cases_Bool (q x)) [
          | inl u ↦ rw (t, u) (rw t (ap (λ (ys : List X). x ∷ ys) (filter_swap q xs)))
          | inr u ↦ rw (t, u) (filter_swap q xs)
        ]
        | inr t ↦ elim (cases_Bool (q x)) [
          | inl u ↦ rw (t, u) (rw t (filter_swap q xs))
          | inr u ↦ rw (t, u) (filter_swap q xs)
        ]
      ]

  -- f of what passes, and the rest as it is
  abbrev pub where_passes : (X → X) → X → X
  where_passes f x = cond (p x) (f x) x

  pub filter-where : (f : X → X) → ((x : X) → p (f x) ≡ p x) → (xs : List X)
      → filter p (map (where_passes f) xs) ≡ map f (filter p xs)
  filter-where f keeps [] = refl
  filter-where f keeps (x ∷ xs) =
      elim (cases_Bool (p x)) [
        | inl t ↦ (let u : p (f x) ≡ true = keeps x ∙ t in
            rw t (rw u (ap (λ (ys : List X). f x ∷ ys) (filter-where f keeps xs))))
        | inr t ↦ rw t (rw t (filter-where f keeps xs))
      ]

  module _ (key : X → List ℕ) where
    put_behind : (zs : List X) (y : X) (ys : List X)
        → ((z : X) → Has zs z → label_lt (key y) (key z) ≡ true)
        → put_all key zs (y ∷ ys) ≡ y ∷ put_all key zs ys
    put_behind [] y ys h = refl
    put_behind (z ∷ zs) y ys h =
        let l : label_lt (key y) (key z) ≡ true = h z (inl refl) in
        let e : bytes_eq (key z) (key y) ≡ false =
        differ (key z) (key y) (λ s. lt_differ (key y) (key z) l (sym s)) in
        let g : label_lt (key z) (key y) ≡ false = lt_asym (key y) (key z) l in
        rw (e, g) (put_behind zs y (put key z ys) (λ x k. h x (inr k)))

    Has-map : (f : X → X) → ((x : X) → key (f x) ≡ key x) → (xs : List X) (z : X)
        → Has (map f (filter p xs)) z → (x : X) × Has xs x × (key z ≡ key x)
    Has-map f keeps [] z h = absurd h
    Has-map f keeps (x ∷ xs) z h =
        elim (cases_Bool (p x)) [
          | inl t ↦ (let k : (f x ≡ z) ⊎ Has (map f (filter p xs)) z = rw t at h in
              ⊎_elim (λ (s : f x ≡ z). (x, inl refl, sym (ap key s) ∙ keeps x))
              (λ (g : Has (map f (filter p xs)) z). let r = Has-map f keeps xs z g in
              (r.0, inr r.1, r.2)) k)
          | inr t ↦ (let k : Has (map f (filter p xs)) z = rw t at h in
              let r = Has-map f keeps xs z k in (r.0, inr r.1, r.2))
        ]

    -- putting what passes, changed but for its name, changes it where it stands
    pub put_all-where : (f : X → X) → ((x : X) → key (f x) ≡ key x) → (xs : List X) → Ascends key xs
        → put_all key (map f (filter p xs)) xs ≡ map (where_passes f) xs
    put_all-where f keeps [] a = refl
    put_all-where f keeps (x ∷ xs) a =
        let above : (z : X) → Has (map f (filter p xs)) z → label_lt (key x) (key z) ≡ true =
        λ z h. let r = Has-map f keeps xs z h in
        subst (λ (n : List ℕ). label_lt (key x) n ≡ true) (sym r.2) (a.0 r.0 r.1) in
        elim (cases_Bool (p x)) [
          | inl t ↦ (let e : bytes_eq (key (f x)) (key x) ≡ true = same_from (key (f x)) (key x)
              (keeps x) in
              let here : put key (f x) (x ∷ xs) ≡ f x ∷ xs = rw e refl in
              rw t (ap (put_all key (map f (filter p xs))) here
              ∙ (put_behind (map f (filter p xs)) (f x) xs
              (λ z h. subst (λ (n : List ℕ). label_lt n (key z) ≡ true) (sym (keeps x))
              (above z h)) ∙ ap (λ (ys : List X). f x ∷ ys) (put_all-where f keeps xs a.1))))
          | inr t ↦ rw t (put_behind (map f (filter p xs)) x xs above
              ∙ ap (λ (ys : List X). x ∷ ys) (put_all-where f keeps xs a.1))
        ]

-- ---- how long, and what else is there

module _ {X : Type 0} (key : X → List ℕ) where
  pub length-put_le : (x : X) (ys : List X) → length (put key x ys) ≤ length ys + 1
  length-put_le x [] = omega arith
  length-put_le x (y ∷ ys) =
      elim (cases_Bool (bytes_eq (key x) (key y))) [
        | inl e ↦ rw e (omega arith)
        | inr e ↦ elim (cases_Bool (label_lt (key x) (key y))) [
          | inl l
              ↦ rw (e, l) (omega arith)
          | inr l
              ↦ rw (e, l) (let h : length (put key x ys) ≤ length ys + 1 = length-put_le x ys in
              omega arith)
        ]
      ]

  -- in place of one of its name
  pub length-put_same : (x : X) (ys : List X) → Ascends key ys → (y : X) → Has ys y → key y ≡ key x
      → length (put key x ys) ≡ length ys
  length-put_same x [] a y h e = absurd h
  length-put_same x (z ∷ zs) a y h e =
      elim (cases_Bool (bytes_eq (key x) (key z))) [
        | inl t ↦ rw t refl
        | inr t ↦
            let other : Has zs y =
            ⊎_elim (λ (s : z ≡ y).
            absurd (true≢false (sym (same_from (key x) (key z) (sym e ∙ sym (ap key s))) ∙ t)))
            (λ (k : Has zs y). k) h in
            let above : label_lt (key z) (key x) ≡ true =
            subst (λ (n : List ℕ). label_lt (key z) n ≡ true) e (a.0 y other) in
            let l : label_lt (key x) (key z) ≡ false = lt_asym (key z) (key x) above in
            rw (t, l) (ap (λ (n : ℕ). suc n) (length-put_same x zs a.1 y other e))
      ]

  -- x, or another of another name
  pub put_cases : (x : X) (ys : List X) → Ascends key ys → (z : X) → Has (put key x ys) z
      → (x ≡ z) ⊎ (Has ys z × (key z ≢ key x))
  put_cases x ys a z h =
      elim (same_tells (key z) (key x)) [
        | inl y ↦ inl (one key (put key x ys) (Ascends-put key x ys a) x z (put_there key x ys) h
            (sym y.1))
        | inr n ↦ ⊎_elim (λ (s : x ≡ z). inl s) (λ (k : Has ys z). inr (k, n.1))
            (put_or key x ys z h)
      ]

-- ---- what is taken away

pub filter_id : {X : Type 0} (q : X → Bool) (xs : List X) → ((x : X) → Has xs x → q x ≡ true)
    → filter q xs ≡ xs
filter_id q [] h = refl
filter_id q (x ∷ xs) h =
    rw (h x (inl refl)) (ap (λ ys. x ∷ ys) (filter_id q xs (λ y k. h y (inr k))))

pub length-filter_le : {X : Type 0} (q : X → Bool) (xs : List X) → length (filter q xs) ≤ length xs
length-filter_le q [] = omega arith
length-filter_le q (x ∷ xs) = let h : length (filter q xs) ≤ length xs = length-filter_le q xs in
    elim (cases_Bool (q x)) [ inl t ↦ rw t (omega arith) | inr t ↦ rw t (omega arith) ]

-- one that fails is left out
pub length-filter_lt : {X : Type 0} (q : X → Bool) (xs : List X) (x : X) → Has xs x → q x ≡ false
    → length (filter q xs) + 1 ≤ length xs
length-filter_lt q [] x h e = absurd h
length-filter_lt q (y ∷ ys) x (inl s) e = let t : q y ≡ false = ap q s ∙ e in
    let h : length (filter q ys) ≤ length ys = length-filter_le q ys in rw t (omega arith)
length-filter_lt q (y ∷ ys) x (inr k) e =
    let h : length (filter q ys) + 1 ≤ length ys = length-filter_lt q ys x k e in
    elim (cases_Bool (q y)) [ inl t ↦ rw t (omega arith) | inr t ↦ rw t (omega arith) ]
