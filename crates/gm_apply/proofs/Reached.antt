-- What intents that are done leave of an image: each sector is as the last of them left it.
use Rattle.gm_apply.proofs.Common.{◌≡◌, ◌⊎◌, inl, inr, ⊎_elim, ℕ, ◌||◌, Bool, true, false, refl, List, [], ◌∷◌, ◌++◌, if◌then◌else◌, list_any, cases_Bool, or_left, or_right, or_parts, Image, Sizes, Intent, Records, is_last, is_dirty, is_dirty_of, is_meta_of, claims, names, is_place, IsDirt, LeaveNoDirt, not_both, or_true, named_fills, meta_names, dirty_is_of, dirty_last}

-- what a sector holds on the way: what it held, dirt, or what it holds in the end
pub data Which : Type 0 where
  Old : Which
  Dirt : Which
  New : Which

-- after this intent
abbrev pub left_by : Sizes → Intent → List ℕ → ℕ → Which → Which
left_by size t q j which = if names size t q j then (if is_dirty t then Dirt else New) else which

-- by the last of the intents that names it
abbrev pub latest : Sizes → List Intent → List ℕ → ℕ → Which → Which
latest size [] q j which = which
latest size (t ∷ ts) q j which = latest size ts q j (left_by size t q j which)

-- the sector holds that, on the way from d to w
abbrev pub IsValue : Records → Image → Image → List ℕ → ℕ → List ℕ → Which → Type 0
IsValue s w d q j x Old = x ≡ d q j
IsValue s w d q j x Dirt = IsDirt s q x
IsValue s w d q j x New = x ≡ w q j

-- the intents are done
abbrev pub IsReached : Records → Sizes → List Intent → Image → Image → Image → Type 0
IsReached s size done w d y = (q : List ℕ) (j : ℕ)
    → IsValue s w d q j (y q j) (latest size done q j Old)

-- one is under way: each sector is as before, or named by it, with what it lays there
abbrev pub IsStepping : Records → Sizes → Intent → Image → Image → Image → Type 0
IsStepping s size t w y x = (q : List ℕ) (j : ℕ) → (x q j ≡ y q j)
    ⊎ ((names size t q j ≡ true) × IsValue s w y q j (x q j) (if is_dirty t then Dirt else New))

pub latest_more : (size : Sizes) (done : List Intent) (t : Intent) (q : List ℕ) (j : ℕ)
    (which : Which)
    → latest size (done ++ t ∷ []) q j which ≡ left_by size t q j (latest size done q j which)
latest_more size [] t q j which = refl
latest_more size (r ∷ done) t q j which = latest_more size done t q j (left_by size r q j which)

-- if none names it, it is as it was
pub latest_off : (size : Sizes) (done : List Intent) (q : List ℕ) (j : ℕ) (which : Which)
    → is_place size done q j ≡ false → latest size done q j which ≡ which
latest_off size [] q j which off = refl
latest_off size (t ∷ done) q j which off =
    let parts = or_parts (names size t q j) (is_place size done q j) off in
    rw parts.0 (latest_off size done q j which parts.1)

-- one of the others names it, if the first doesn't
rest_named : (size : Sizes) (t : Intent) (done : List Intent) (q : List ℕ) (j : ℕ) {A : Type 0}
    → names size t q j ≡ false → A ⊎ (is_place size (t ∷ done) q j ≡ true)
    → A ⊎ (is_place size done q j ≡ true)
rest_named size t done q j off h =
    ⊎_elim inl (λ (p : (names size t q j || is_place size done q j) ≡ true).
    ⊎_elim (λ (x : names size t q j ≡ true). not_both (names size t q j) x off) inr
    (or_true (names size t q j) (is_place size done q j) p)) h

-- if one names it, it isn't
not_old : (size : Sizes) (done : List Intent) (q : List ℕ) (j : ℕ) (which : Which)
    → (which ≡ Old → ⊥) ⊎ (is_place size done q j ≡ true) → latest size done q j which ≡ Old → ⊥
not_old size [] q j which h e =
    ⊎_elim (λ (n : which ≡ Old → ⊥). n e) (λ (p : false ≡ true). (let x : ⊥ = cc in x)) h
not_old size (t ∷ done) q j which h e =
    elim (cases_Bool (names size t q j)) [
      | inl here ↦ elim (cases_Bool (is_dirty t)) [
        | inl dirty ↦ not_old size done q j Dirt (inl (λ x. cc))
            (let f : latest size done q j Dirt ≡ Old = rw (here, dirty) at e in f)
        | inr clean ↦ not_old size done q j New (inl (λ x. cc))
            (let f : latest size done q j New ≡ Old = rw (here, clean) at e in f)
      ]
      | inr off ↦ not_old size done q j which (rest_named size t done q j off h)
          (let f : latest size done q j which ≡ Old = rw off at e in f)
    ]

pub place_not_old : (size : Sizes) (done : List Intent) (q : List ℕ) (j : ℕ)
    → is_place size done q j ≡ true → latest size done q j Old ≡ Old → ⊥
place_not_old size done q j place e = not_old size done q j Old (inr place) e

-- a sector that isn't the last one is as in the end, once it is named
pub latest_new : (size : Sizes) (done : List Intent) (q : List ℕ) (j : ℕ) (which : Which)
    → is_last (size q) j ≡ false → (which ≡ New) ⊎ (is_place size done q j ≡ true)
    → latest size done q j which ≡ New
latest_new size [] q j which off h =
    ⊎_elim (λ (e : which ≡ New). e) (λ (p : false ≡ true). absurd (let x : ⊥ = cc in x)) h
latest_new size (t ∷ done) q j which off h =
    elim (cases_Bool (names size t q j)) [
      | inl here ↦
          let clean : is_dirty t ≡ false = (named_fills size t q j off here).1 in
          rw (here, clean) (latest_new size done q j New off (inl refl))
      | inr apart ↦
          rw apart (latest_new size done q j which off (rest_named size t done q j apart h))
    ]

abbrev pub any_claims : Sizes → List Intent → List ℕ → ℕ → Bool
any_claims size ts q j = list_any (λ t. claims size t q j) ts

-- if it is new, one claimed
pub new_claimed : (size : Sizes) (done : List Intent) (q : List ℕ) (j : ℕ) (which : Which)
    → latest size done q j which ≡ New → (which ≡ New) ⊎ (any_claims size done q j ≡ true)
new_claimed size [] q j which e = inl e
new_claimed size (t ∷ done) q j which e =
    elim (cases_Bool (names size t q j)) [
      | inl here ↦ elim (cases_Bool (is_dirty t)) [
        | inl dirty ↦
            let f : latest size done q j Dirt ≡ New = rw (here, dirty) at e in
            ⊎_elim (λ (x : Dirt ≡ New). absurd (let n : ⊥ = cc in n)) later
            (new_claimed size done q j Dirt f)
        | inr clean ↦ inr (or_left (claims size t q j) (any_claims size done q j)
            (rw (here, clean) refl))
      ]
      | inr off ↦
          let f : latest size done q j which ≡ New = rw off at e in
          ⊎_elim (λ (x : which ≡ New). inl x) later (new_claimed size done q j which f)
    ]
  where
    later : {A : Type 0} → any_claims size done q j ≡ true
        → A ⊎ (any_claims size (t ∷ done) q j ≡ true)
    later x = inr (or_right (claims size t q j) (any_claims size done q j) x)

-- if it is dirt, a Dirty named it
pub dirt_marked : (size : Sizes) (done : List Intent) (q : List ℕ) (j : ℕ) (which : Which)
    → latest size done q j which ≡ Dirt → (which ≡ Dirt)
    ⊎ ((list_any (is_dirty_of q) done ≡ true) × (is_last (size q) j ≡ true))
dirt_marked size [] q j which e = inl e
dirt_marked size (t ∷ done) q j which e =
    elim (cases_Bool (names size t q j)) [
      | inl here ↦ elim (cases_Bool (is_dirty t)) [
        | inl dirty ↦ inr (
          or_left (is_dirty_of q t) (list_any (is_dirty_of q) done)
              (dirty_is_of size t q j dirty here),
          dirty_last size t q j dirty here,
        )
        | inr clean ↦
            let f : latest size done q j New ≡ Dirt = rw (here, clean) at e in
            ⊎_elim (λ (x : New ≡ Dirt). absurd (let n : ⊥ = cc in n)) later
            (dirt_marked size done q j New f)
      ]
      | inr off ↦
          let f : latest size done q j which ≡ Dirt = rw off at e in
          ⊎_elim (λ (x : which ≡ Dirt). inl x) later (dirt_marked size done q j which f)
    ]
  where
    later : {A : Type 0} → (list_any (is_dirty_of q) done ≡ true) × (is_last (size q) j ≡ true)
        → A ⊎ ((list_any (is_dirty_of q) (t ∷ done) ≡ true) × (is_last (size q) j ≡ true))
    later m = inr (or_right (is_dirty_of q t) (list_any (is_dirty_of q) done) m.0, m.1)

-- no dirt is left in the end
pub no_dirt : (size : Sizes) (ts : List Intent) → LeaveNoDirt ts → (q : List ℕ) (j : ℕ)
    → is_last (size q) j ≡ true → (which : Which) → latest size ts q j which ≡ Dirt
    → (which ≡ Dirt) × (list_any (is_meta_of q) ts ≡ false)
no_dirt size [] clean q j last which e = (e, refl)
no_dirt size (t ∷ ts) clean q j last which e =
    elim (cases_Bool (names size t q j)) [
      | inl here ↦ elim (cases_Bool (is_dirty t)) [
        | inl dirty ↦
            let f : latest size ts q j Dirt ≡ Dirt = rw (here, dirty) at e in
            not_both (list_any (is_meta_of q) ts)
            (clean.0 q (dirty_is_of size t q j dirty here))
            (no_dirt size ts clean.1 q j last Dirt f).1
        | inr neat ↦
            let f : latest size ts q j New ≡ Dirt = rw (here, neat) at e in
            let g : New ≡ Dirt = (no_dirt size ts clean.1 q j last New f).0 in
            absurd (let z : ⊥ = cc in z)
      ]
      | inr off ↦
          let f : latest size ts q j which ≡ Dirt = rw off at e in
          let r = no_dirt size ts clean.1 q j last which f in (
            r.0,
            elim (cases_Bool (is_meta_of q t)) [
              | inl m ↦ not_both (names size t q j) (meta_names size t q j m last) off
              | inr n ↦ rw (n, r.1) refl
            ],
          )
    ]
