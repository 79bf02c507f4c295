-- What an intent of the list says and lays, after those that are done before it.
use Rattle.gm_apply.proofs.Common.{◌≡◌, ◌∙◌, inl, inr, ℕ, ◌≤◌, ◌<◌, ◌+◌, ◌&&◌, List, [], ◌∷◌, ◌++◌, Bool, true, false, refl, sym, ap, subst, arith, nat_le, nat_lt, length, take, drop, get_or, take-append-drop, IsSome, cases_Bool, nat_tests, take_more, drop_more, Image, Sizes, Same, label_tells, zeros, encoded, View, From, Intent, Meta, Clear, Copy, Dirty, Patch, Has, not_both, Has-append_right, Records, dirty_metadata, is_last, copies, names, is_place, Says, Lends, IsRedo, IsMeta, IsDirt, LeaveNoDirt, place_more, last_named, with_places, IsPartlyDone, CrashLeaves, PlacesAreNew, Moments, Lays, IsLaid}
use Rattle.gm_apply.proofs.UnderWay.{laid_in, laid_out}
use Rattle.gm_apply.proofs.Reached.{Which, Old, Dirt, New, latest, IsValue, IsReached, latest_off, latest_new, place_not_old, no_dirt}
use Rattle.gm_apply.proofs.Steps.{Reaches, IsAim, step_done, step_moments}

pub copy_range : (s t : List ℕ) (a b : ℕ) (q : List ℕ) (j : ℕ) → copies (Copy s t a b) q j ≡ true
    → (a ≤ j) × (j < b)
copy_range s t a b q j e =
    elim (label_tells t q) [
      | inr other ↦ (let h = rw other.0 at e in cc)
      | inl same ↦
          let h : (nat_le a j && nat_lt j b) ≡ true = rw same.0 at e in
          within h
    ]
  where
    within : (nat_le a j && nat_lt j b) ≡ true → (a ≤ j) × (j < b)
    within h = (grind (arith, nat_tests), grind (arith, nat_tests))

-- the dirt if a Dirty names the sector, which says the metadata in the end
abbrev dirt_at : (s : Records) (p x : List ℕ) (named : Bool) → (named ≡ true → IsMeta s p x)
    → List ℕ
dirt_at s p x true says = encoded (dirty_metadata (says refl).0 (says refl).1)
dirt_at s p x false says = zeros

is_dirt : (s : Records) (p x : List ℕ) (named : Bool) (says : named ≡ true → IsMeta s p x)
    → named ≡ true → IsDirt s p (dirt_at s p x named says)
is_dirt s p x true says e = let h = says refl in (h.0, h.1, h.2, h.3, refl)
is_dirt s p x false says e = cc

-- what the intent says where it names sectors
abbrev AreSaid : Records → List (List ℕ) → Sizes → Image → Intent → Type 0
AreSaid s bytes size w t = (q : List ℕ) (j : ℕ) → names size t q j ≡ true
    → Says s bytes w t j (w q j)

module _ (s : Records) (bytes : List (List ℕ)) (size : Sizes) (w : Image) where
  -- what the intent lays on the way to w
  abbrev aim : (t : Intent) → AreSaid s bytes size w t → Image
  aim (Meta p) says q j = w q j
  aim (Clear p) says q j = w q j
  aim (Copy source target first end) says q j = w q j
  aim (Dirty p) says q j = dirt_at s p (w q j) (names size (Dirty p) q j) (says q j)
  aim (Patch p first end) says q j = w q j

  is_aim : (t : Intent) (says : AreSaid s bytes size w t) → IsAim s size t w (aim t says)
  is_aim (Meta p) says q j e d = refl
  is_aim (Clear p) says q j e d = refl
  is_aim (Copy source target first end) says q j e d = refl
  is_aim (Dirty p) says q j e d =
      subst (λ (n : List ℕ). IsDirt s n (aim (Dirty p) says q j)) (last_named size p q j e).0
      (is_dirt s p (w q j) (names size (Dirty p) q j) (says q j) e)
  is_aim (Patch p first end) says q j e d = refl

  -- one step: done, then t, and then the rest
  module _ (done : List Intent) (t : Intent) (rest : List Intent) (now : Image)
      (redo : IsRedo s bytes size (done ++ t ∷ rest) now w) where
    pub has_t : Has (done ++ t ∷ rest) t
    has_t = Has-append_right done (t ∷ rest) t (inl refl)

    abbrev pub aim_here : Image
    aim_here = aim t (redo.says t has_t)

    pub is_aim_here : IsAim s size t w aim_here
    is_aim_here = is_aim t (redo.says t has_t)

    -- what the intent lays on the way
    pub laid_here : (mid : Image) → IsReached s size done w now mid
        → IsLaid s bytes size t mid aim_here
    laid_here mid so_far q j named = on_the_way t (redo.says t has_t) (redo.lends t has_t) named
      where
        early : (p : List ℕ) (k : ℕ) → is_place size (done ++ t ∷ rest) p k ≡ false
            → is_place size done p k ≡ false
        early p k off =
            elim (cases_Bool (is_place size done p k)) [
              | inl e ↦ not_both (is_place size (done ++ t ∷ rest) p k)
                  (place_more size done (t ∷ rest) p k e) off
              | inr e ↦ e
            ]

        outside : (p : List ℕ) → IsSome (size p) → (k : ℕ)
            → is_place size (done ++ t ∷ rest) p k ≡ false → w p k ≡ mid p k
        outside p there k off =
            let still : mid p k ≡ now p k = subst (λ (c : Which). IsValue s w now p k (mid p k) c)
            (latest_off size done p k Old (early p k off)) (so_far p k) in
            sym (still ∙ redo.agrees p there k off)

        on_the_way : (u : Intent) (says : AreSaid s bytes size w u)
            → Lends size (done ++ t ∷ rest) u → names size u q j ≡ true
            → Lays s bytes mid u j (aim u says q j)
        on_the_way (Meta p) says lends e = says q j e
        on_the_way (Clear p) says lends e = says q j e
        on_the_way (Copy source target a b) says lends e =
            let range = copy_range source target a b q j e in
            says q j e ∙ outside source lends.0 j (lends.1 j range.0 range.1)
        on_the_way (Dirty p) says lends e =
            is_dirt s p (w q j) (names size (Dirty p) q j) (says q j) e
        on_the_way (Patch p a b) says lends e = says q j e

-- an item of the list, between those before it and those after it
pub split_at : (ts : List Intent) (k : ℕ) (t : Intent) → t ≡ get_or ts k t → k < length ts
    → ts ≡ take k ts ++ t ∷ drop (k + 1) ts
split_at ts k t is within =
    sym (take-append-drop k ts) ∙ ap (λ (l : List Intent). take k ts ++ l)
    (drop_more ts k t within ∙ ap (λ (i : Intent). i ∷ drop (k + 1) ts) (sym is))

pub has_index : (ts : List Intent) (k : ℕ) (t : Intent) → t ≡ get_or ts k t → k < length ts
    → Has ts t
has_index ts k t is within =
    subst (λ (l : List Intent). Has l t) (sym (split_at ts k t is within))
    (Has-append_right (take k ts) (t ∷ drop (k + 1) ts) t (inl refl))

-- the same at an index
module _ (s : Records) (bytes : List (List ℕ)) (size sizes : Sizes) (same : size ≡ sizes)
    (ts : List Intent) (k : ℕ) (t : Intent) (is : t ≡ get_or ts k t) (w : Image)
    (old mid new : View) (within : k < length ts)
    (so_far : Reaches s sizes (take k ts) w old mid)
    (redo : IsRedo s bytes sizes ts old.seen w) where
  pub split : ts ≡ take k ts ++ t ∷ drop (k + 1) ts
  split = split_at ts k t is within

  pub redo_split : IsRedo s bytes sizes (take k ts ++ t ∷ drop (k + 1) ts) old.seen w
  redo_split = subst (λ (l : List Intent). IsRedo s bytes sizes l old.seen w) split redo

  -- what the intent lays
  abbrev index_aim : Image
  index_aim = aim_here s bytes sizes w (take k ts) t (drop (k + 1) ts) old.seen redo_split

  index_laid : IsLaid s bytes size t mid.seen index_aim
  index_laid q j named =
      laid_here s bytes sizes w (take k ts) t (drop (k + 1) ts) old.seen redo_split mid.seen
      so_far.seen q j (subst (λ (z : Sizes). names z t q j ≡ true) same named)

  aims : IsAim s sizes t w index_aim
  aims = is_aim_here s bytes sizes w (take k ts) t (drop (k + 1) ts) old.seen redo_split

  pub index_done : ((v : Image) → IsLaid s bytes size t mid.seen v
      → PlacesAreNew (names size t) v mid new) → Reaches s sizes (take (k + 1) ts) w old new
  index_done step =
      subst (λ (l : List Intent). Reaches s sizes l w old new)
      (sym (take_more ts k t within ∙ ap (λ (i : Intent). take k ts ++ i ∷ []) (sym is)))
      (step_done s sizes (take k ts) t (drop (k + 1) ts) w index_aim aims old mid new so_far
      (subst (λ (z : Sizes). PlacesAreNew (names z t) index_aim mid new) same
      (step index_aim index_laid)))

  pub index_moments :
      CrashLeaves old mid (λ x. From old.may_leave (λ d. IsPartlyDone s sizes ts w d x))
      → ((v : Image) → IsLaid s bytes size t mid.seen v → Moments (names size t) v mid new)
      → CrashLeaves old new (λ x. From old.may_leave (λ d. IsPartlyDone s sizes ts w d x))
  index_moments moments step =
      subst (λ (l : List Intent). CrashLeaves old new
      (λ x. From old.may_leave (λ d. IsPartlyDone s sizes l w d x))) (sym split)
      (step_moments s sizes (take k ts) t (drop (k + 1) ts) w index_aim aims old mid new so_far
      (subst (λ (l : List Intent). CrashLeaves old mid
      (λ x. From old.may_leave (λ d. IsPartlyDone s sizes l w d x))) split moments)
      (subst (λ (z : Sizes). Moments (names z t) index_aim mid new) same
      (step index_aim index_laid)))

-- ---- before the first of them, and after the last

-- when all is done, no dirt is left
pub places_new : (s : Records) (size : Sizes) (ts : List Intent) (w : Image) (old new : View)
    → LeaveNoDirt ts → Reaches s size ts w old new → PlacesAreNew (is_place size ts) w old new
places_new s size ts w old new clean reaches = record {
  seen = laid old.seen new.seen reaches.seen;
  left = λ x left. let from = reaches.left x left in (from.0, from.1, laid from.0 x from.2);
}
  where
    named : (d x : Image) (q : List ℕ) (j : ℕ) → is_place size ts q j ≡ true
        → is_last (size q) j ≡ true → (c : Which) → latest size ts q j Old ≡ c
        → IsValue s w d q j (x q j) c → x q j ≡ w q j
    named d x q j place last Old is v = absurd (place_not_old size ts q j place is)
    named d x q j place last Dirt is v =
        let f : Old ≡ Dirt = (no_dirt size ts clean q j last Old is).0 in
        absurd (let z : ⊥ = cc in z)
    named d x q j place last New is v = v

    laid : (d x : Image) → IsReached s size ts w d x → Same x (with_places (is_place size ts) w d)
    laid d x reached q j =
        elim (cases_Bool (is_place size ts q j)) [
          | inr off ↦ subst (λ (c : Which). IsValue s w d q j (x q j) c)
              (latest_off size ts q j Old off) (reached q j)
              ∙ sym (laid_out (is_place size ts) w d q j off)
          | inl place ↦
              elim (cases_Bool (is_last (size q) j)) [
                | inl last ↦ named d x q j place last (latest size ts q j Old) refl (reached q j)
                | inr other ↦ subst (λ (c : Which). IsValue s w d q j (x q j) c)
                    (latest_new size ts q j Old other (inr place)) (reached q j)
              ]
              ∙ sym (laid_in (is_place size ts) w d q j place)
        ]
