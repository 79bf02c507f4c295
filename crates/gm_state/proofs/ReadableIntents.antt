-- Intents that are readable for a state are safe: their order, and what their copies lend.
use Rattle.gm_state.proofs.Common.{◌≡◌, ◌≢◌, ◌∙◌, inl, inr, ⊎_elim, ℕ, ◌+◌, ◌<◌, ◌≤◌, ◌&&◌, List, [], ◌∷◌, ◌++◌, length, filter, true, false, refl, sym, ap, subst, arith, Option, None, Some, nat_le, nat_lt, ltb-true, list_any, cases_Bool, and_parts, or_parts, or_left, or_right, Sizes, same_label, Intent, Meta, Clear, Copy, Dirty, Patch, Mirror, Component, Has, Records, IsState, provider, component_of, IsOf, AreThere, touches, is_last, is_dirty_of, claims, copies, patches, fills, names, is_place, any_fills, AllSay, Lends, InOrder, InOrderFrom, is_copy, is_patch, is_fill_of, IsCopyWithin, IsPatchWithin, IsReadable, StandsBetween, AreOrdered, AreOrderedFrom, AreOfOnePatch, AreReadable, World, Sound, CopiesData, any_from, any_none, none_any, found_none, not_both, filter-Has, same_from, same_is, one}
use Rattle.std.proofs.lemmas.Bool.Decides.{eqb_tells}
use Rattle.gm_state.specs.Disks.{held_by}
use Rattle.gm_state.proofs.Places.{or_true, last_named, placed_by, copied_at, copied_by}
use Rattle.gm_state.proofs.SoundClaims.{some_there, mirror_found}
use Rattle.gm_state.proofs.TestsTellRules.{member}

-- none brings data to p if none is a fill of it
no_fill : (ts : List Intent) (p : List ℕ) → list_any (is_fill_of p) ts ≡ false → (i : ℕ)
    → any_fills ts p i ≡ false
no_fill [] p e i = refl
no_fill (t ∷ ts) p e i =
    let parts = or_parts (is_fill_of p t) (list_any (is_fill_of p) ts) e in
    rw (off t parts.0, no_fill ts p parts.1 i) refl
  where
    off : (t : Intent) → is_fill_of p t ≡ false → fills t p i ≡ false
    off (Meta q) none = refl
    off (Clear q) none = refl
    off (Copy f q a b) none = rw none refl
    off (Dirty q) none = refl
    off (Patch q a b) none = rw none refl

-- what is filled is a component
no_component : (s : Records) (ts : List Intent) (p : List ℕ)
    → ((t : Intent) → Has ts t → IsReadable s t) → component_of s p ≡ None
    → list_any (is_fill_of p) ts ≡ false
no_component s ts p each none = any_none (is_fill_of p) ts (λ t h. off t (each t h))
  where
    apart : (m : Mirror) (k : Component) → IsOf s m k → (q : List ℕ) → k.provider ≡ q
        → same_label q p ≡ false
    apart m k o q on = subst (λ (n : List ℕ). same_label n p ≡ false) on
        (found_none (λ (j : Component). same_label j.provider p) s.components none k
        (member s m.name k o.component).0)

    off : (t : Intent) → IsReadable s t → is_fill_of p t ≡ false
    off (Meta q) r = refl
    off (Clear q) r = refl
    off (Copy f q a b) r =
        let c : IsCopyWithin s f q a b = r in apart c.mirror c.to c.to_is q c.target_is
    off (Dirty q) r = refl
    off (Patch q a b) r =
        let c : IsPatchWithin s q a b = r in apart c.mirror c.on c.on_is q c.provider_is

-- sectors of the data are not the last one
data_not_last : (o : Option ℕ) (n j m : ℕ) → o ≡ Some n → m + 1 ≤ n → j < m → is_last o j ≡ false
data_not_last None n j m e room low = cc
data_not_last (Some x) n j m e room low =
    let h : x ≡ n = cc in
    elim (eqb_tells x (j + 1)) [
      | inl y ↦ absurd (let f : ⊥ = omega (arith, h, y.1) in
          f)
      | inr y ↦ y.0
    ]

pub one_of : {X : Type 0} (xs : List X) → length xs ≤ 1 → (a b : X) → Has xs a → Has xs b → a ≡ b
one_of [] few a b h g = absurd h
one_of (x ∷ []) few a b (inl h) (inl g) = sym h ∙ g
one_of (x ∷ []) few a b (inl h) (inr g) = absurd g
one_of (x ∷ []) few a b (inr h) g = absurd h
one_of (x ∷ y ∷ xs) few a b h g = absurd (let f : ⊥ = omega (arith, few) in f)

pub copies_kept : (ts : List Intent) (s t : List ℕ) (a b : ℕ) → Has ts (Copy s t a b)
    → Has (filter is_copy ts) (Copy s t a b)
copies_kept ts s t a b h = filter-Has is_copy ts (Copy s t a b) h refl

-- nothing is patched beside a copy
pub unpatched : (bytes : List (List ℕ)) (ts : List Intent) → AreOfOnePatch bytes ts → (t : Intent)
    → Has ts t → is_copy t ≡ true → list_any is_patch ts ≡ false
unpatched bytes ts one t h e =
    ⊎_elim (λ (none : list_any is_patch ts ≡ false). none)
    (λ (none : list_any is_copy ts ≡ false).
    not_both (is_copy t) e (none_any is_copy ts none t h)) one.apart

module _ (s : Records) (size : Sizes) (state : IsState s) (all : List Intent)
    (there : AreThere s all size) where
  -- what a readable copy writes and reads are data
  module _ (f t : List ℕ) (a b : ℕ) (c : IsCopyWithin s f t a b)
      (among : Has all (Copy f t a b)) where
    target_size : size t ≡ Some c.to.sectors
    target_size = subst (λ (q : List ℕ). size q ≡ Some c.to.sectors) c.target_is
        (there c.mirror c.to c.to_is (any_from (touches c.to.provider) all (Copy f t a b) among
        (or_right (same_label f c.to.provider) (same_label t c.to.provider)
        (same_from t c.to.provider (sym c.target_is)))))

    pub source_size : size f ≡ Some c.from.sectors
    source_size = subst (λ (q : List ℕ). size q ≡ Some c.from.sectors) c.source_is
        (there c.mirror c.from c.from_is (any_from (touches c.from.provider) all
        (Copy f t a b) among (or_left (same_label f c.from.provider)
        (same_label t c.from.provider) (same_from f c.from.provider (sym c.source_is)))))

    target_data : (j : ℕ) → j < b → is_last (size t) j ≡ false
    target_data j low =
        let room = (state.each c.mirror c.to_is.mirror).sizes c.to c.to_is.component in
        let within = c.within in
        data_not_last (size t) c.to.sectors j c.mirror.data_sectors target_size room
        (omega (arith, within, low))

    source_data : (j : ℕ) → j < b → is_last (size f) j ≡ false
    source_data j low =
        let room = (state.each c.mirror c.from_is.mirror).sizes c.from c.from_is.component in
        let within = c.within in
        data_not_last (size f) c.from.sectors j c.mirror.data_sectors source_size room
        (omega (arith, within, low))

    pub no_last : (q : List ℕ) (j : ℕ) → copies (Copy f t a b) q j ≡ true
        → is_last (size q) j ≡ false
    no_last q j e = subst (λ (p : List ℕ). is_last (size p) j ≡ false)
        (copied_at f t a b q j e).0 (target_data j (copied_at f t a b q j e).2)

  -- so are the sectors that are patched
  pub no_last_patched : (p : List ℕ) (a b : ℕ) → IsPatchWithin s p a b → Has all (Patch p a b)
      → (q : List ℕ) (j : ℕ) → patches (Patch p a b) q j ≡ true → is_last (size q) j ≡ false
  no_last_patched p a b c among q j e =
      let parts = and_parts (same_label p q) (nat_le a j && nat_lt j b) e in
      let below : j < b =
      ltb-true j b (and_parts (nat_le a j) (nat_lt j b) parts.1).1 in
      let room = (state.each c.mirror c.on_is.mirror).sizes c.on c.on_is.component in
      let within = c.within in
      let at : c.on.provider ≡ q = c.provider_is ∙ same_is p q parts.0 in
      let there_on : size c.on.provider ≡ Some c.on.sectors =
      there c.mirror c.on c.on_is (any_from (touches c.on.provider) all (Patch p a b) among
      (same_from p c.on.provider (sym c.provider_is))) in
      subst (λ (n : List ℕ). is_last (size n) j ≡ false) at
      (data_not_last (size c.on.provider) c.on.sectors j c.mirror.data_sectors there_on room
      (omega (arith, within, below)))

  -- what is brought is data
  pub fills_data : (t : Intent) → IsReadable s t → Has all t → (q : List ℕ) (j : ℕ)
      → fills t q j ≡ true → is_last (size q) j ≡ false
  fills_data (Meta p) r among q j e = cc
  fills_data (Clear p) r among q j e = cc
  fills_data (Copy f t a b) r among q j e =
      ⊎_elim (λ (h : copies (Copy f t a b) q j ≡ true). no_last f t a b r among q j h)
      (λ (h : false ≡ true). absurd (let z : ⊥ = cc in z))
      (or_true (copies (Copy f t a b) q j) false e)
  fills_data (Dirty p) r among q j e = cc
  fills_data (Patch p a b) r among q j e = no_last_patched p a b r among q j e

  -- after what claims, nothing is brought
  claims_last : (earlier : List Intent) (t : Intent) (ts : List Intent) → IsReadable s t
      → Has all t → ((r : Intent) → Has ts r → IsReadable s r) → StandsBetween earlier t ts
      → (q : List ℕ) (j : ℕ) → is_last (size q) j ≡ true → claims size t q j ≡ true → (i : ℕ)
      → any_fills ts q i ≡ false
  claims_last earlier (Meta p) ts r among each stands q j last e i =
      subst (λ (x : List ℕ). any_fills ts x i ≡ false) (last_named size p q j e).0
      (no_fill ts p stands i)
  claims_last earlier (Clear p) ts r among each stands q j last e i =
      subst (λ (x : List ℕ). any_fills ts x i ≡ false) (last_named size p q j e).0
      (no_fill ts p (no_component s ts p each r.1) i)
  claims_last earlier (Copy f t a b) ts r among each stands q j last e i =
      not_both (is_last (size q) j) last (no_last f t a b r among q j e)
  claims_last earlier (Dirty p) ts r among each stands q j last e i = cc
  claims_last earlier (Patch p a b) ts r among each stands q j last e i =
      not_both (is_last (size q) j) last (no_last_patched p a b r among q j e)

  -- a patch comes after a Dirty
  patched_behind : (earlier : List Intent) (t : Intent) (ts : List Intent)
      → StandsBetween earlier t ts → (q : List ℕ) (j : ℕ) → patches t q j ≡ true
      → list_any (is_dirty_of q) earlier ≡ true
  patched_behind earlier (Meta p) ts stands q j e = cc
  patched_behind earlier (Clear p) ts stands q j e = cc
  patched_behind earlier (Copy f t a b) ts stands q j e = cc
  patched_behind earlier (Dirty p) ts stands q j e = cc
  patched_behind earlier (Patch p a b) ts stands q j e =
      subst (λ (x : List ℕ). list_any (is_dirty_of x) earlier ≡ true)
      (same_is p q (and_parts (same_label p q) (nat_le a j && nat_lt j b) e).0) stands.0

  order_from : (earlier ts : List Intent) → ((t : Intent) → Has ts t → IsReadable s t)
      → ((t : Intent) → Has ts t → Has all t) → AreOrderedFrom earlier ts
      → InOrderFrom size earlier ts
  order_from earlier [] each among ordered = tt
  order_from earlier (t ∷ ts) each among ordered = (
    claims_last earlier t ts (each t (inl refl)) (among t (inl refl)) (λ r h. each r (inr h))
        ordered.0,
    fills_data t (each t (inl refl)) (among t (inl refl)),
    patched_behind earlier t ts ordered.0,
    order_from (earlier ++ t ∷ []) ts (λ r h. each r (inr h)) (λ r h. among r (inr h)) ordered.1,
  )

  pub in_order : (ts : List Intent) → ((t : Intent) → Has ts t → IsReadable s t)
      → ((t : Intent) → Has ts t → Has all t) → AreOrdered ts → InOrder size ts
  in_order ts each among ordered = order_from [] ts each among ordered

  -- no intent writes what a copy lends: no other copies, and none patches
  not_lent : (ts : List Intent) (f t : List ℕ) (a b : ℕ) → IsCopyWithin s f t a b
      → Has all (Copy f t a b) → ((x y : List ℕ) (z v : ℕ) → Has ts (Copy x y z v) → y ≢ f)
      → list_any is_patch ts ≡ false → (j : ℕ) → j < b → is_place size ts f j ≡ false
  not_lent ts f t a b c among other unpatched j low =
      elim (cases_Bool (is_place size ts f j)) [
        | inr off ↦ off
        | inl place ↦
            let by = placed_by size ts f j place in
            absurd (names_none by.0 by.1 by.2)
      ]
    where
      off_last : (p : List ℕ) → (same_label p f && is_last (size f) j) ≡ true → ⊥
      off_last p e = not_both (is_last (size f) j) (last_named size p f j e).1
          (source_data f t a b c among j low)

      names_none : (r : Intent) → Has ts r → names size r f j ≡ true → ⊥
      names_none (Meta p) h e = off_last p e
      names_none (Clear p) h e = off_last p e
      names_none (Copy x y z v) h e = other x y z v h (copied_at x y z v f j e).0
      names_none (Dirty p) h e = off_last p e
      names_none (Patch p z v) h e =
          let none : true ≡ false = none_any is_patch ts unpatched (Patch p z v) h in cc

  pub lent : (bytes : List (List ℕ)) (ts : List Intent) → ((t : Intent) → Has ts t → Has all t)
      → AreReadable s bytes ts → (t : Intent) → Has ts t → Lends size ts t
  lent bytes ts among readable (Meta p) h = tt
  lent bytes ts among readable (Clear p) h = tt
  lent bytes ts among readable (Copy f t a b) h = (
    some_there (size f) (readable.each (Copy f t a b) h).from.sectors
        (source_size f t a b (readable.each (Copy f t a b) h) (among (Copy f t a b) h)),
    λ j low high.
        let c : IsCopyWithin s f t a b = readable.each (Copy f t a b) h in
        not_lent ts f t a b c (among (Copy f t a b) h)
        (λ x y z v g same.
        let one : Copy x y z v ≡ Copy f t a b =
        one_of (filter is_copy ts) readable.one_copy (Copy x y z v) (Copy f t a b)
        (copies_kept ts x y z v g) (copies_kept ts f t a b h) in
        let targets : y ≡ t = cc in
        c.other (sym same ∙ targets))
        (unpatched bytes ts readable.one_patch (Copy f t a b) h refl) j high,
  )
  lent bytes ts among readable (Dirty p) h = tt
  lent bytes ts among readable (Patch p a b) h = tt

module _ (w : World) (bytes : List (List ℕ)) (size : Sizes) (ts : List Intent) (sound : Sound w)
    (readable : AreReadable w.state bytes ts) (says : AllSay w.state bytes size ts w.shelf) where
  by_copy : (m : Mirror) (k : Component) → IsOf w.state m k → (i : ℕ) (t : Intent) → Has ts t
      → copies t k.provider i ≡ true → w.shelf k.provider i ≡ w.holds m.name i
  by_copy m k o i (Meta p) h e = cc
  by_copy m k o i (Clear p) h e = cc
  by_copy m k o i (Dirty p) h e = cc
  by_copy m k o i (Patch p a b) h e = cc
  by_copy m k o i (Copy f t a b) h e =
      let c : IsCopyWithin w.state f t a b = readable.each (Copy f t a b) h in
      let at = copied_at f t a b k.provider i e in
      let within = c.within in
      let from : w.shelf k.provider i ≡ w.shelf f i = says (Copy f t a b) h k.provider i e in
      let low : i < held_by c.from.disk c.mirror.data_sectors =
      subst (λ d. i < held_by d c.mirror.data_sectors) (sym c.active)
      (omega (arith, at.2, within)) in
      let value : w.shelf c.from.provider i ≡ w.holds c.mirror.name i =
      sound.whole c.mirror c.from c.from_is i low in
      let here : k ≡ c.to = one provider w.state.components sound.state.components_in_order k c.to
      (member w.state m.name k o.component).0
      (member w.state c.mirror.name c.to c.to_is.component).0
      (sym at.0 ∙ sym c.target_is) in
      let home : c.mirror.name ≡ m.name =
      sym (member w.state c.mirror.name c.to c.to_is.component).1
      ∙ ap (λ (x : Component). x.mirror) (sym here) ∙ (member w.state m.name k o.component).1 in
      from ∙ subst (λ (q : List ℕ). w.shelf q i ≡ w.holds c.mirror.name i) c.source_is value
      ∙ ap (λ (n : List ℕ). w.holds n i) home

  pub copies_data : CopiesData w w ts
  copies_data m k o i e =
      let by = copied_by ts k.provider i e in
      (by_copy m k o i by.0 by.1 by.2, refl, mirror_found w.state m o.mirror)
