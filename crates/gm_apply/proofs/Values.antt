-- What readable intents say of one sector, and an image that they lead to.
use Rattle.gm_apply.proofs.Common.{◌≡◌, ◌∙◌, inl, inr, ⊎_elim, ℕ, ◌-◌, ◌<◌, ◌≤◌, ◌&&◌, List, [], ◌∷◌, Bool, true, false, refl, sym, ap, subst, arith, Option, None, Some, filter, length, get_or, nat_le, nat_lt, leb-true, ltb-true, if◌then◌else◌, IsSomeAnd, slice_get, list_any, cases_Bool, and_parts, or_parts, or_left, slice_get-get_or, Image, Sizes, same_label, zeros, encoded, Metadata, Intent, Meta, Clear, Copy, Dirty, Patch, Mirror, Component, Has, Records, IsState, metadata, metadata_of, component_of, IsOf, AreThere, is_last, copies, fills, names, is_place, IsMeta, Says, LeadSomewhere, is_copy, is_patch, AreReadable, found, not_both, option_cases, any_from, no_dirt_left, or_true, last_named, place_from, same_is, same_from, filter-Has, copies_kept, fills_data, lent, one_of, unpatched}
use Rattle.gm_state.specs.declared.records.Disk.TheVariants.{InSync}
use Rattle.gm_apply.proofs.Lists.{copy_range}
use Rattle.gm_apply.proofs.Written.{metadata_found}

-- the component on a provider, with its mirror
its_home : (s : Records) → IsState s → (p : List ℕ) → (component_of s p ≡ None → ⊥)
    → (m : Mirror) × (k : Component) × IsOf s m k × (k.provider ≡ p)
its_home s state p there =
    elim (option_cases (component_of s p)) [
      | inl none ↦ absurd (there none)
      | inr some ↦
          let k : Component = some.0 in
          let f = found (λ (j : Component). same_label j.provider p) s.components k some.1 in
          let home = state.homes k f.0 in
          let of : IsOf s home.0 k = record {
            mirror = home.1;
            component = filter-Has (λ (j : Component). same_label j.mirror home.0.name)
                s.components k f.0 (same_from k.mirror home.0.name (sym home.2));
          } in
          (home.0, k, of, same_is k.provider p f.1)
    ]

-- what a Meta writes by what is found
sector_for : Option Metadata → List ℕ
sector_for None = zeros
sector_for (Some d) = encoded d

-- the value that an intent says, where the shelf holds x
said : Records → List (List ℕ) → Image → Intent → ℕ → List ℕ
said s bytes x (Meta p) j = sector_for (metadata_of s p)
said s bytes x (Clear p) j = zeros
said s bytes x (Copy source target first end) j = x source j
said s bytes x (Dirty p) j = sector_for (metadata_of s p)
said s bytes x (Patch p first end) j = get_or bytes (j - first) zeros

-- the image that the intents lead to: the first that names a sector says what it holds
led : Records → List (List ℕ) → Sizes → List Intent → Image → Image
led s bytes size [] x q j = x q j
led s bytes size (t ∷ ts) x q j =
    if names size t q j then said s bytes x t j else led s bytes size ts x q j

module _ (s : Records) (bytes : List (List ℕ)) (size : Sizes) (x : Image) (q : List ℕ)
    (j : ℕ) where
  led_off : (ts : List Intent) → is_place size ts q j ≡ false → led s bytes size ts x q j ≡ x q j
  unfolding led
  led_off [] off = refl
  led_off (t ∷ ts) off = let parts = or_parts (names size t q j) (is_place size ts q j) off in
      rw parts.0 (led_off ts parts.1)

  led_at : (ts : List Intent) → is_place size ts q j ≡ true
      → (r : Intent) × Has ts r × (names size r q j ≡ true)
      × (led s bytes size ts x q j ≡ said s bytes x r j)
  unfolding led
  led_at [] e = cc
  led_at (t ∷ ts) e =
      elim (cases_Bool (names size t q j)) [
        | inl here ↦ (t, inl refl, here, rw here refl)
        | inr off ↦
            let there : is_place size ts q j ≡ true =
            ⊎_elim (λ (h : names size t q j ≡ true). not_both (names size t q j) h off)
            (λ (h : is_place size ts q j ≡ true). h)
            (or_true (names size t q j) (is_place size ts q j) e) in
            let r = led_at ts there in
            let v : led s bytes size (t ∷ ts) x q j ≡ said s bytes x r.0 j =
            skip (said s bytes x t j) off r.3 in
            (r.0, inr r.1, r.2, v)
      ]
    where
      skip : {a b : List ℕ} (c : List ℕ) {t : Bool} → t ≡ false → a ≡ b → (if t then c else a) ≡ b
      skip {a} {b} c {t} e same = subst (λ (y : Bool). (if y then c else a) ≡ b) (sym e) same

module _ (s : Records) (bytes : List (List ℕ)) (size : Sizes) (ts : List Intent)
    (state : IsState s) (readable : AreReadable s bytes ts) (there : AreThere s ts size) where
  -- what names a last sector brings no data there
  crossed : {A : Type 0} (p q : List ℕ) (j : ℕ) → (same_label p q && is_last (size q) j) ≡ true
      → (t : Intent) → Has ts t → fills t q j ≡ true → A
  crossed p q j e t h f = not_both (is_last (size q) j) (last_named size p q j e).1
      (fills_data s size state ts there t (readable.each t h) h q j f)

  -- a component isn't cleared
  not_cleared : {A : Type 0} (p p' q : List ℕ) (j : ℕ)
      → (same_label p q && is_last (size q) j) ≡ true
      → (same_label p' q && is_last (size q) j) ≡ true → (component_of s p ≡ None → ⊥)
      → component_of s p' ≡ None → A
  not_cleared p p' q j e f some none =
      absurd (some (subst (λ (n : List ℕ). component_of s n ≡ None)
      ((last_named size p' q j f).0 ∙ sym (last_named size p q j e).0) none))

  -- what is marked dirty is a component
  marked_there : (p : List ℕ) → Has ts (Dirty p) → component_of s p ≡ None → ⊥
  marked_there p h none =
      let active : IsSomeAnd (component_of s p) (λ (k : Component). k.disk ≡ InSync) =
      readable.each (Dirty p) h in
      let nowhere : IsSomeAnd None (λ (k : Component). k.disk ≡ InSync) =
      subst (λ (o : Option Component). IsSomeAnd o (λ (k : Component). k.disk ≡ InSync)) none
      active in
      nowhere

  same_meta : (p p' q : List ℕ) (j : ℕ) (v : List ℕ)
      → (same_label p q && is_last (size q) j) ≡ true
      → (same_label p' q && is_last (size q) j) ≡ true → IsMeta s p v → IsMeta s p' v
  same_meta p p' q j v e f says = (
    says.0,
    says.1,
    says.2,
    says.3 ∙ (last_named size p q j e).0 ∙ sym (last_named size p' q j f).0,
    says.4,
  )

  copy_fills : (x y : List ℕ) (a b : ℕ) (q : List ℕ) (j : ℕ) → names size (Copy x y a b) q j ≡ true
      → fills (Copy x y a b) q j ≡ true
  copy_fills x y a b q j e = or_left (copies (Copy x y a b) q j) false e

  -- nothing is patched beside a copy
  not_mixed : {A : Type 0} (x y : List ℕ) (a b : ℕ) (p : List ℕ) (a' b' : ℕ)
      → Has ts (Copy x y a b) → Has ts (Patch p a' b') → A
  not_mixed x y a b p a' b' h g =
      not_both (list_any is_patch ts) (any_from is_patch ts (Patch p a' b') g refl)
      (unpatched bytes ts readable.one_patch (Copy x y a b) h refl)

  pub same_value : (t r : Intent) (q : List ℕ) (j : ℕ) → Has ts t → Has ts r
      → names size t q j ≡ true → names size r q j ≡ true → (w : Image) (v : List ℕ)
      → Says s bytes w t j v → Says s bytes w r j v
  same_value (Meta p) (Meta p') q j h g e f w v says = same_meta p p' q j v e f says
  same_value (Meta p) (Dirty p') q j h g e f w v says = same_meta p p' q j v e f says
  same_value (Dirty p) (Meta p') q j h g e f w v says = same_meta p p' q j v e f says
  same_value (Dirty p) (Dirty p') q j h g e f w v says = same_meta p p' q j v e f says
  same_value (Clear p) (Clear p') q j h g e f w v says = says
  same_value (Meta p) (Clear p') q j h g e f w v says =
      not_cleared p p' q j e f (readable.each (Meta p) h) (readable.each (Clear p') g).1
  same_value (Dirty p) (Clear p') q j h g e f w v says =
      not_cleared p p' q j e f (marked_there p h) (readable.each (Clear p') g).1
  same_value (Clear p) (Meta p') q j h g e f w v says =
      not_cleared p' p q j f e (readable.each (Meta p') g) (readable.each (Clear p) h).1
  same_value (Clear p) (Dirty p') q j h g e f w v says =
      not_cleared p' p q j f e (marked_there p' g) (readable.each (Clear p) h).1
  same_value (Meta p) (Copy x y a b) q j h g e f w v says =
      crossed p q j e (Copy x y a b) g (copy_fills x y a b q j f)
  same_value (Clear p) (Copy x y a b) q j h g e f w v says =
      crossed p q j e (Copy x y a b) g (copy_fills x y a b q j f)
  same_value (Dirty p) (Copy x y a b) q j h g e f w v says =
      crossed p q j e (Copy x y a b) g (copy_fills x y a b q j f)
  same_value (Meta p) (Patch p' a b) q j h g e f w v says = crossed p q j e (Patch p' a b) g f
  same_value (Clear p) (Patch p' a b) q j h g e f w v says = crossed p q j e (Patch p' a b) g f
  same_value (Dirty p) (Patch p' a b) q j h g e f w v says = crossed p q j e (Patch p' a b) g f
  same_value (Copy x y a b) (Meta p) q j h g e f w v says =
      crossed p q j f (Copy x y a b) h (copy_fills x y a b q j e)
  same_value (Copy x y a b) (Clear p) q j h g e f w v says =
      crossed p q j f (Copy x y a b) h (copy_fills x y a b q j e)
  same_value (Copy x y a b) (Dirty p) q j h g e f w v says =
      crossed p q j f (Copy x y a b) h (copy_fills x y a b q j e)
  same_value (Patch p' a b) (Meta p) q j h g e f w v says = crossed p q j f (Patch p' a b) h e
  same_value (Patch p' a b) (Clear p) q j h g e f w v says = crossed p q j f (Patch p' a b) h e
  same_value (Patch p' a b) (Dirty p) q j h g e f w v says = crossed p q j f (Patch p' a b) h e
  same_value (Copy x y a b) (Copy x' y' a' b') q j h g e f w v says =
      let one : Copy x y a b ≡ Copy x' y' a' b' =
      one_of (filter is_copy ts) readable.one_copy (Copy x y a b) (Copy x' y' a' b')
      (copies_kept ts x y a b h) (copies_kept ts x' y' a' b' g) in
      subst (λ (t : Intent). Says s bytes w t j v) one says
  same_value (Copy x y a b) (Patch p a' b') q j h g e f w v says =
      not_mixed x y a b p a' b' h g
  same_value (Patch p a b) (Copy x y a' b') q j h g e f w v says =
      not_mixed x y a' b' p a b g h
  same_value (Patch p a b) (Patch p' a' b') q j h g e f w v says =
      let first = (readable.one_patch.ranges (Patch p a b) h).0 in
      let other = (readable.one_patch.ranges (Patch p' a' b') g).0 in
      subst (λ (n : ℕ). slice_get bytes (j - n) ≡ Some v) (first ∙ sym other) says

  module _ (x : Image) where
    meta_own : (p : List ℕ) (j : ℕ) → (component_of s p ≡ None → ⊥) → (v : List ℕ)
        → v ≡ sector_for (metadata_of s p) → IsMeta s p v
    unfolding sector_for
    meta_own p j there v is =
        let at = its_home s state p there in
        let d : metadata_of s p ≡ Some (metadata at.0 at.1) =
        subst (λ (n : List ℕ). metadata_of s n ≡ Some (metadata at.0 at.1)) at.3
        (metadata_found s state at.0 at.1 at.2) in
        (at.0, at.1, at.2, at.3, is ∙ ap sector_for d)

    says_own : (r : Intent) (q : List ℕ) (j : ℕ) → Has ts r → names size r q j ≡ true
        → led s bytes size ts x q j ≡ said s bytes x r j
        → Says s bytes (led s bytes size ts x) r j (led s bytes size ts x q j)
    unfolding said
    says_own (Meta p) q j h e is = meta_own p j (readable.each (Meta p) h) _ is
    says_own (Clear p) q j h e is = is
    says_own (Copy f t a b) q j h e is =
        let range = copy_range f t a b q j e in
        let off : is_place size ts f j ≡ false =
        (lent s size state ts there bytes ts (λ t g. g) readable (Copy f t a b) h).1 j range.0
        range.1 in
        is ∙ sym (led_off s bytes size x f j ts off)
    says_own (Dirty p) q j h e is = meta_own p j (marked_there p h) _ is
    says_own (Patch p a b) q j h e is =
        let range = readable.one_patch.ranges (Patch p a b) h in
        let parts = and_parts (nat_le a j) (nat_lt j b)
        (and_parts (same_label p q) (nat_le a j && nat_lt j b) e).1 in
        let from : a ≤ j = leb-true a j parts.0 in
        let below : j < b = ltb-true j b parts.1 in
        let low : j - a < length bytes = omega (arith, from, below, range.0, range.1) in
        slice_get-get_or bytes (j - a) zeros low ∙ ap Some (sym is)

    pub lead_somewhere : LeadSomewhere s bytes size ts x
    lead_somewhere = (
      led s bytes size ts x,
      record {
        says = λ t h q j e.
            let first = led_at s bytes size x q j ts (place_from size ts t q j h e) in
            same_value first.0 t q j first.1 h first.2 e (led s bytes size ts x)
            (led s bytes size ts x q j) (says_own first.0 q j first.1 first.2 first.3);
        lends = λ t h. lent s size state ts there bytes ts (λ r g. g) readable t h;
        clean = no_dirt_left [] ts readable.ordered;
        agrees = λ q some j off. sym (led_off s bytes size x q j ts off);
      },
    )
