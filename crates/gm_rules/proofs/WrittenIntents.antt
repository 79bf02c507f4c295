-- The intents that a command writes: what they are, and what they bring.
use Rattle.gm_rules.proofs.Common.{◌≡◌, ◌≢◌, ◌∙◌, ◌⊎◌, inl, inr, ⊎_elim, ℕ, ◌+◌, ◌-◌, ◌<◌, ◌≤◌, ◌&&◌, true, false, refl, sym, ap, subst, arith, List, [], ◌∷◌, ◌++◌, length, filter, find, map, Option, Some, None, nat_le, nat_lt, eqb-true, eq-eqb, IsSomeAnd, slice_get, list_any, cases_Bool, and_parts, le-leb, lt-ltb, ne_eqb, or_parts, or-false, Image, same_label, AreSectors, Intent, Meta, Clear, Dirty, Patch, Mirror, Component, InSync, Has, Ascends, Records, held_by, members, provider, mirror_of, is_active, IsOf, is_last, is_meta_of, any_copies, copies, is_place, IsAtHand, is_copy, is_patch, is_fill_of, IsCopyWithin, IsPatchWithin, IsOfRange, AreOrdered, AreOrderedFrom, AreOfOnePatch, World, Below, present, active_is, without_patch, copied_at, place_from, present_size, some_and, mirror_found, metas, same_is, same_from, same_refl, same_tells, differ, one, Has-filter, Has-map, map-Has, filter-Has, Ascends-filter, any_from, any_none, some_any, found_none, not_both, Has-append_left, Has-append_right}
use Rattle.std.proofs.lemmas.Option.{slice_get-get_or}
use Rattle.gm_rules.proofs.LaidIntents.{patchings, each_laid, laid_there, no_copy, copies_none, laid_ordered}
use Rattle.gm_rules.proofs.PlanOf.{Fill, Nothing, Copied, Laid, Stretch, IsLent, IsLaid, CanFill, bytes_in, clears_then, copying, is_filled, with_filled, written}
use Rattle.gm_rules.proofs.TurnedMirror.{Turns, in_order, in_s, here, rules_of}

-- ---- last sectors

pub last_at : (o : Option ℕ) (n : ℕ) → o ≡ Some n → 0 < n → is_last o (n - 1) ≡ true
last_at None n e l = cc
last_at (Some k) n e l = let h : k ≡ n = cc in eq-eqb k (n - 1 + 1) (omega arith)

pub not_last : (o : Option ℕ) (n i : ℕ) → o ≡ Some n → i + 1 < n → is_last o i ≡ false
not_last None n i e l = cc
not_last (Some k) n i e l = let h : k ≡ n = cc in ne_eqb k (i + 1) (λ (x : k ≡ i + 1). omega arith)

pub last_is : (o : Option ℕ) (n j : ℕ) → o ≡ Some n → is_last o j ≡ true → j + 1 ≡ n
last_is None n j e l = cc
last_is (Some k) n j e l = let h : k ≡ n = cc in let i : k ≡ j + 1 = eqb-true k (j + 1) l in
    omega arith

append_or : {X : Type 0} (xs ys : List X) (x : X) → Has (xs ++ ys) x → Has xs x ⊎ Has ys x
append_or [] ys x h = inr h
append_or (y ∷ xs) ys x (inl e) = inl (inl e)
append_or (y ∷ xs) ys x (inr h) =
    ⊎_elim (λ (i : Has xs x). inl (inr i)) (λ (i : Has ys x). inr i) (append_or xs ys x h)

-- ---- the intents after the copy

-- intents that bring no data
record AreStill (ts : List Intent) : Type 0 where
  copies_none : (q : List ℕ) (i : ℕ) → any_copies ts q i ≡ false
  none_to : (p : List ℕ) → list_any (is_fill_of p) ts ≡ false
  no_copy : filter is_copy ts ≡ []
  no_patch : list_any is_patch ts ≡ false
  ordered : (earlier : List Intent) → AreOrderedFrom earlier ts

still : (gone : List (List ℕ)) (told : List Component) → AreStill (clears_then gone told)
still [] [] = record {
  copies_none = λ q i. refl;
  none_to = λ p. refl;
  no_copy = refl;
  no_patch = refl;
  ordered = λ earlier. tt;
}
still [] (k ∷ told) = let rest = still [] told in
    record {
      copies_none = rest.copies_none;
      none_to = rest.none_to;
      no_copy = rest.no_copy;
      no_patch = rest.no_patch;
      ordered = λ earlier.
          (rest.none_to k.provider, rest.ordered (earlier ++ Meta k.provider ∷ []));
    }
still (p ∷ gone) told = let rest = still gone told in
    record {
      copies_none = rest.copies_none;
      none_to = rest.none_to;
      no_copy = rest.no_copy;
      no_patch = rest.no_patch;
      ordered = λ earlier. (tt, rest.ordered (earlier ++ Clear p ∷ []));
    }

module _ (gone : List (List ℕ)) (told : List Component) where
  -- what holds of Clear of those that are gone, and of Meta of those that are told, holds of each
  still_each : (P : Intent → Type 0) → ((q : List ℕ) → Has gone q → P (Clear q))
      → ((k : Component) → Has told k → P (Meta k.provider)) → (t : Intent)
      → Has (clears_then gone told) t → P t
  still_each P clear tell t h =
      ⊎_elim
      (λ (i : Has (map (λ q. Clear q) gone) t).
      let r = Has-map (λ (q : List ℕ). Clear q) gone t i in subst P r.2 (clear r.0 r.1))
      (λ (i : Has (metas told) t).
      let r = Has-map (λ (k : Component). Meta k.provider) told t i in subst P r.2 (tell r.0 r.1))
      (append_or (map (λ q. Clear q) gone) (metas told) t h)

  meta_in : (k : Component) → Has told k → Has (clears_then gone told) (Meta k.provider)
  meta_in k h = Has-append_right (map (λ q. Clear q) gone) (metas told) (Meta k.provider)
      (map-Has (λ (j : Component). Meta j.provider) told k h)

  clear_in : (q : List ℕ) → Has gone q → Has (clears_then gone told) (Clear q)
  clear_in q h = Has-append_left (map (λ q. Clear q) gone) (metas told) (Clear q)
      (map-Has (λ (q : List ℕ). Clear q) gone q h)

  -- so of all that is written, if it holds of the copy, and of what lays sectors
  pub each : (fill : Fill) (P : Intent → Type 0)
      → ((x : Stretch) → fill ≡ Copied x → P (copying x))
      → ((first : ℕ) (sectors : List (List ℕ)) → fill ≡ Laid first sectors → (k : Component)
      → Has told k → P (Dirty k.provider) × P (Patch k.provider first (first + length sectors)))
      → ((q : List ℕ) → Has gone q → P (Clear q))
      → ((k : Component) → Has told k → P (Meta k.provider)) → (t : Intent)
      → Has (written fill gone told) t → P t
  each Nothing P copied laid clear tell t h = still_each P clear tell t h
  each (Copied x) P copied laid clear tell t (inl e) = subst P e (copied x refl)
  each (Copied x) P copied laid clear tell t (inr h) = still_each P clear tell t h
  each (Laid first sectors) P copied laid clear tell t h =
      each_laid first (first + length sectors) P told
      (λ k i. let r = laid first sectors refl k i in (r.0, r.1, tell k i)) t h

  pub meta_there : (fill : Fill) (k : Component) → Has told k
      → Has (written fill gone told) (Meta k.provider)
  meta_there Nothing k h = meta_in k h
  meta_there (Copied x) k h = inr (meta_in k h)
  meta_there (Laid first sectors) k h = (laid_there first (first + length sectors) told k h).1

  pub clear_there : (u : World) (m : Mirror) (ks : List Component) (fill : Fill)
      → CanFill u m ks told gone fill → (q : List ℕ) → Has gone q
      → Has (written fill gone told) (Clear q)
  clear_there u m ks Nothing can q h = clear_in q h
  clear_there u m ks (Copied x) can q h = inr (clear_in q h)
  clear_there u m ks (Laid first sectors) can q h =
      absurd (subst (λ (l : List (List ℕ)). Has l q) can.none_gone h)

-- ---- what is brought

-- the sectors of a stretch: they are the data of the mirror, and no last ones
pub record IsBrought (u : World) (mid : Image) (s : Records) (x : Stretch) : Type 0 where
  pub same : (j : ℕ) → x.first ≤ j → j < x.end → mid x.target j ≡ mid x.source j
  pub target : (j : ℕ) → x.first ≤ j → j < x.end → is_last (u.size x.target) j ≡ false
  pub source : (j : ℕ) → x.first ≤ j → j < x.end → is_last (u.size x.source) j ≡ false
  pub within : IsCopyWithin s x.source x.target x.first x.end
  pub at_hand : IsAtHand (present u) (copying x)

-- sectors that are laid over those of component k: they are data of an ACTIVE one, and no last ones
pub record IsLaidOn (u : World) (mid : Image) (s : Records) (k : Component) (first : ℕ)
    (sectors : List (List ℕ)) : Type 0 where
  pub active : k.disk ≡ InSync
  pub laid : (j : ℕ) → first ≤ j → j < first + length sectors
      → slice_get sectors (j - first) ≡ Some (mid k.provider j)
  pub inner : (j : ℕ) → j < first + length sectors → is_last (u.size k.provider) j ≡ false
  pub within : IsPatchWithin s k.provider first (first + length sectors)
  pub at_hand : IsAtHand (present u) (Patch k.provider first (first + length sectors))

-- mid is the image with the data brought, ts are the intents
pub record Brings (u : World) (ks : List Component) (s : Records) (fill : Fill)
    (told : List Component) (mid : Image) (ts : List Intent) : Type 0 where
  pub each : (x : Stretch) → fill ≡ Copied x → IsBrought u mid s x
  pub laid : (first : ℕ) (sectors : List (List ℕ)) → fill ≡ Laid first sectors → (k : Component)
      → Has told k → IsLaidOn u mid s k first sectors
  pub sectors : AreSectors (bytes_in fill)
  pub one_copy : length (filter is_copy ts) ≤ 1
  pub one_patch : AreOfOnePatch (bytes_in fill) ts
  pub ordered : AreOrdered ts
  pub untouched : (q : List ℕ) → find (λ k. same_label k.provider q) ks ≡ None → (j : ℕ)
      → mid q j ≡ u.shelf q j
  pub kept : (q : List ℕ) (j : ℕ) → is_filled fill told q j ≡ false → mid q j ≡ u.shelf q j
  pub named : (q : List ℕ) (j : ℕ) → is_place u.size ts q j ≡ false
      → is_filled fill told q j ≡ false
  -- if data are copied to a component of before, none are laid
  pub mirrored : (a : Mirror) (k : Component) → IsOf u.state a k → (i : ℕ)
      → any_copies ts k.provider i ≡ true → (bytes_in fill ≡ [])
      × (is_last (u.size k.provider) i ≡ false) × (mid k.provider i ≡ u.holds a.name i)
      × (mirror_of s a.name ≢ None)

nothing : (u : World) (ks : List Component) (s : Records) (gone : List (List ℕ))
    (told : List Component) → Brings u ks s Nothing told u.shelf (written Nothing gone told)
nothing u ks s gone told = let rest = still gone told in
    record {
      each = λ x e. absurd (let f : ⊥ = cc in f);
      laid = λ first sectors e. absurd (let f : ⊥ = cc in f);
      sectors = λ x h. absurd h;
      one_copy = (let e : length (filter is_copy (clears_then gone told)) ≡ 0 =
          ap length rest.no_copy in omega (arith, e));
      one_patch = without_patch [] (clears_then gone told) rest.no_patch refl;
      ordered = rest.ordered [];
      untouched = λ q e j. refl;
      kept = λ q j e. refl;
      named = λ q j e. refl;
      mirrored = λ a k o i e. not_both (any_copies (clears_then gone told) k.provider i) e
          (rest.copies_none k.provider i);
    }

module _ (u : World) (m : Mirror) (ks : List Component) (list : ℕ → List ℕ) (s : Records)
    (gone : List (List ℕ)) (told : List Component) (t : Turns u.state m ks s)
    (there : (k : Component) → Has ks k → present u k.provider ≡ Some k.sectors)
    (told_are : (k : Component) → Has told k → Has ks k) where
  of_s : (k : Component) → Has ks k → IsOf s m k
  of_s k h = record {
    mirror = here u.state m ks s t k h;
    component = subst (λ (l : List Component). Has l k) (sym t.mine) h;
  }

  -- no sector of the data is a last one of a component, and each is there
  module _ (k : Component) (h : Has ks k) (end : ℕ) (most : end ≤ m.data_sectors) where
    room : m.data_sectors + 1 ≤ k.sectors
    room = (rules_of u.state m ks s t k h).sizes k h

    inner : (j : ℕ) → j < end → is_last (u.size k.provider) j ≡ false
    inner j l = let size : m.data_sectors + 1 ≤ k.sectors = room in
        not_last (u.size k.provider) k.sectors j
        (present_size u k.provider k.sectors (there k h)) (omega (arith, size, most, l))

    reached : IsSomeAnd (present u k.provider) (λ n. end ≤ n)
    reached = let size : m.data_sectors + 1 ≤ k.sectors = room in
        some_and (present u k.provider) k.sectors (λ n. end ≤ n) (there k h)
        (omega (arith, size, most))

  module _ (x : Stretch) (lent : IsLent m ks told x)
      (same_data : (a : Mirror) → Has u.state.mirrors a → a.name ≡ m.name → (i : ℕ)
      → list i ≡ u.holds a.name i)
      (below : (k : Component) → Has ks k
      → Below (with_filled (Copied x) told u.shelf) list k.provider
      (held_by k.disk m.data_sectors)) where
    abbrev mid : Image
    mid = with_filled (Copied x) told u.shelf

    abbrev rest : List Intent
    rest = clears_then gone told

    behind : AreStill rest
    behind = still gone told

    to_is : Has ks lent.to
    to_is = told_are lent.to lent.to_is

    target_inner : (j : ℕ) → j < x.end → is_last (u.size x.target) j ≡ false
    target_inner = subst (λ (p : List ℕ). (j : ℕ) → j < x.end → is_last (u.size p) j ≡ false)
        lent.target_is (inner lent.to to_is x.end lent.within)

    source_inner : (j : ℕ) → j < x.end → is_last (u.size x.source) j ≡ false
    source_inner = subst (λ (p : List ℕ). (j : ℕ) → j < x.end → is_last (u.size p) j ≡ false)
        lent.source_is (inner lent.from lent.from_is x.end lent.within)

    -- a sector that is copied to
    at_target : (q : List ℕ) (j : ℕ) → copies (copying x) q j ≡ true
        → (x.target ≡ q) × (x.first ≤ j) × (j < x.end)
    at_target = copied_at x.source x.target x.first x.end

    not_last_one : (q : List ℕ) (j : ℕ) → copies (copying x) q j ≡ true
        → is_last (u.size q) j ≡ false
    not_last_one q j e = let a = at_target q j e in
        subst (λ (p : List ℕ). is_last (u.size p) j ≡ false) a.0 (target_inner j a.2)

    -- the source isn't copied to
    from_source : (j : ℕ) → mid x.source j ≡ u.shelf x.source j
    from_source j = rw (differ x.target x.source (λ e. lent.other (sym e))) refl

    -- what is copied is the data of the mirror
    brought : (q : List ℕ) (j : ℕ) → copies (copying x) q j ≡ true → mid q j ≡ list j
    brought q j e =
        let l : j < x.end = (at_target q j e).2 in
        let most : x.end ≤ m.data_sectors = lent.within in
        let low : j < held_by lent.from.disk m.data_sectors = rw lent.active (omega arith) in
        let lent_data : mid x.source j ≡ list j =
        subst (λ (p : List ℕ). mid p j ≡ list j) lent.source_is
        (below lent.from lent.from_is j low) in
        rw e (sym (from_source j) ∙ lent_data)

    one_kept : (q : List ℕ) (j : ℕ) → copies (copying x) q j ≡ false → mid q j ≡ u.shelf q j
    one_kept q j e = rw e refl

    is_brought : IsBrought u mid s x
    is_brought = record {
      same = λ j l g.
          let to : mid x.target j ≡ u.shelf x.source j =
          rw (same_refl x.target, le-leb x.first j l, lt-ltb j x.end g) refl in
          to ∙ sym (from_source j);
      target = λ j l g. target_inner j g;
      source = λ j l g. source_inner j g;
      within = record {
        mirror = m;
        to = lent.to;
        from = lent.from;
        to_is = of_s lent.to to_is;
        from_is = of_s lent.from lent.from_is;
        target_is = lent.target_is;
        source_is = lent.source_is;
        other = lent.other;
        active = lent.active;
        ordered = lent.ordered;
        within = lent.within;
      };
      at_hand = (
        subst (λ (p : List ℕ). IsSomeAnd (present u p) (λ n. x.end ≤ n)) lent.source_is
            (reached lent.from lent.from_is x.end lent.within),
        subst (λ (p : List ℕ). IsSomeAnd (present u p) (λ n. x.end ≤ n)) lent.target_is
            (reached lent.to to_is x.end lent.within),
      );
    }

    -- a component of before that is copied to is of the mirror
    own : (a : Mirror) (k : Component) → IsOf u.state a k → k.provider ≡ lent.to.provider
        → a.name ≡ m.name
    own a k o at =
        elim (same_tells a.name m.name) [
          | inl y ↦ y.1
          | inr n ↦
              let mine : Has (members s.components a.name) k =
              subst (λ (l : List Component). Has l k) (sym (t.others a.name n.1)) o.component in
              let r = Has-filter (λ (c : Component). same_label c.mirror a.name) s.components k
              mine in
              let i = in_s u.state m ks s t lent.to to_is in
              let same : k ≡ lent.to =
              one provider s.components t.state.components_in_order k lent.to r.0 i.0 at in
              sym (same_is k.mirror a.name r.1)
              ∙ ap (λ (c : Component). c.mirror) same ∙ i.1
        ]

    one_mirrored : (a : Mirror) (k : Component) → IsOf u.state a k → (i : ℕ)
        → any_copies (copying x ∷ rest) k.provider i ≡ true → (bytes_in (Copied x) ≡ [])
        × (is_last (u.size k.provider) i ≡ false) × (mid k.provider i ≡ u.holds a.name i)
        × (mirror_of s a.name ≢ None)
    one_mirrored a k o i e =
        let none = behind.copies_none k.provider i in
        let is : copies (copying x) k.provider i ≡ true =
        sym (or-false (copies (copying x) k.provider i)) ∙ rw none at e in
        let name : a.name ≡ m.name =
        own a k o (sym (at_target k.provider i is).0 ∙ sym lent.target_is) in (
          refl,
          not_last_one k.provider i is,
          brought k.provider i is ∙ same_data a o.mirror name i,
          subst (λ (n : List ℕ). mirror_of s n ≢ None) (sym name)
              (mirror_found s m (here u.state m ks s t lent.to to_is)),
        )

    one_brings : Brings u ks s (Copied x) told mid (copying x ∷ rest)
    one_brings = record {
      each = λ y e. let same : x ≡ y = cc in
          subst (λ (z : Stretch). IsBrought u mid s z) same is_brought;
      laid = λ first sectors e. absurd (let f : ⊥ = cc in f);
      sectors = λ y h. absurd h;
      one_copy = (let e : length (filter is_copy rest) ≡ 0 =
          ap length behind.no_copy in omega (arith, e));
      one_patch = without_patch [] (copying x ∷ rest) behind.no_patch refl;
      ordered = (
        any_from (is_meta_of x.target) rest (Meta lent.to.provider) (meta_in gone told lent.to
            lent.to_is) (same_from lent.to.provider x.target lent.target_is),
        behind.ordered (copying x ∷ []),
      );
      untouched = λ q none j. one_kept q j (rw (differ x.target q (λ e.
          not_both (same_label lent.to.provider q)
          (same_from lent.to.provider q (lent.target_is ∙ e))
          (found_none (λ (c : Component). same_label c.provider q) ks none lent.to to_is))) refl);
      kept = one_kept;
      named = λ q j off. (or_parts (copies (copying x) q j) (is_place u.size rest q j) off).0;
      mirrored = one_mirrored;
    }

  module _ (first : ℕ) (sectors : List (List ℕ)) (can : IsLaid u m ks told gone first sectors) where
    abbrev end : ℕ
    end = first + length sectors

    abbrev laid_image : Image
    laid_image = with_filled (Laid first sectors) told u.shelf

    abbrev laid_ts : List Intent
    laid_ts = patchings first end told

    told_active : (k : Component) → Has told k → Has ks k × (k.disk ≡ InSync)
    told_active k h =
        let r = Has-filter (λ (c : Component). is_active c.disk) ks k
        (subst (λ (l : List Component). Has l k) can.told_is h) in (r.0, active_is k.disk r.1)

    in_told : Has told can.active.0
    in_told = subst (λ (l : List Component). Has l can.active.0) (sym can.told_is)
        (filter-Has (λ (c : Component). is_active c.disk) ks can.active.0 can.active.1
        (ap is_active can.active.2))

    up : Ascends provider told
    up = subst (Ascends provider) (sym can.told_is)
        (Ascends-filter (λ (c : Component). is_active c.disk) provider ks
        (in_order u.state m ks s t))

    any_told : (q : List ℕ) → (k : Component) → Has told k → k.provider ≡ q
        → list_any (λ c. same_label c.provider q) told ≡ true
    any_told q k h e = any_from (λ (c : Component). same_label c.provider q) told k h
        (same_from k.provider q e)

    -- what is laid on a component
    laid_on : (k : Component) → Has told k → IsLaidOn u laid_image s k first sectors
    laid_on k h =
        let a = told_active k h in
        record {
          active = a.1;
          laid = λ j l g.
              let on : is_filled (Laid first sectors) told k.provider j ≡ true =
              rw (any_told k.provider k h refl, le-leb first j l, lt-ltb j end g) refl in
              slice_get-get_or sectors (j - first) [] (omega (arith, l, g)) ∙ ap Some (rw on refl);
          inner = inner k a.0 end can.within;
          within = record {
            mirror = m;
            on = k;
            on_is = of_s k a.0;
            provider_is = refl;
            active = a.1;
            ordered = (let some : 0 < length sectors = can.some in omega (arith, some));
            within = can.within;
          };
          at_hand = reached k a.0 end can.within;
        }

    one_range : AreOfOnePatch sectors laid_ts
    one_range = record {
      start = first;
      ranges = each_laid first end (IsOfRange first (length sectors)) told
          (λ k h. (tt, (refl, refl), tt));
      apart = inr (any_none is_copy laid_ts (each_laid first end (λ t. is_copy t ≡ false) told
          (λ k h. (refl, refl, refl))));
      needed = λ off. not_both (list_any is_patch laid_ts)
          (any_from is_patch laid_ts (Patch can.active.0.provider first end)
          (laid_there first end told can.active.0 in_told).0 refl) off;
    }

    laid_named : (q : List ℕ) (j : ℕ) → is_place u.size laid_ts q j ≡ false
        → is_filled (Laid first sectors) told q j ≡ false
    laid_named q j off =
        elim (cases_Bool (is_filled (Laid first sectors) told q j)) [
          | inr e ↦ e
          | inl e ↦
              let parts = and_parts (list_any (λ (c : Component). same_label c.provider q) told)
              (nat_le first j && nat_lt j end) e in
              let k = some_any (λ (c : Component). same_label c.provider q) told parts.0 in
              not_both (is_place u.size laid_ts q j)
              (place_from u.size laid_ts (Patch k.0.provider first end) q j
              (laid_there first end told k.0 k.1).0 (rw (k.2, parts.1) refl)) off
        ]

    laid_brings : Brings u ks s (Laid first sectors) told laid_image laid_ts
    laid_brings = record {
      each = λ x e. absurd (let f : ⊥ = cc in f);
      laid = λ a b e k h.
          let first_is : first ≡ a = cc in
          let bytes_are : sectors ≡ b = cc in
          subst (λ (x : ℕ). IsLaidOn u laid_image s k x b) first_is
          (subst (λ (x : List (List ℕ)). IsLaidOn u laid_image s k first x) bytes_are
          (laid_on k h));
      sectors = can.whole;
      one_copy = (let e : length (filter is_copy laid_ts) ≡ 0 =
          ap length (no_copy first end told) in omega (arith, e));
      one_patch = one_range;
      ordered = laid_ordered first end [] told up;
      untouched = λ q none j.
          let off : list_any (λ (c : Component). same_label c.provider q) told ≡ false =
          any_none (λ (c : Component). same_label c.provider q) told
          (λ k h. found_none (λ (c : Component). same_label c.provider q) ks none k
          (told_active k h).0) in
          rw off refl;
      kept = λ q j off. rw off refl;
      named = laid_named;
      mirrored = λ a k o i e. not_both (any_copies laid_ts k.provider i) e
          (copies_none first end told k.provider i);
    }

  pub brings : (fill : Fill) → CanFill u m ks told gone fill
      → (bytes_in fill ≡ [] → (a : Mirror) → Has u.state.mirrors a → a.name ≡ m.name → (i : ℕ)
      → list i ≡ u.holds a.name i)
      → ((k : Component) → Has ks k
      → Below (with_filled fill told u.shelf) list k.provider (held_by k.disk m.data_sectors))
      → Brings u ks s fill told (with_filled fill told u.shelf) (written fill gone told)
  brings Nothing can same_data below = nothing u ks s gone told
  brings (Copied x) can same_data below = one_brings x can (same_data refl) below
  brings (Laid first sectors) can same_data below = laid_brings first sectors can
