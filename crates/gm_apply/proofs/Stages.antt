-- On the way through intents each provider is as before, dirty, or new.
use Rattle.gm_apply.proofs.Common.{◌≡◌, ◌∙◌, ◌⊎◌, inl, inr, ⊎_elim, ℕ, ◌+◌, Bool, true, false, refl, sym, ap, subst, List, [], ◌∷◌, ◌++◌, Option, Some, None, zero, suc, arith, eqb-true, append-nil, append_assoc, if◌then◌else◌, list_any, cases_Bool, Image, Sizes, Intent, Records, is_last, is_dirty, is_dirty_of, claims, names, copies, patches, fills, any_copies, any_fills, is_place, IsDirt, InOrder, InOrderFrom, Has, not_both, any_from, some_any, Has-append_left, Has-append_right, Has-push, or_true, Has-append, last_only, last_at, place_from, placed_by, place_more, copies_from, filled_by, fills_from, fills_named, named_fills, last_fills, dirty_names, dirty_is_of, dirty_last, is_marked, SomePlacesWritten, Stage, Before, Marked, Behind, IsPartlyDone}
use Rattle.gm_apply.proofs.Reached.{Which, Old, Dirt, New, latest, IsValue, IsReached, IsStepping, latest_off, latest_new, place_not_old, any_claims, new_claimed, dirt_marked}

-- ---- what the order tells

order_at : (size : Sizes) (earlier done : List Intent) (t : Intent) (rest : List Intent)
    → InOrderFrom size earlier (done ++ t ∷ rest) → InOrderFrom size (earlier ++ done) (t ∷ rest)
order_at size earlier [] t rest order =
    subst (λ (l : List Intent). InOrderFrom size l (t ∷ rest)) (sym (append-nil earlier)) order
order_at size earlier (r ∷ done) t rest order =
    subst (λ (l : List Intent). InOrderFrom size l (t ∷ rest)) (append_assoc earlier (r ∷ []) done)
    (order_at size (earlier ++ r ∷ []) done t rest order.3)

order_done : (size : Sizes) (earlier done rest : List Intent)
    → InOrderFrom size earlier (done ++ rest) → (q : List ℕ) (j : ℕ) → is_last (size q) j ≡ true
    → any_claims size done q j ≡ true → (i : ℕ) → any_fills rest q i ≡ false
order_done size earlier [] rest order q j last there i = cc
order_done size earlier (t ∷ done) rest order q j last there i =
    ⊎_elim
    (λ (h : claims size t q j ≡ true).
    elim (cases_Bool (any_fills rest q i)) [
      | inr off ↦ off
      | inl e ↦
          let by = filled_by rest q i e in
          not_both (any_fills (done ++ rest) q i)
          (fills_from (done ++ rest) by.0 q i (Has-append_right done rest by.0 by.1) by.2)
          (order.0 q j last h i)
    ])
    (λ (h : any_claims size done q j ≡ true).
    order_done size (earlier ++ t ∷ []) done rest order.3 q j last h i)
    (or_true (claims size t q j) (any_claims size done q j) there)

fills_not_last : (size : Sizes) (earlier ts : List Intent) → InOrderFrom size earlier ts
    → (t : Intent) → Has ts t → (q : List ℕ) (j : ℕ) → fills t q j ≡ true
    → is_last (size q) j ≡ false
fills_not_last size earlier [] order t h q j e = absurd h
fills_not_last size earlier (r ∷ rs) order t (inl s) q j e =
    order.1 q j (subst (λ (x : Intent). fills x q j ≡ true) (sym s) e)
fills_not_last size earlier (r ∷ rs) order t (inr h) q j e =
    fills_not_last size (earlier ++ r ∷ []) rs order.3 t h q j e

-- a Patch that is done comes after a Dirty that is done
dirty_done : (size : Sizes) (earlier done rest : List Intent)
    → InOrderFrom size earlier (done ++ rest) → (t : Intent) → Has done t → (q : List ℕ) (j : ℕ)
    → patches t q j ≡ true → list_any (is_dirty_of q) (earlier ++ done) ≡ true
dirty_done size earlier [] rest order t h q j e = absurd h
dirty_done size earlier (r ∷ done) rest order t (inl s) q j e =
    let by = some_any (is_dirty_of q) earlier
    (order.2 q j (subst (λ (x : Intent). patches x q j ≡ true) (sym s) e)) in
    any_from (is_dirty_of q) (earlier ++ r ∷ done) by.0
    (Has-append_left earlier (r ∷ done) by.0 by.1) by.2
dirty_done size earlier (r ∷ done) rest order t (inr h) q j e =
    subst (λ (l : List Intent). list_any (is_dirty_of q) l ≡ true)
    (append_assoc earlier (r ∷ []) done)
    (dirty_done size (earlier ++ r ∷ []) done rest order.3 t h q j e)

-- ---- one step

module _ (s : Records) (size : Sizes) (done : List Intent) (t : Intent) (rest : List Intent)
    (w d y x : Image) (reached : IsReached s size done w d y)
    (step : IsStepping s size t w y x) where
  abbrev all : List Intent
  all = done ++ t ∷ rest

  -- what is done, and what is under way
  abbrev begun : List Intent
  begun = done ++ t ∷ []

  has_t : Has all t
  has_t = Has-append_right done (t ∷ rest) t (inl refl)

  begun_has : (r : Intent) → Has begun r → Has all r
  begun_has r h = ⊎_elim (λ (g : Has done r). Has-append_left done (t ∷ rest) r g)
      (λ (is : t ≡ r). subst (λ (i : Intent). Has all i) is has_t) (Has-push done t r h)

  -- what the sector held before the step
  y_off : (q : List ℕ) (j : ℕ) → is_place size done q j ≡ false → y q j ≡ d q j
  y_off q j off = subst (λ (c : Which). IsValue s w d q j (y q j) c)
      (latest_off size done q j Old off) (reached q j)

  y_new : (q : List ℕ) (j : ℕ) → is_last (size q) j ≡ false → is_place size done q j ≡ true
      → y q j ≡ w q j
  y_new q j off place = subst (λ (c : Which). IsValue s w d q j (y q j) c)
      (latest_new size done q j Old off (inr place)) (reached q j)

  -- what the step lays
  abbrev IsLaidBy : List ℕ → ℕ → Type 0
  IsLaidBy q j = (names size t q j ≡ true)
      × IsValue s w y q j (x q j) (if is_dirty t then Dirt else New)

  laid_clean : (q : List ℕ) (j : ℕ) → is_dirty t ≡ false → IsLaidBy q j → x q j ≡ w q j
  laid_clean q j clean h =
      subst (λ (b : Bool). IsValue s w y q j (x q j) (if b then Dirt else New)) clean h.1

  laid_dirty : (q : List ℕ) (j : ℕ) → is_dirty t ≡ true → IsLaidBy q j → IsDirt s q (x q j)
  laid_dirty q j dirty h =
      subst (λ (b : Bool). IsValue s w y q j (x q j) (if b then Dirt else New)) dirty h.1

  -- data that the step lays are those of the end
  laid_data : (q : List ℕ) (j : ℕ) → is_last (size q) j ≡ false → IsLaidBy q j → x q j ≡ w q j
  laid_data q j off h = laid_clean q j (named_fills size t q j off h.0).1 h

  -- a Dirty that has begun to name a sector marks it
  marked : (q : List ℕ) → list_any (is_dirty_of q) begun ≡ true
      → list_any (is_dirty_of q) all ≡ true
  marked q e = let by = some_any (is_dirty_of q) begun e in
      any_from (is_dirty_of q) all by.0 (begun_has by.0 by.1) by.2

  marked_done : (q : List ℕ) (j : ℕ) → latest size done q j Old ≡ Dirt
      → (list_any (is_dirty_of q) all ≡ true) × (is_last (size q) j ≡ true)
  marked_done q j is =
      ⊎_elim (λ (n : Old ≡ Dirt). absurd (let z : ⊥ = cc in z))
      (λ (m : (list_any (is_dirty_of q) done ≡ true) × (is_last (size q) j ≡ true)).
      let by = some_any (is_dirty_of q) done m.0 in
      (any_from (is_dirty_of q) all by.0 (Has-append_left done (t ∷ rest) by.0 by.1) by.2, m.1))
      (dirt_marked size done q j Old is)

  marked_here : (q : List ℕ) (j : ℕ) → is_dirty t ≡ true → names size t q j ≡ true
      → (list_any (is_dirty_of q) all ≡ true) × (is_last (size q) j ≡ true)
  marked_here q j dirty named = (
    any_from (is_dirty_of q) all t has_t (dirty_is_of size t q j dirty named),
    dirty_last size t q j dirty named,
  )

  mixed : SomePlacesWritten s size all w d x
  mixed q j =
      ⊎_elim
      (λ (same : x q j ≡ y q j).
      elim (cases_Bool (is_place size done q j)) [
        | inl place ↦ by (latest size done q j Old) refl (reached q j) same place
        | inr off ↦ inl (same ∙ y_off q j off)
      ])
      (λ (h : IsLaidBy q j).
      elim (cases_Bool (is_dirty t)) [
        | inl dirty ↦ inr (inr (both q j (marked_here q j dirty h.0), laid_dirty q j dirty h))
        | inr clean ↦ inr (inl (place_from size all t q j has_t h.0, laid_clean q j clean h))
      ])
      (step q j)
    where
      both : (q : List ℕ) (j : ℕ) → (list_any (is_dirty_of q) all ≡ true)
          × (is_last (size q) j ≡ true) → is_marked size all q j ≡ true
      both q j m = rw (m.0, m.1) refl

      by : (c : Which) → latest size done q j Old ≡ c → IsValue s w d q j (y q j) c
          → x q j ≡ y q j → is_place size done q j ≡ true → (x q j ≡ d q j)
          ⊎ (((is_place size all q j ≡ true) × (x q j ≡ w q j))
          ⊎ ((is_marked size all q j ≡ true) × IsDirt s q (x q j)))
      by Old is v same place = inl (same ∙ v)
      by Dirt is v same place = inr (inr (
        both q j (marked_done q j is),
        subst (λ (z : List ℕ). IsDirt s q z) (sym same) v,
      ))
      by New is v same place = inr (inl (place_more size done (t ∷ rest) q j place, same ∙ v))

  module _ (order : InOrder size all) (p : List ℕ) where
    -- as soon as nothing is to be brought any more, all is there
    all_there : ((i : ℕ) → any_fills (t ∷ rest) p i ≡ false) → (j : ℕ)
        → any_fills all p j ≡ true → x p j ≡ w p j
    all_there none j e =
        let by = filled_by all p j e in
        let off = fills_not_last size [] all order by.0 by.1 p j by.2 in
        ⊎_elim
        (λ (h : Has done by.0).
        let place = place_from size done by.0 p j h (fills_named size by.0 p j by.2) in
        ⊎_elim (λ (same : x p j ≡ y p j). same ∙ y_new p j off place)
        (λ (g : IsLaidBy p j). laid_data p j off g) (step p j))
        (λ (h : Has (t ∷ rest) by.0).
        not_both (any_fills (t ∷ rest) p j) (fills_from (t ∷ rest) by.0 p j h by.2) (none j))
        (Has-append done (t ∷ rest) by.0 by.1)

    -- if no Patch has begun, what is below the last sector is the old one, or copied
    module _ (unpatched : (r : Intent) → Has begun r → (j : ℕ) → patches r p j ≡ true → ⊥) where
      copied : (r : Intent) → Has begun r → (j : ℕ) → is_last (size p) j ≡ false
          → names size r p j ≡ true → any_copies all p j ≡ true
      copied r h j off e =
          copies_from all r p j (begun_has r h)
          (⊎_elim (λ (c : copies r p j ≡ true). c)
          (λ (c : patches r p j ≡ true). absurd (unpatched r h j c))
          (or_true (copies r p j) (patches r p j) (named_fills size r p j off e).0))

      old_or_copied : (j : ℕ) → is_last (size p) j ≡ false
          → (x p j ≡ d p j) ⊎ ((any_copies all p j ≡ true) × (x p j ≡ w p j))
      old_or_copied j off =
          ⊎_elim
          (λ (e : x p j ≡ y p j).
          elim (cases_Bool (is_place size done p j)) [
            | inr none ↦ inl (e ∙ y_off p j none)
            | inl place ↦
                let by = placed_by size done p j place in
                inr (
                  copied by.0 (Has-append_left done (t ∷ []) by.0 by.1) j off by.2,
                  e ∙ y_new p j off place,
                )
          ])
          (λ (h : IsLaidBy p j). inr (
            copied t (Has-append_right done (t ∷ []) t (inl refl)) j off h.0,
            laid_data p j off h,
          ))
          (step p j)

    -- a Patch that has begun comes after a Dirty that is done
    patched_behind : (r : Intent) → Has begun r → (j : ℕ) → patches r p j ≡ true
        → list_any (is_dirty_of p) done ≡ true
    patched_behind r h j e =
        ⊎_elim (λ (g : Has done r). dirty_done size [] done (t ∷ rest) order r g p j e)
        (λ (is : t ≡ r). (order_at size [] done t rest order).2 p j
        (subst (λ (i : Intent). patches i p j ≡ true) (sym is) e)) (Has-push done t r h)

    module _ (l : ℕ) (last : is_last (size p) l ≡ true) where
      only_last : (P : ℕ → Type 0) → P l → (j : ℕ) → is_last (size p) j ≡ true → P j
      only_last P h j e = subst P (sym (last_only (size p) j l e last)) h

      -- if the last sector is the old one, no Patch has begun
      no_patch : latest size done p l Old ≡ Old → (r : Intent) → Has begun r → (j : ℕ)
          → patches r p j ≡ true → ⊥
      no_patch old r h j e =
          let by = some_any (is_dirty_of p) done (patched_behind r h j e) in
          place_not_old size done p l
          (place_from size done by.0 p l by.1 (dirty_names size by.0 p l by.2 last)) old

      before : latest size done p l Old ≡ Old → x p l ≡ y p l → Stage s size all w d x p
      before old same = Before (record {
        each = λ j. elim (cases_Bool (is_last (size p) j)) [
          | inl h ↦ inl (only_last (λ i. x p i ≡ d p i) at_last j h)
          | inr off ↦ old_or_copied (no_patch old) j off
        ];
        last = only_last (λ i. x p i ≡ d p i) at_last;
      })
        where
          at_last : x p l ≡ d p l
          at_last = same ∙ subst (λ (c : Which). IsValue s w d p l (y p l) c) old (reached p l)

      by_value : (c : Which) → latest size done p l Old ≡ c → IsValue s w d p l (y p l) c
          → x p l ≡ y p l → Stage s size all w d x p
      by_value Old is v same = before is same
      by_value Dirt is v same = Marked (record {
        by = (marked_done p l is).0;
        last = only_last (λ j. IsDirt s p (x p j))
            (subst (λ (z : List ℕ). IsDirt s p z) (sym same) v);
      })
      by_value New is v same = Behind (record {
        last = only_last (λ j. x p j ≡ w p j) (same ∙ v);
        there = all_there (λ i. ⊎_elim (λ (n : Old ≡ New). absurd (let z : ⊥ = cc in z))
            (λ (c : any_claims size done p l ≡ true).
            order_done size [] done (t ∷ rest) order p l last c i)
            (new_claimed size done p l Old is));
      })

      -- the step lays the last sector
      by_step : IsLaidBy p l → Stage s size all w d x p
      by_step h =
          elim (cases_Bool (is_dirty t)) [
            | inl dirty ↦ Marked (record {
              by = (marked_here p l dirty h.0).0;
              last = only_last (λ j. IsDirt s p (x p j)) (laid_dirty p l dirty h);
            })
            | inr clean ↦
                let here = order_at size [] done t rest order in
                let claiming : claims size t p l ≡ true = rw (clean, h.0) refl in
                let none : (i : ℕ) → any_fills (t ∷ rest) p i ≡ false =
                λ i. rw (last_fills size t p l last h.0 (here.1 p l) i, here.0 p l last claiming i)
                refl in
                Behind (record {
                  last = only_last (λ j. x p j ≡ w p j) (laid_clean p l clean h);
                  there = all_there none;
                })
          ]

      stage_at : Stage s size all w d x p
      stage_at = ⊎_elim (λ (same : x p l ≡ y p l). by_value (latest size done p l Old) refl
          (reached p l) same) by_step (step p l)

    -- a provider without a last sector
    nowhere : ((j : ℕ) → is_last (size p) j ≡ true → ⊥) → Stage s size all w d x p
    nowhere none =
        elim (cases_Bool (list_any (is_dirty_of p) begun)) [
          | inl dirty ↦
              Marked (record { by = marked p dirty; last = λ j h. absurd (none j h) })
          | inr clean ↦ Before (record {
            each = λ j. elim (cases_Bool (is_last (size p) j)) [
              | inl h ↦ absurd (none j h)
              | inr off ↦ old_or_copied (λ r h i e.
                  let by = some_any (is_dirty_of p) done (patched_behind r h i e) in
                  not_both (list_any (is_dirty_of p) begun) (any_from (is_dirty_of p) begun by.0
                  (Has-append_left done (t ∷ []) by.0 by.1) by.2) clean) j off
            ];
            last = λ j h. absurd (none j h);
          })
        ]

    stage : Stage s size all w d x p
    stage = by (size p) refl
      where
        has_last : (n : ℕ) → size p ≡ Some n → Stage s size all w d x p
        has_last zero e = nowhere (λ j h.
            let i : 0 ≡ j + 1 = eqb-true 0 (j + 1)
            (subst (λ (o : Option ℕ). is_last o j ≡ true) e h) in omega (arith, i))
        has_last (suc l) e = stage_at l (last_at (size p) l (e ∙ ap Some (omega arith)))

        by : (o : Option ℕ) → size p ≡ o → Stage s size all w d x p
        by None e = nowhere (λ j h.
            let g : is_last None j ≡ true = subst (λ (o : Option ℕ). is_last o j ≡ true) e h in
            (let z : ⊥ = cc in z))
        by (Some n) e = has_last n e

  pub partly : IsPartlyDone s size all w d x
  partly = record { mix = mixed; ordered = stage }
