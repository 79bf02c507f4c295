-- What stays of the pending intents.
use Rattle.gm_bench.proofs.Common.{◌≡◌, ◌≢◌, ◌∙◌, ◌⊎◌, inl, inr, ⊎_elim, ℕ, ◌≤◌, ◌||◌, Bool, true, false, refl, sym, ap, subst, arith, List, [], ◌∷◌, ◌++◌, length, filter, list_any, cases_Bool, and_parts, or_left, or_parts, or_right, Sizes, same_label, Intent, Meta, Clear, Copy, Dirty, Patch, Component, Has, is_last, is_dirty_of, is_meta_of, copies, names, any_copies, is_place, is_copy, is_patch, is_fill_of, IsOfRange, StandsBetween, AreOrdered, AreOrderedFrom, not_both, same_from, same_is, differ, copied_by, or_true, place_from, placed_by, metas, writes_to, redirected, remaining}
use Rattle.gm_bench.proofs.LossLists.{or_none}

module _ (p next : List ℕ) where
  -- each that stays was one that doesn't write to p
  pub has_remaining : (ts : List Intent) (t : Intent) → Has (remaining p next ts) t
      → (r : Intent) × Has ts r × (writes_to p r ≡ false) × (redirected p next r ≡ t)
  has_remaining [] t h = absurd h
  has_remaining (r ∷ rs) t h =
      elim (cases_Bool (writes_to p r)) [
        | inl e ↦ (let k : Has (remaining p next rs) t = rw e at h in
            let i = has_remaining rs t k in (i.0, inr i.1, i.2, i.3))
        | inr e ↦
            let k : (redirected p next r ≡ t) ⊎ Has (remaining p next rs) t = rw e at h in
            ⊎_elim (λ (s : redirected p next r ≡ t). (r, inl refl, e, s))
            (λ (g : Has (remaining p next rs) t). let i = has_remaining rs t g in
            (i.0, inr i.1, i.2, i.3)) k
      ]

  pub remaining_has : (ts : List Intent) (r : Intent) → Has ts r → writes_to p r ≡ false
      → Has (remaining p next ts) (redirected p next r)
  remaining_has [] r h e = absurd h
  remaining_has (x ∷ xs) r (inl s) e = let f : writes_to p x ≡ false = ap (writes_to p) s ∙ e in
      rw f (inl (ap (redirected p next) s))
  remaining_has (x ∷ xs) r (inr h) e =
      elim (cases_Bool (writes_to p x)) [
        | inl t ↦ rw t (remaining_has xs r h e)
        | inr t ↦ rw t (inr (remaining_has xs r h e))
      ]

  -- it names the same sectors, and copies to the same
  pub same_names : (size : Sizes) (t : Intent) (q : List ℕ) (j : ℕ)
      → names size (redirected p next t) q j ≡ names size t q j
  same_names size (Meta a) q j = refl
  same_names size (Clear a) q j = refl
  same_names size (Dirty a) q j = refl
  same_names size (Patch a b c) q j = refl
  same_names size (Copy s t a b) q j =
      elim (cases_Bool (same_label s p)) [ inl e ↦ rw e refl | inr e ↦ rw e refl ]

  pub same_copies : (t : Intent) (q : List ℕ) (j : ℕ)
      → copies (redirected p next t) q j ≡ copies t q j
  same_copies (Meta a) q j = refl
  same_copies (Clear a) q j = refl
  same_copies (Dirty a) q j = refl
  same_copies (Patch a b c) q j = refl
  same_copies (Copy s t a b) q j =
      elim (cases_Bool (same_label s p)) [ inl e ↦ rw e refl | inr e ↦ rw e refl ]

  same_copy : (t : Intent) → is_copy (redirected p next t) ≡ is_copy t
  same_copy (Meta a) = refl
  same_copy (Clear a) = refl
  same_copy (Dirty a) = refl
  same_copy (Patch a b c) = refl
  same_copy (Copy s t a b) =
      elim (cases_Bool (same_label s p)) [ inl e ↦ rw e refl | inr e ↦ rw e refl ]

  same_fill : (q : List ℕ) (t : Intent) → is_fill_of q (redirected p next t) ≡ is_fill_of q t
  same_fill q (Meta a) = refl
  same_fill q (Clear a) = refl
  same_fill q (Copy s t a b) =
      elim (cases_Bool (same_label s p)) [ inl e ↦ rw e refl | inr e ↦ rw e refl ]
  same_fill q (Dirty a) = refl
  same_fill q (Patch a b c) = refl

  same_of : (q : List ℕ) (t : Intent) → is_meta_of q (redirected p next t) ≡ is_meta_of q t
  same_of q (Meta a) = refl
  same_of q (Clear a) = refl
  same_of q (Copy s t a b) =
      elim (cases_Bool (same_label s p)) [ inl e ↦ rw e refl | inr e ↦ rw e refl ]
  same_of q (Dirty a) = refl
  same_of q (Patch a b c) = refl

  same_dirty : (q : List ℕ) (t : Intent) → is_dirty_of q (redirected p next t) ≡ is_dirty_of q t
  same_dirty q (Meta a) = refl
  same_dirty q (Clear a) = refl
  same_dirty q (Copy s t a b) =
      elim (cases_Bool (same_label s p)) [ inl e ↦ rw e refl | inr e ↦ rw e refl ]
  same_dirty q (Dirty a) = refl
  same_dirty q (Patch a b c) = refl

  same_patch : (t : Intent) → is_patch (redirected p next t) ≡ is_patch t
  same_patch (Meta a) = refl
  same_patch (Clear a) = refl
  same_patch (Copy s t a b) =
      elim (cases_Bool (same_label s p)) [ inl e ↦ rw e refl | inr e ↦ rw e refl ]
  same_patch (Dirty a) = refl
  same_patch (Patch a b c) = refl

  -- what names a sector of another provider doesn't write to p
  pub names_other : (size : Sizes) (t : Intent) (q : List ℕ) (j : ℕ) → q ≢ p
      → names size t q j ≡ true → writes_to p t ≡ false
  names_other size (Meta a) q j d e = let h = and_parts (same_label a q) (is_last (size q) j) e in
      differ a p (λ s. d (sym (same_is a q h.0) ∙ s))
  names_other size (Clear a) q j d e = let h = and_parts (same_label a q) (is_last (size q) j) e in
      differ a p (λ s. d (sym (same_is a q h.0) ∙ s))
  names_other size (Copy s t a b) q j d e = let h = and_parts (same_label t q) _ e in
      differ t p (λ s. d (sym (same_is t q h.0) ∙ s))
  names_other size (Dirty a) q j d e = let h = and_parts (same_label a q) (is_last (size q) j) e in
      differ a p (λ s. d (sym (same_is a q h.0) ∙ s))
  names_other size (Patch a b c) q j d e = let h = and_parts (same_label a q) _ e in
      differ a p (λ s. d (sym (same_is a q h.0) ∙ s))

  -- and what doesn't write to p names none of its sectors
  pub names_none : (size : Sizes) (t : Intent) (j : ℕ) → writes_to p t ≡ false
      → names size t p j ≡ false
  names_none size (Meta a) j e = rw e refl
  names_none size (Clear a) j e = rw e refl
  names_none size (Copy s t a b) j e = rw e refl
  names_none size (Dirty a) j e = rw e refl
  names_none size (Patch a b c) j e = rw e refl

  pub place_stays : (size : Sizes) (ts : List Intent) (q : List ℕ) (j : ℕ) → q ≢ p
      → is_place size ts q j ≡ true → is_place size (remaining p next ts) q j ≡ true
  place_stays size ts q j d e =
      let by = placed_by size ts q j e in
      place_from size (remaining p next ts) (redirected p next by.0) q j
      (remaining_has ts by.0 by.1 (names_other size by.0 q j d by.2))
      (same_names size by.0 q j ∙ by.2)

  -- what is copied still was copied before, and not to p
  pub copied_before : (ts : List Intent) (q : List ℕ) (j : ℕ)
      → any_copies (remaining p next ts) q j ≡ true
      → (r : Intent) × Has ts r × (writes_to p r ≡ false) × (copies r q j ≡ true)
  copied_before ts q j e =
      let by = copied_by (remaining p next ts) q j e in
      let was = has_remaining ts by.0 by.1 in (
        was.0,
        was.1,
        was.2,
        sym (same_copies was.0 q j)
            ∙ (ap (λ (t : Intent). copies t q j) was.3 ∙ by.2),
      )

  few_copies : (ts : List Intent)
      → length (filter is_copy (remaining p next ts)) ≤ length (filter is_copy ts)
  few_copies [] = omega arith
  few_copies (t ∷ ts) =
      let rest : length (filter is_copy (remaining p next ts)) ≤ length (filter is_copy ts) =
      few_copies ts in
      elim (cases_Bool (writes_to p t)) [
        | inl e ↦ elim (cases_Bool (is_copy t)) [
          | inl c ↦ rw (e, c) (omega (arith, rest))
          | inr c
              ↦ rw (e, c) rest
        ]
        | inr e ↦ elim (cases_Bool (is_copy t)) [
          | inl c ↦ (let d : is_copy (redirected p next t) ≡ true = same_copy t ∙ c in
              rw (e, c, d) (omega (arith, rest)))
          | inr c ↦ (let d : is_copy (redirected p next t) ≡ false = same_copy t ∙ c in
              rw (e, c, d) rest)
        ]
      ]

  -- what no intent is none that stays is
  none_stays : (f : Intent → Bool) → ((t : Intent) → f (redirected p next t) ≡ f t)
      → (ts : List Intent) → list_any f ts ≡ false → list_any f (remaining p next ts) ≡ false
  none_stays f same [] e = refl
  none_stays f same (t ∷ ts) e =
      let parts = or_parts (f t) (list_any f ts) e in
      let rest = none_stays f same ts parts.1 in
      elim (cases_Bool (writes_to p t)) [
        | inl w ↦ rw w rest
        | inr w ↦ rw w (or_none (f (redirected p next t)) _ (same t ∙ parts.0) rest)
      ]

  -- one that doesn't write to p stays
  some_stays : (f : Intent → Bool) → ((t : Intent) → f (redirected p next t) ≡ f t)
      → ((t : Intent) → f t ≡ true → writes_to p t ≡ false) → (ts : List Intent)
      → list_any f ts ≡ true → list_any f (remaining p next ts) ≡ true
  some_stays f same off [] e = e
  some_stays f same off (t ∷ ts) e =
      ⊎_elim
      (λ (h : f t ≡ true).
      let w : writes_to p t ≡ false = off t h in
      rw w (or_left (f (redirected p next t)) _ (same t ∙ h)))
      (λ (h : list_any f ts ≡ true).
      let rest = some_stays f same off ts h in
      elim (cases_Bool (writes_to p t)) [
        | inl w ↦ rw w rest
        | inr w ↦ rw w (or_right (f (redirected p next t)) _ rest)
      ])
      (or_true (f t) (list_any f ts) e)

  -- a Meta and a Dirty of another provider than p don't write to p
  meta_off : (q : List ℕ) → q ≢ p → (t : Intent) → is_meta_of q t ≡ true → writes_to p t ≡ false
  meta_off q d (Meta a) h = differ a p (λ s. d (sym (same_is a q h) ∙ s))
  meta_off q d (Clear a) h = cc
  meta_off q d (Copy s t a b) h = cc
  meta_off q d (Dirty a) h = cc
  meta_off q d (Patch a b c) h = cc

  dirty_off : (q : List ℕ) → q ≢ p → (t : Intent) → is_dirty_of q t ≡ true → writes_to p t ≡ false
  dirty_off q d (Meta a) h = cc
  dirty_off q d (Clear a) h = cc
  dirty_off q d (Copy s t a b) h = cc
  dirty_off q d (Dirty a) h = differ a p (λ s. d (sym (same_is a q h) ∙ s))
  dirty_off q d (Patch a b c) h = cc

  remaining_append : (xs : List Intent) (t : Intent) → writes_to p t ≡ false
      → remaining p next (xs ++ t ∷ []) ≡ remaining p next xs ++ redirected p next t ∷ []
  remaining_append [] t w = rw w refl
  remaining_append (x ∷ xs) t w =
      elim (cases_Bool (writes_to p x)) [
        | inl e ↦ rw e (remaining_append xs t w)
        | inr e ↦ rw e (ap (λ (l : List Intent). redirected p next x ∷ l) (remaining_append xs t w))
      ]

  remaining_drop : (xs : List Intent) (t : Intent) → writes_to p t ≡ true
      → remaining p next (xs ++ t ∷ []) ≡ remaining p next xs
  remaining_drop [] t w = rw w refl
  remaining_drop (x ∷ xs) t w =
      elim (cases_Bool (writes_to p x)) [
        | inl e ↦ rw e (remaining_drop xs t w)
        | inr e ↦ rw e (ap (λ (l : List Intent). redirected p next x ∷ l) (remaining_drop xs t w))
      ]

  -- ---- with the Metas after them

  metas_none : (f : Intent → Bool) → ((q : List ℕ) → f (Meta q) ≡ false) → (ks : List Component)
      → list_any f (metas ks) ≡ false
  metas_none f off [] = refl
  metas_none f off (k ∷ ks) = rw (off k.provider) (metas_none f off ks)

  metas_ordered : (earlier : List Intent) (ks : List Component)
      → AreOrderedFrom earlier (metas ks)
  metas_ordered earlier [] = tt
  metas_ordered earlier (k ∷ ks) = (
    metas_none (is_fill_of k.provider) (λ q. refl) ks,
    metas_ordered (earlier ++ Meta k.provider ∷ []) ks,
  )

  any_append : {X : Type 0} (f : X → Bool) (xs ys : List X)
      → list_any f (xs ++ ys) ≡ (list_any f xs || list_any f ys)
  any_append f [] ys = refl
  any_append f (x ∷ xs) ys = ap (λ (b : Bool). f x || b) (any_append f xs ys)
      ∙ assoc (f x) (list_any f xs) (list_any f ys)
    where
      assoc : (a b c : Bool) → (a || (b || c)) ≡ ((a || b) || c)
      assoc true b c = refl
      assoc false b c = refl

  module _ (ks : List Component) where
    abbrev behind : List Intent → List Intent
    behind ts = remaining p next ts ++ metas ks

    none_behind : (f : Intent → Bool) → ((t : Intent) → f (redirected p next t) ≡ f t)
        → ((q : List ℕ) → f (Meta q) ≡ false) → (ts : List Intent) → list_any f ts ≡ false
        → list_any f (behind ts) ≡ false
    none_behind f same off ts e = any_append f (remaining p next ts) (metas ks)
        ∙ or_none _ _ (none_stays f same ts e) (metas_none f off ks)

    apart : (q : List ℕ) → same_label q p ≡ false → q ≢ p
    apart q off s = not_both (same_label q p) (same_from q p s) off

    meta_behind : (q : List ℕ) (ts : List Intent) → same_label q p ≡ false
        → list_any (is_meta_of q) ts ≡ true → list_any (is_meta_of q) (behind ts) ≡ true
    meta_behind q ts off e = any_append (is_meta_of q) (remaining p next ts) (metas ks)
        ∙ or_left _ _ (some_stays (is_meta_of q) (same_of q) (meta_off q (apart q off)) ts e)

    stands_behind : (earlier : List Intent) (t : Intent) (ts : List Intent)
        → writes_to p t ≡ false → StandsBetween earlier t ts
        → StandsBetween (remaining p next earlier) (redirected p next t) (behind ts)
    stands_behind earlier (Meta a) ts w stands =
        none_behind (is_fill_of a) (same_fill a) (λ q. refl) ts stands
    stands_behind earlier (Clear a) ts w stands = tt
    stands_behind earlier (Copy s t a b) ts w stands =
        let meta = meta_behind t ts w stands in
        elim (cases_Bool (same_label s p)) [ inl e ↦ rw e meta | inr e ↦ rw e meta ]
    stands_behind earlier (Dirty a) ts w stands = meta_behind a ts w stands
    stands_behind earlier (Patch a b c) ts w stands = (
      some_stays (is_dirty_of a) (same_dirty a) (dirty_off a (apart a w)) earlier stands.0,
      meta_behind a ts w stands.1,
    )

    order_behind : (earlier ts : List Intent) → AreOrderedFrom earlier ts
        → AreOrderedFrom (remaining p next earlier) (behind ts)
    order_behind earlier [] o = metas_ordered (remaining p next earlier) ks
    order_behind earlier (t ∷ ts) o =
        let rest = order_behind (earlier ++ t ∷ []) ts o.1 in
        elim (cases_Bool (writes_to p t)) [
          | inl w ↦ rw w (subst (λ (l : List Intent). AreOrderedFrom l (behind ts))
              (remaining_drop earlier t w) rest)
          | inr w ↦ rw w (
            stands_behind earlier t ts w o.0,
            subst (λ (l : List Intent). AreOrderedFrom l (behind ts))
                (remaining_append earlier t w) rest,
          )
        ]

  pub ordered_after : (ts : List Intent) (ks : List Component) → AreOrdered ts
      → AreOrdered (remaining p next ts ++ metas ks)
  ordered_after ts ks o = order_behind ks [] ts o

  pub unpatched_after : (ts : List Intent) (ks : List Component) → list_any is_patch ts ≡ false
      → list_any is_patch (remaining p next ts ++ metas ks) ≡ false
  unpatched_after ts ks e = none_behind ks is_patch same_patch (λ q. refl) ts e

  pub uncopied_after : (ts : List Intent) (ks : List Component) → list_any is_copy ts ≡ false
      → list_any is_copy (remaining p next ts ++ metas ks) ≡ false
  uncopied_after ts ks e = none_behind ks is_copy same_copy (λ q. refl) ts e

  -- a Patch that stays goes over the same sectors
  pub range_stays : (start count : ℕ) (t : Intent) → IsOfRange start count t
      → IsOfRange start count (redirected p next t)
  range_stays start count (Meta a) r = tt
  range_stays start count (Clear a) r = tt
  range_stays start count (Copy s t a b) r =
      elim (cases_Bool (same_label s p)) [ inl e ↦ rw e tt | inr e ↦ rw e tt ]
  range_stays start count (Dirty a) r = tt
  range_stays start count (Patch a b c) r = r

  filter_append : {X : Type 0} (f : X → Bool) (xs ys : List X)
      → filter f (xs ++ ys) ≡ filter f xs ++ filter f ys
  filter_append f [] ys = refl
  filter_append f (x ∷ xs) ys =
      elim (cases_Bool (f x)) [
        | inl e
            ↦ rw e (ap (λ (l : List _). x ∷ l) (filter_append f xs ys))
        | inr e
            ↦ rw e (filter_append f xs ys)
      ]

  no_copies : (ks : List Component) → filter is_copy (metas ks) ≡ []
  no_copies [] = refl
  no_copies (k ∷ ks) = no_copies ks

  nil_right : {X : Type 0} (xs : List X) → xs ++ [] ≡ xs
  nil_right [] = refl
  nil_right (x ∷ xs) = ap (λ (l : List _). x ∷ l) (nil_right xs)

  pub one_copy_after : (ts : List Intent) (ks : List Component) → length (filter is_copy ts) ≤ 1
      → length (filter is_copy (remaining p next ts ++ metas ks)) ≤ 1
  one_copy_after ts ks few =
      let same : filter is_copy (remaining p next ts ++ metas ks)
      ≡ filter is_copy (remaining p next ts) =
      filter_append is_copy (remaining p next ts) (metas ks)
      ∙ (ap (λ (l : List Intent). filter is_copy (remaining p next ts) ++ l) (no_copies ks)
      ∙ nil_right (filter is_copy (remaining p next ts))) in
      let n : length (filter is_copy (remaining p next ts ++ metas ks))
      ≡ length (filter is_copy (remaining p next ts)) = ap length same in
      let l = few_copies ts in
      omega (arith, n, l, few)

  pub has_meta : (ks : List Component) (t : Intent) → Has (metas ks) t
      → (k : Component) × Has ks k × (Meta k.provider ≡ t)
  has_meta [] t h = absurd h
  has_meta (k ∷ ks) t (inl s) = (k, inl refl, s)
  has_meta (k ∷ ks) t (inr h) = let r = has_meta ks t h in (r.0, inr r.1, r.2)

  pub meta_has : (ks : List Component) (k : Component) → Has ks k → Has (metas ks) (Meta k.provider)
  meta_has [] k h = absurd h
  meta_has (j ∷ ks) k (inl s) = inl (ap (λ (x : Component). Meta x.provider) s)
  meta_has (j ∷ ks) k (inr h) = inr (meta_has ks k h)

  pub any_copies_metas : (xs : List Intent) (ks : List Component) (q : List ℕ) (j : ℕ)
      → any_copies (xs ++ metas ks) q j ≡ true → any_copies xs q j ≡ true
  any_copies_metas [] [] q j e = e
  any_copies_metas [] (k ∷ ks) q j e = any_copies_metas [] ks q j e
  any_copies_metas (x ∷ xs) ks q j e =
      ⊎_elim (λ (h : copies x q j ≡ true). or_left (copies x q j) (any_copies xs q j) h)
      (λ (h : any_copies (xs ++ metas ks) q j ≡ true). or_right (copies x q j)
      (any_copies xs q j) (any_copies_metas xs ks q j h))
      (or_true (copies x q j) (any_copies (xs ++ metas ks) q j) e)
