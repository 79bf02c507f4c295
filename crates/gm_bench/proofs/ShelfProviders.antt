-- The providers that are on a shelf, among all that there are.
use Rattle.gm_bench.proofs.Common.{◌≡◌, ◌∙◌, ◌⊎◌, inl, inr, ⊎_elim, ℕ, ◌≤◌, ◌<◌, ◌&&◌, Bool, true, false, List, [], ◌∷◌, Option, Some, None, refl, sym, ap, subst, if◌then◌else◌, true≢false, IsSome, IsSomeAnd, is_some, nat_le, nat_lt, ◌≢◌, list_any, cases_Bool, and_parts, or_parts, Image, Sizes, same_label, encoded, Intent, Meta, Clear, Copy, Dirty, Patch, Has, Mirror, Component, Records, IsState, name, provider, component_of, dirty_metadata, IsOf, AreThere, IsAtHand, touches, is_last, is_dirty_of, names, is_place, any_copies, IsMeta, IsDirt, Says, Lends, LeaveNoDirt, IsRedo, InOrder, AreReadable, World, Sound, present, not_both, some_any, same_is, one, meta_of_dirt, member, is_marked, Stage, Before, Marked, Behind, IsPartlyDone, in_order, AreAmong, whole, Cover}
use Rattle.gm_bench.proofs.LossReadable.{home, on_provider}

shown : (b : Bool) (o : Option ℕ) → ((if b then o else None) ≡ None) ⊎ ((if b then o else None) ≡ o)
shown true o = inr refl
shown false o = inl refl

pub masked : (w : World) (size : Sizes) → present w ≡ size → AreAmong size w.size
masked w size is q =
    subst (λ (z : Sizes). (z q ≡ None) ⊎ (z q ≡ w.size q)) is (shown (w.there q) (w.size q))

some_of : (P : ℕ → Type 0) (o : Option ℕ) → IsSomeAnd o P → IsSome o
some_of P None h = absurd h
some_of P (Some n) h = refl

module _ (size full : Sizes) (mask : AreAmong size full) where
  pub there_same : (q : List ℕ) → IsSome (size q) → size q ≡ full q
  there_same q there =
      ⊎_elim (λ (e : size q ≡ None). absurd (true≢false (sym there ∙ ap is_some e)))
      (λ (e : size q ≡ full q). e) (mask q)

  pub there_full : (q : List ℕ) → IsSome (size q) → IsSome (full q)
  there_full q there = subst (λ (o : Option ℕ). IsSome o) (there_same q there) there

  pub names_same : (t : Intent) (q : List ℕ) (j : ℕ) → IsSome (size q)
      → names size t q j ≡ names full t q j
  names_same (Meta p) q j there =
      ap (λ (o : Option ℕ). same_label p q && is_last o j) (there_same q there)
  names_same (Clear p) q j there =
      ap (λ (o : Option ℕ). same_label p q && is_last o j) (there_same q there)
  names_same (Copy s t a b) q j there = refl
  names_same (Dirty p) q j there =
      ap (λ (o : Option ℕ). same_label p q && is_last o j) (there_same q there)
  names_same (Patch p a b) q j there = refl

  last_up : (o r : Option ℕ) (j : ℕ) → (o ≡ None) ⊎ (o ≡ r) → is_last o j ≡ true
      → is_last r j ≡ true
  last_up o r j (inl e) l =
      let f : is_last None j ≡ true = subst (λ (x : Option ℕ). is_last x j ≡ true) e l in cc
  last_up o r j (inr e) l = subst (λ (x : Option ℕ). is_last x j ≡ true) e l

  last_named : (p q : List ℕ) (j : ℕ) → (same_label p q && is_last (size q) j) ≡ true
      → (same_label p q && is_last (full q) j) ≡ true
  last_named p q j e = let parts = and_parts (same_label p q) (is_last (size q) j) e in
      rw (parts.0, last_up (size q) (full q) j (mask q) parts.1) refl

  pub names_up : (t : Intent) (q : List ℕ) (j : ℕ) → names size t q j ≡ true
      → names full t q j ≡ true
  names_up (Meta p) q j e = last_named p q j e
  names_up (Clear p) q j e = last_named p q j e
  names_up (Copy s t a b) q j e = e
  names_up (Dirty p) q j e = last_named p q j e
  names_up (Patch p a b) q j e = e

  pub marked_up : (ts : List Intent) (q : List ℕ) (j : ℕ) → is_marked size ts q j ≡ true
      → is_marked full ts q j ≡ true
  marked_up ts q j e =
      let parts = and_parts (list_any (is_dirty_of q) ts) (is_last (size q) j) e in
      rw (parts.0, last_up (size q) (full q) j (mask q) parts.1) refl

  pub last_down : (q : List ℕ) → IsSome (size q) → (j : ℕ) → is_last (full q) j ≡ true
      → is_last (size q) j ≡ true
  last_down q there j e =
      subst (λ (o : Option ℕ). is_last o j ≡ true) (sym (there_same q there)) e

  pub place_same : (ts : List Intent) (q : List ℕ) (j : ℕ) → IsSome (size q)
      → is_place size ts q j ≡ is_place full ts q j
  place_same [] q j there = refl
  place_same (t ∷ ts) q j there = rw (names_same t q j there, place_same ts q j there) refl

  pub place_up : (ts : List Intent) (q : List ℕ) (j : ℕ) → is_place full ts q j ≡ false
      → is_place size ts q j ≡ false
  place_up [] q j off = refl
  place_up (t ∷ ts) q j off =
      let parts = or_parts (names full t q j) (is_place full ts q j) off in
      elim (cases_Bool (names size t q j)) [
        | inl e ↦ not_both (names full t q j) (names_up t q j e) parts.0
        | inr e ↦ rw (e, place_up ts q j parts.1) refl
      ]

-- what an intent names is there, if it is at hand
named_there : (size full : Sizes) (t : Intent) → IsAtHand size t → (q : List ℕ) (j : ℕ)
    → names full t q j ≡ true → IsSome (size q)
named_there size full (Meta p) hand q j e =
    let parts = and_parts (same_label p q) (is_last (full q) j) e in
    subst (λ (x : List ℕ). IsSome (size x)) (same_is p q parts.0) (some_of _ (size p) hand)
named_there size full (Clear p) hand q j e =
    let parts = and_parts (same_label p q) (is_last (full q) j) e in
    subst (λ (x : List ℕ). IsSome (size x)) (same_is p q parts.0) (some_of _ (size p) hand)
named_there size full (Dirty p) hand q j e =
    let parts = and_parts (same_label p q) (is_last (full q) j) e in
    subst (λ (x : List ℕ). IsSome (size x)) (same_is p q parts.0) (some_of _ (size p) hand)
named_there size full (Patch p a b) hand q j e =
    let parts = and_parts (same_label p q) (nat_le a j && nat_lt j b) e in
    subst (λ (x : List ℕ). IsSome (size x)) (same_is p q parts.0) (some_of _ (size p) hand)
named_there size full (Copy s t a b) hand q j e =
    subst (λ (x : List ℕ). IsSome (size x)) (same_is t q (first (same_label t q) _ e))
    (some_of _ (size t) hand.1)
  where
    first : (a b : Bool) → (a && b) ≡ true → a ≡ true
    first a b e = (and_parts a b e).0

-- a provider that isn't there has no place
pub away_no_place : (size full : Sizes) (ts : List Intent)
    → ((t : Intent) → Has ts t → IsAtHand size t) → (q : List ℕ) → is_some (size q) ≡ false
    → (j : ℕ) → is_place full ts q j ≡ false
away_no_place size full [] hand q gone j = refl
away_no_place size full (t ∷ ts) hand q gone j =
    elim (cases_Bool (names full t q j)) [
      | inl e ↦ not_both (is_some (size q)) (named_there size full t (hand t (inl refl)) q j e) gone
      | inr e ↦ rw (e, away_no_place size full ts (λ r h. hand r (inr h)) q gone j) refl
    ]

touched_there : (size : Sizes) (t : Intent) → IsAtHand size t → (q : List ℕ) → touches q t ≡ true
    → IsSome (size q)
touched_there size (Meta p) hand q e =
    subst (λ (x : List ℕ). IsSome (size x)) (same_is p q e) (some_of _ (size p) hand)
touched_there size (Clear p) hand q e =
    subst (λ (x : List ℕ). IsSome (size x)) (same_is p q e) (some_of _ (size p) hand)
touched_there size (Dirty p) hand q e =
    subst (λ (x : List ℕ). IsSome (size x)) (same_is p q e) (some_of _ (size p) hand)
touched_there size (Patch p a b) hand q e =
    subst (λ (x : List ℕ). IsSome (size x)) (same_is p q e) (some_of _ (size p) hand)
touched_there size (Copy s t a b) hand q e =
    elim (cases_Bool (same_label s q)) [
      | inl h ↦ subst (λ (x : List ℕ). IsSome (size x)) (same_is s q h) (some_of _ (size s) hand.0)
      | inr h ↦ (let g : same_label t q ≡ true = rw h at e in
          subst (λ (x : List ℕ). IsSome (size x)) (same_is t q g) (some_of _ (size t) hand.1))
    ]

-- the components that the intents read or write are there with their sizes
pub are_there : (w : World) (size : Sizes) (ts : List Intent) → Sound w → AreAmong size w.size
    → ((t : Intent) → Has ts t → IsAtHand size t) → AreThere w.state ts size
are_there w size ts sound mask hand m k o touched =
    let some = some_any (touches k.provider) ts touched in
    let there : IsSome (size k.provider) =
    touched_there size some.0 (hand some.0 some.1) k.provider some.2 in
    there_same size w.size mask k.provider there ∙ sound.sizes m k o

-- all components have their sizes
pub have_sizes : (w : World) (ts : List Intent) → Sound w → AreThere w.state ts w.size
have_sizes w ts sound m k o touched = sound.sizes m k o

pub order_of : (w : World) (bytes : List (List ℕ)) (size : Sizes) (ts : List Intent) → Sound w
    → AreReadable w.state bytes ts → AreThere w.state ts size → InOrder size ts
order_of w bytes size ts sound readable there =
    in_order w.state size sound.state ts there ts readable.each (λ t h. h) readable.ordered

-- ---- images

pub whole_there : (size : Sizes) (away x : Image) (q : List ℕ) → IsSome (size q) → (j : ℕ)
    → whole size away x q j ≡ x q j
whole_there size away x q there j = rw there refl

pub whole_away : (size : Sizes) (away x : Image) (q : List ℕ) → is_some (size q) ≡ false → (j : ℕ)
    → whole size away x q j ≡ away q j
whole_away size away x q gone j = rw gone refl

module _ (part s : Records) (size full : Sizes) (mask : AreAmong size full) (ts : List Intent)
    (cover : Cover part s ts) (hand : (t : Intent) → Has ts t → IsAtHand size t)
    (away x w : Image) where
  meta_down : (p : List ℕ) → Has ts (Meta p) → (v : List ℕ) → IsMeta s p v → IsMeta part p v
  meta_down p h v says =
      (says.0, says.1, cover.metas p h says.0 says.1 says.2 says.3, says.3, says.4)

  says_down : (bytes : List (List ℕ)) → LeaveNoDirt ts → (t : Intent) → Has ts t → (j : ℕ)
      (v : List ℕ) → Says s bytes w t j v → Says part bytes w t j v
  says_down bytes clean (Meta p) h j v says = meta_down p h v says
  says_down bytes clean (Clear p) h j v says = says
  says_down bytes clean (Copy a b c d) h j v says = says
  says_down bytes clean (Dirty p) h j v says = meta_down p (meta_of_dirt ts clean p h) v says
  says_down bytes clean (Patch p a b) h j v says = says

  lends_down : (t : Intent) → Has ts t → Lends full ts t → Lends size ts t
  lends_down (Meta p) h l = tt
  lends_down (Clear p) h l = tt
  lends_down (Copy a b c d) h l = (
    some_of _ (size a) (hand (Copy a b c d) h).0,
    λ j low high. place_up size full mask ts a j (l.1 j low high),
  )
  lends_down (Dirty p) h l = tt
  lends_down (Patch p a b) h l = tt

  -- what all providers lead to, those of the shelf lead to
  pub redo_down : (bytes : List (List ℕ)) → IsRedo s bytes full ts (whole size away x) w
      → IsRedo part bytes size ts x w
  redo_down bytes redo = record {
    says = λ t h q j e. says_down bytes redo.clean t h j (w q j)
        (redo.says t h q j (names_up size full mask t q j e));
    lends = λ t h. lends_down t h (redo.lends t h);
    clean = redo.clean;
    agrees = λ q there j off. sym (whole_there size away x q there j)
        ∙ redo.agrees q (there_full size full mask q there) j
        (sym (place_same size full mask ts q j there) ∙ off);
  }

-- dirt by a part of the records is dirt by all of them, if a Meta of its provider is pending
module _ (part s : Records) (state : IsState s) (ts : List Intent) (cover : Cover part s ts)
    (clean : LeaveNoDirt ts)
    (known : (p : List ℕ) → Has ts (Meta p) → component_of s p ≢ None) where
  dirt_of : (p : List ℕ) → Has ts (Meta p) → (v : List ℕ) → IsDirt part p v → IsDirt s p v
  dirt_of p h v dirt =
      let on = on_provider s p (known p h) in
      let k : Component = on.0 in
      let at = home s state k on.1 in
      let here : IsOf part at.0 k = cover.metas p h at.0 k at.1 on.2 in
      let mine = member part at.0.name k here.component in
      let its = member part dirt.0.name dirt.1 dirt.2.component in
      let one_is : dirt.1 ≡ k =
      one provider part.components cover.state.components_in_order dirt.1 k its.0 mine.0
      (dirt.3 ∙ sym on.2) in
      let home_is : dirt.0 ≡ at.0 =
      one name part.mirrors cover.state.mirrors_in_order dirt.0 at.0 dirt.2.mirror here.mirror
      (sym its.1 ∙ (ap (λ (c : Component). c.mirror) one_is ∙ mine.1)) in (
        at.0,
        k,
        at.1,
        on.2,
        subst (λ (c : Component). v ≡ encoded (dirty_metadata at.0 c)) one_is
            (subst (λ (n : Mirror). v ≡ encoded (dirty_metadata n dirt.1)) home_is dirt.4),
      )

  pub dirt_up : (p : List ℕ) → list_any (is_dirty_of p) ts ≡ true → (v : List ℕ)
      → IsDirt part p v → IsDirt s p v
  dirt_up p marked v dirt =
      let by = some_any (is_dirty_of p) ts marked in
      dirt_of p (meta_of_dirt ts clean p (subst (λ (t : Intent). Has ts t) (dirty_is by.0 by.2)
      by.1)) v dirt
    where
      dirty_is : (t : Intent) → is_dirty_of p t ≡ true → t ≡ Dirty p
      dirty_is (Meta q) e = cc
      dirty_is (Clear q) e = cc
      dirty_is (Copy f q a b) e = cc
      dirty_is (Dirty q) e = ap Dirty (same_is q p e)
      dirty_is (Patch q a b) e = cc

  module _ (size full : Sizes) (mask : AreAmong size full) (away w d x : Image) where
    -- the same of what is on the shelf, if the others are as they were
    same_up : (q : List ℕ) → IsSome (size q) → (j : ℕ) → x q j ≡ d q j
        → whole size away x q j ≡ whole size away d q j
    same_up q there j e = whole_there size away x q there j
        ∙ (e ∙ sym (whole_there size away d q there j))

    new_up : (q : List ℕ) → IsSome (size q) → (j : ℕ) → x q j ≡ w q j
        → whole size away x q j ≡ w q j
    new_up q there j e = whole_there size away x q there j ∙ e

    marked_dirt : (q : List ℕ) → IsSome (size q) → (j : ℕ) → list_any (is_dirty_of q) ts ≡ true
        → IsDirt part q (x q j) → IsDirt s q (whole size away x q j)
    marked_dirt q there j marked dirt =
        subst (λ (v : List ℕ). IsDirt s q v) (sym (whole_there size away x q there j))
        (dirt_up q marked (x q j) dirt)

    gone_same : (q : List ℕ) → is_some (size q) ≡ false → (j : ℕ)
        → whole size away x q j ≡ whole size away d q j
    gone_same q gone j = whole_away size away x q gone j ∙ sym (whole_away size away d q gone j)

    stage_up : (p : List ℕ) → IsSome (size p) → Stage part size ts w d x p
        → Stage s full ts w (whole size away d) (whole size away x) p
    stage_up p there (Before old) = Before (record {
      each = λ j. ⊎_elim (λ (e : x p j ≡ d p j). inl (same_up p there j e))
          (λ (e : (any_copies ts p j ≡ true) × (x p j ≡ w p j)). inr (e.0, new_up p there j e.1))
          (old.each j);
      last = λ j last. same_up p there j (old.last j (last_down size full mask p there j last));
    })
    stage_up p there (Marked dirt) = Marked (record {
      by = dirt.by;
      last = λ j last. marked_dirt p there j dirt.by
          (dirt.last j (last_down size full mask p there j last));
    })
    stage_up p there (Behind new) = Behind (record {
      last = λ j last. new_up p there j (new.last j (last_down size full mask p there j last));
      there = λ j filled. new_up p there j (new.there j filled);
    })

    -- what is partly done on the shelf is so of all providers
    pub partly_up : (InOrder full ts → InOrder size ts) → IsPartlyDone part size ts w d x
        → IsPartlyDone s full ts w (whole size away d) (whole size away x)
    partly_up down done = record {
      mix = λ q j. elim (cases_Bool (is_some (size q))) [
        | inr gone ↦ inl (gone_same q gone j)
        | inl there ↦ ⊎_elim
            (λ (e : x q j ≡ d q j). inl (same_up q there j e))
            (λ (h : ((is_place size ts q j ≡ true) × (x q j ≡ w q j))
            ⊎ ((is_marked size ts q j ≡ true) × IsDirt part q (x q j))).
            inr (⊎_elim
            (λ (e : (is_place size ts q j ≡ true) × (x q j ≡ w q j)). inl (
              sym (place_same size full mask ts q j there) ∙ e.0,
              new_up q there j e.1,
            ))
            (λ (e : (is_marked size ts q j ≡ true) × IsDirt part q (x q j)). inr (
              marked_up size full mask ts q j e.0,
              marked_dirt q there j (and_parts (list_any (is_dirty_of q) ts) (is_last (size q) j)
                  e.0).0 e.1,
            ))
            h))
            (done.mix q j)
      ];
      ordered = λ order p. elim (cases_Bool (is_some (size p))) [
        | inr gone ↦ Before (record {
          each = λ j. inl (gone_same p gone j);
          last = λ j last. gone_same p gone j;
        })
        | inl there ↦ stage_up p there (done.ordered (down order) p)
      ];
    }

-- what is at hand on a shelf is so among all providers
pub at_hand_up : (size full : Sizes) → AreAmong size full → (t : Intent) → IsAtHand size t
    → IsAtHand full t
at_hand_up size full mask (Meta p) hand =
    subst (λ (o : Option ℕ). IsSomeAnd o (λ n. 0 < n))
    (there_same size full mask p (some_of _ (size p) hand)) hand
at_hand_up size full mask (Clear p) hand =
    subst (λ (o : Option ℕ). IsSomeAnd o (λ n. 0 < n))
    (there_same size full mask p (some_of _ (size p) hand)) hand
at_hand_up size full mask (Dirty p) hand =
    subst (λ (o : Option ℕ). IsSomeAnd o (λ n. 0 < n))
    (there_same size full mask p (some_of _ (size p) hand)) hand
at_hand_up size full mask (Patch p x y) hand =
    subst (λ (o : Option ℕ). IsSomeAnd o (λ n. y ≤ n))
    (there_same size full mask p (some_of _ (size p) hand)) hand
at_hand_up size full mask (Copy a b x y) hand = (
  subst (λ (o : Option ℕ). IsSomeAnd o (λ n. y ≤ n))
      (there_same size full mask a (some_of _ (size a) hand.0)) hand.0,
  subst (λ (o : Option ℕ). IsSomeAnd o (λ n. y ≤ n))
      (there_same size full mask b (some_of _ (size b) hand.1)) hand.1,
)
