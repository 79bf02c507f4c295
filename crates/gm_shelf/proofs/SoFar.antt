-- The image of a crash on the way, provider by provider.
use Rattle.gm_shelf.proofs.Common.{◌≡◌, ◌∙◌, ◌<◌, ◌≤◌, ◌≢◌, ◌+◌, ◌⊎◌, ⊎_elim, inl, inr, ℕ, zero, suc, List, [], ◌∷◌, true, false, Option, Some, None, min, refl, sym, ap, subst, arith, length, get_or, take, Vec, vec_len, is_some, IsSome, IsSomeAnd, Contains, unwrap_or, Global, nat_cmp, eq_by_cmp, slice_cmp, get_or_default, Contains-get_or, sum_by_more, cases_lt, not_from_Decides, Label, label_tells, same_label, AreNames, IsAscending, Disks, IsCache, IsOutside, sector_at, size_after, seen_after, synced_after, written_after, may_leave_after, unsynced_below, unsynced_of, picked_after, IsPicked, Event, Added}
use Rattle.std.proofs.lemmas.Map.Keys.{apart_from_distinct, IsDistinct-from_sorted}
use Rattle.gm_shelf.proofs.Fresh.{IsFresh}
use Rattle.gm_shelf.proofs.KeyNames.{same_key}

abbrev pub name_at : List Label → ℕ → Label
name_at names k = get_or names k []

-- names in order are each there once
pub apart : (names : List Label) → IsAscending names → (i k : ℕ) → i < k → k < length names
    → name_at names i ≢ name_at names k
apart names ascending i k below within =
    not_from_Decides _ (same_key (name_at names i) (name_at names k))
    (apart_from_distinct (eq_by_cmp (slice_cmp nat_cmp)) names i k []
    (IsDistinct-from_sorted (slice_cmp nat_cmp) names ascending) below within)

-- the first k providers are in the image, as the picks say, and nothing else
pub record IsSoFar (history image : List Event) (names : List Label) (pick : List ℕ)
    (k taken : ℕ) : Type 0 where
  pub fresh : IsFresh image
  pub taken_is : taken ≡ min (unsynced_of history (take k names)) (length pick)
  pub sizes : (i : ℕ) → i < k → size_after image (name_at names i)
      ≡ size_after history (name_at names i)
  pub not_yet : (q : Label) → ((i : ℕ) → i < k → name_at names i ≢ q) → size_after image q ≡ None
  pub nothing_yet : (q : Label) (j : ℕ) → ((i : ℕ) → i < k → name_at names i ≢ q)
      → seen_after image q j ≡ []
  pub sectors : (i j : ℕ) → i < k → IsSomeAnd (size_after history (name_at names i)) (λ n. j < n)
      → seen_after image (name_at names i) j ≡ picked_after history pick
      (unsynced_of history (take i names)) (name_at names i) j
  pub past : (i j : ℕ) → i < k → IsOutside (size_after history (name_at names i)) j
      → seen_after image (name_at names i) j ≡ []

-- a name is among the first k + 1 if it is the k-th, or among the first k
below_or_last : (i k : ℕ) → i < k + 1 → (i < k) ⊎ (i ≡ k)
below_or_last i k lt =
    ⊎_elim (λ (below : i < k). inl below) (λ (ge : k ≤ i). inr (omega arith)) (cases_lt i k)

module _ (history image : List Event) (names : List Label) (pick : List ℕ) (k taken more n : ℕ)
    (v : Vec (List ℕ) Global)
    (are : AreNames (size_after history) names) (within : k < length names)
    (so_far : IsSoFar history image names pick k taken)
    (size : size_after history (name_at names k) ≡ Some n) (len : vec_len v ≡ n)
    (values : (j : ℕ) → j < n
    → sector_at v.items j ≡ picked_after history pick (unsynced_of history (take k names))
    (name_at names k) j)
    (past_end : (j : ℕ) → n ≤ j → sector_at v.items j ≡ [])
    (counted : more ≡ min (unsynced_of history (take k names)
    + unsynced_below history (name_at names k) n) (length pick))
  where
    at_last : (q : Label) → q ≡ name_at names k → (same_label q (name_at names k) ≡ true)
    at_last q e =
        elim (label_tells q (name_at names k)) [
          | inl same ↦ same.0
          | inr other
              ↦ absurd (other.1 e)
        ]

    off_last : (q : Label) → q ≢ name_at names k → (same_label q (name_at names k) ≡ false)
    off_last q ne =
        elim (label_tells q (name_at names k)) [
          | inl same ↦ absurd (ne same.1)
          | inr other
              ↦ other.0
        ]

    other_name : (i : ℕ) → i < k → same_label (name_at names i) (name_at names k) ≡ false
    other_name i lt = off_last _ (apart names are.ascending i k lt within)

    -- an equation at the names of the first k + 1, from the k-th and the others
    at_each : (P : Label → ℕ → Type 0) → ((i : ℕ) → i < k → P (name_at names i) i)
        → P (name_at names k) k → (i : ℕ) → i < k + 1 → P (name_at names i) i
    at_each P before last i lt =
        ⊎_elim (λ (below : i < k). before i below) (λ (e : i ≡ k).
        subst (λ (m : ℕ). P (name_at names m) m) (sym e) last) (below_or_last i k lt)

    pub so_far_more : IsSoFar history (Added (name_at names k) v ∷ image) names pick (k + 1) more
    so_far_more = record {
      fresh = so_far.fresh;
      taken_is =
          let last : unsynced_below history (name_at names k)
          (unwrap_or (size_after history (name_at names k)) 0)
          ≡ unsynced_below history (name_at names k) n =
          ap (λ (o : Option ℕ). unsynced_below history (name_at names k) (unwrap_or o 0)) size in
          let sum : unsynced_of history (take (k + 1) names) ≡ unsynced_of history (take k names)
          + unsynced_below history (name_at names k) n =
          sum_by_more (λ (q : Label). unsynced_below history q (unwrap_or (size_after history q) 0))
          names k [] within ∙ ap (λ (m : ℕ). unsynced_of history (take k names) + m) last in
          counted ∙ ap (λ (m : ℕ). min m (length pick)) (sym sum);
      sizes = at_each (λ q i. size_after (Added (name_at names k) v ∷ image) q
          ≡ size_after history q) (λ i lt. rw (other_name i lt) (so_far.sizes i lt))
          (rw (at_last _ refl) (ap Some len ∙ sym size));
      not_yet = λ q new. rw (off_last q (λ e. new k (omega arith) (sym e)))
          (so_far.not_yet q (λ i lt. new i (omega (arith, lt))));
      nothing_yet = λ q j new. rw (off_last q (λ e. new k (omega arith) (sym e)))
          (so_far.nothing_yet q j (λ i lt. new i (omega (arith, lt))));
      sectors = λ i j lt.
          at_each (λ q m. IsSomeAnd (size_after history q) (λ n. j < n)
          → seen_after (Added (name_at names k) v ∷ image) q j
          ≡ picked_after history pick (unsynced_of history (take m names)) q j)
          (λ m below inside. rw (other_name m below) (so_far.sectors m j below inside))
          (λ inside. rw (at_last _ refl)
          (values j (subst (λ (o : Option ℕ). IsSomeAnd o (λ n. j < n)) size inside)))
          i lt;
      past = λ i j lt.
          at_each (λ q m. IsOutside (size_after history q) j
          → seen_after (Added (name_at names k) v ∷ image) q j ≡ [])
          (λ m below out. rw (other_name m below) (so_far.past m j below out))
          (λ out. rw (at_last _ refl)
          (past_end j (subst (λ (o : Option ℕ). IsOutside o j) size out)))
          i lt;
    }

    -- the same, by the name itself
    pub so_far_named : (name : Label) → name ≡ name_at names k
        → IsSoFar history (Added name v ∷ image) names pick (k + 1) more
    so_far_named name is =
        subst (λ (q : Label). IsSoFar history (Added q v ∷ image) names pick (k + 1) more)
        (sym is) so_far_more

pub known_size : (o : Option ℕ) → IsSome o → o ≡ Some (unwrap_or o 0)
known_size None some = cc
known_size (Some n) some = refl

-- a listed provider has a size
pub listed_size : (history : List Event) (names : List Label) (k : ℕ) (name : Label)
    → AreNames (size_after history) names → k < length names → name ≡ name_at names k
    → IsSome (size_after history name)
listed_size history names k name are within is =
    (are.there name).0 (subst (λ (q : Label). Contains names q) (sym is)
    (Contains-get_or names k [] within))

-- the name comes to the image for the first time
pub new_name : (history image : List Event) (names : List Label) (pick : List ℕ) (k taken : ℕ)
    (name : Label) → AreNames (size_after history) names → k < length names
    → IsSoFar history image names pick k taken → name ≡ name_at names k
    → size_after image name ≡ None
new_name history image names pick k taken name are within so_far is =
    so_far.not_yet name (λ i lt e. apart names are.ascending i k lt within (e ∙ is))

-- a pick names the synced value, or one of those that were written
picked_among : (s : List ℕ) (ws : List (List ℕ)) (m : ℕ) → m ≤ length ws
    → (get_or (s ∷ ws) m [] ≡ s) ⊎ Contains ws (get_or (s ∷ ws) m [])
picked_among s ws zero few = inl refl
picked_among s ws (suc m) few = inr (Contains-get_or ws m [] (omega (arith, few)))

-- all providers are in the image
module _ (history image : List Event) (disks : Disks) (cache : IsCache history disks)
    (names : List Label) (pick : List ℕ) (taken : ℕ) (are : AreNames (size_after history) names)
    (so_far : IsSoFar history image names pick (length names) taken) where
  named_or_not : (q : Label) (o : Option ℕ) → size_after history q ≡ o
      → ((i : ℕ) × (i < length names) × (name_at names i ≡ q)) ⊎ (size_after history q ≡ None)
  named_or_not q None e = inr e
  named_or_not q (Some n) e =
      let found : Contains names q = (are.there q).1 (ap is_some e) in
      inl (found.0, found.1, get_or_default names found.0 [] q found.1 ∙ found.2)

  not_named : (q : Label) → size_after history q ≡ None → (i : ℕ) → i < length names
      → name_at names i ≢ q
  not_named q none i lt e =
      let some : IsSome (size_after history q) = listed_size history names i q are lt (sym e) in
      cc

  at_named : (q : Label) (j : ℕ) (P : List ℕ → Label → Type 0)
      → ((i : ℕ) → i < length names → P (seen_after image (name_at names i) j) (name_at names i))
      → (size_after history q ≡ None → P (seen_after image q j) q) → P (seen_after image q j) q
  at_named q j P named none =
      ⊎_elim
      (λ (found : (i : ℕ) × (i < length names) × (name_at names i ≡ q)).
      subst (λ (r : Label). P (seen_after image r j) r) found.2 (named found.0 found.1))
      (λ (e : size_after history q ≡ None). none e)
      (named_or_not q (size_after history q) refl)

  pub same_sizes : (q : Label) → size_after image q ≡ size_after history q
  same_sizes q =
      ⊎_elim
      (λ (found : (i : ℕ) × (i < length names) × (name_at names i ≡ q)).
      subst (λ (r : Label). size_after image r ≡ size_after history r) found.2
      (so_far.sizes found.0 found.1))
      (λ (e : size_after history q ≡ None). so_far.not_yet q (not_named q e) ∙ sym e)
      (named_or_not q (size_after history q) refl)

  pub all_picked : IsPicked history pick (seen_after image)
  all_picked = record {
    names = names;
    are_names = are;
    sectors = λ k j within inside. so_far.sectors k j within inside;
    outside = λ q j.
        at_named q j (λ s r. IsOutside (size_after history r) j → s ≡ [])
        (λ i lt out. so_far.past i j lt out)
        (λ none out. so_far.nothing_yet q j (not_named q none));
  }

  inside_left : (i j : ℕ) → i < length names
      → IsSomeAnd (size_after history (name_at names i)) (λ n. j < n)
      → (seen_after image (name_at names i) j ≡ synced_after history (name_at names i) j)
      ⊎ Contains (written_after history (name_at names i) j)
      (seen_after image (name_at names i) j)
  inside_left i j lt inside =
      subst (λ (v : List ℕ). (v ≡ synced_after history (name_at names i) j)
      ⊎ Contains (written_after history (name_at names i) j) v)
      (sym (so_far.sectors i j lt inside))
      (picked_among (synced_after history (name_at names i) j)
      (written_after history (name_at names i) j) _ (omega arith))

  in_or_out : (o : Option ℕ) (j : ℕ) → IsSomeAnd o (λ n. j < n) ⊎ IsOutside o j
  in_or_out None j = inr tt
  in_or_out (Some n) j = cases_lt j n

  pub all_left : may_leave_after history (seen_after image)
  all_left q j =
      at_named q j (λ s r. (s ≡ synced_after history r j)
      ⊎ Contains (written_after history r j) s)
      (λ i lt.
      ⊎_elim
      (λ (inside : IsSomeAnd (size_after history (name_at names i)) (λ n. j < n)).
      inside_left i j lt inside)
      (λ (out : IsOutside (size_after history (name_at names i)) j).
      inl (so_far.past i j lt out ∙ sym (cache.never_synced (name_at names i) j out)))
      (in_or_out (size_after history (name_at names i)) j))
      (λ none. inl (so_far.nothing_yet q j (not_named q none)
      ∙ sym (cache.never_synced q j (subst (λ (o : Option ℕ). IsOutside o j) (sym none) tt))))
