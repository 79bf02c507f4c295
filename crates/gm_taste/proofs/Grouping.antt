-- How groups are made of the taken in the order of their keys: those of one key are the first of
-- what is left.
use Rattle.gm_taste.proofs.Common.{◌≡◌, ◌∙◌, ◌⊎◌, inl, inr, ⊎_elim, ℕ, ◌+◌, ◌<◌, Bool, true, false, not, refl, sym, ap, subst, arith, List, [], ◌∷◌, ◌++◌, take, drop, filter, Some, None, slice_get, IsSortedByKey, prefix_len, IsStableByKey, IsSortedBy, IsStableBy, ties, IsStrictWeakOrder, cases_Bool, IsPermutation-sym, Group, Key, Taken, Has, AscendsBy, key_in, key_of, key_lt, same_key, is_of, Made, Grouped, Has-push, Has-filter, filter-Has, AscendsBy-filter, Has-permutation}
use Rattle.std.proofs.Common.{IsPermutation}
use Rattle.gm_lists.proofs.Finding.{Has-append_left, Has-append_right}
use Rattle.gm_taste.proofs.Keys.{key_cmp, key_lt_is, key_lt_itself, key_order, taken_lt, is_of_ties, is_of_is, is_of_from}
use Rattle.gm_taste.proofs.Runs.{Rises, sorted_rises, cut, untied, filter_kept, not_true, not_false, AscendsBy-push}

taken_order : IsStrictWeakOrder taken_lt
taken_order = record {
  one_way = λ t u. key_order.one_way (key_in t) (key_in u);
  chain = λ t u v. key_order.chain (key_in t) (key_in u) (key_in v);
}

-- the groups so far, and what is left of the taken
pub record SoFar (taken rest : List Taken) (groups : List Group) : Type 0 where
  pub has_one : (g : Group) → Has groups g → (t : Taken) × Has taken t × (key_in t ≡ key_of g)
  pub made : (g : Group) → Has groups g → Made (filter (is_of (key_of g)) taken) g
  pub ascend : AscendsBy (λ g h. key_lt (key_of g) (key_of h)) groups
  pub all_there : (t : Taken) → Has taken t
      → ((g : Group) × Has groups g × (key_of g ≡ key_in t)) ⊎ Has rest t
  pub are_taken : (t : Taken) → Has rest t → Has taken t
  pub whole : (t : Taken) → Has rest t
      → filter (is_of (key_in t)) rest ≡ filter (is_of (key_in t)) taken
  pub after : (g : Group) → Has groups g → (t : Taken) → Has rest t
      → key_lt (key_of g) (key_in t) ≡ true
  pub rises : Rises taken_lt rest

-- after the sort
pub so_begun : (taken sorted : List Taken) → IsPermutation taken sorted
    → IsSortedByKey key_in key_cmp sorted → IsStableByKey key_in key_cmp taken sorted
    → SoFar taken sorted []
so_begun taken sorted p up stable =
    let back = IsPermutation-sym taken sorted p in
    let steady : IsStableBy taken_lt taken sorted =
    subst (λ (lt : Key → Key → Bool). IsStableBy (λ t u. lt (key_in t) (key_in u)) taken sorted)
    key_lt_is stable in
    record {
      has_one = λ g h. absurd h;
      made = λ g h. absurd h;
      ascend = tt;
      all_there = λ t h. inr (Has-permutation taken sorted t p h);
      are_taken = λ t h. Has-permutation sorted taken t back h;
      whole = λ t h. subst (λ (same : Taken → Bool). filter same sorted ≡ filter same taken)
          (is_of_ties t) (steady t);
      after = λ g h. absurd h;
      rises = sorted_rises taken_lt taken_order sorted
          (subst (λ (lt : Key → Key → Bool). IsSortedBy (λ t u. lt (key_in t) (key_in u)) sorted)
          key_lt_is up);
    }

-- ---- one group more, of the first that is left and what has its key

module _ (taken : List Taken) (first : Taken) (others : List Taken) (groups : List Group)
    (s : SoFar taken (first ∷ others) groups) (g : Group) (key : key_of g ≡ key_in first) where
  abbrev rest : List Taken
  rest = first ∷ others

  abbrev is_first : Taken → Bool
  is_first = is_of (key_in first)

  abbrev more : List Group
  more = groups ++ g ∷ []

  abbrev is_other : Taken → Bool
  is_other t = not (is_first t)

  abbrev left : List Taken
  left = filter is_other rest

  not_before : (t : Taken) → Has rest t → taken_lt t first ≡ false
  not_before t (inl e) =
      subst (λ (u : Taken). taken_lt u first ≡ false) e (key_lt_itself (key_in first))
  not_before t (inr h) = not_true (taken_lt t first) (s.rises.0 t h)

  cut_here : (take (prefix_len is_first rest) rest ≡ filter is_first rest)
      × (drop (prefix_len is_first rest) rest ≡ left)
  cut_here = subst (λ (p : Taken → Bool). (take (prefix_len p rest) rest ≡ filter p rest)
      × (drop (prefix_len p rest) rest ≡ filter (λ t. not (p t)) rest)) (is_of_ties first)
      (cut taken_lt taken_order first rest not_before s.rises)

  -- what is left has another key
  is_left : (t : Taken) → Has left t → Has rest t × (is_first t ≡ false)
  is_left t h = let r = Has-filter is_other rest t h in (r.0, not_true (is_first t) r.1)

  of_another : (t : Taken) → is_first t ≡ false → (u : Taken) → is_of (key_in t) u ≡ true
      → is_other u ≡ true
  of_another t f u e =
      let same : key_in u ≡ key_in t = is_of_is (key_in t) u e in
      not_false (is_first u)
      (subst (λ (k : Key). same_key k (key_in first) ≡ false) (sym same) f)

  behind_first : (t : Taken) → Has left t → key_lt (key_of g) (key_in t) ≡ true
  behind_first t h =
      let r = is_left t h in
      let apart : ties taken_lt first t ≡ false =
      subst (λ (p : Taken → Bool). p t ≡ false) (sym (is_of_ties first)) r.1 in
      subst (λ (k : Key). key_lt k (key_in t) ≡ true) (sym key)
      (untied taken_lt taken_order first t (not_before t r.0) apart)

  made_new : Made (filter is_first rest) g → Made (filter (is_of (key_of g)) taken) g
  made_new m =
      subst (λ (k : Key). Made (filter (is_of k) taken) g) (sym key)
      (subst (λ (own : List Taken). Made own g) (s.whole first (inl refl)) m)

  there : (t : Taken) → Has taken t
      → ((h : Group) × Has more h × (key_of h ≡ key_in t)) ⊎ Has left t
  there t h = ⊎_elim (λ (r : (i : Group) × Has groups i × (key_of i ≡ key_in t)).
      inl (r.0, Has-append_left groups (g ∷ []) r.0 r.1, r.2))
      (λ (k : Has rest t). elim (cases_Bool (is_first t)) [
        | inl e ↦ inl (
          g,
          Has-append_right groups (g ∷ []) g (inl refl),
          key ∙ sym (is_of_is (key_in first) t e),
        )
        | inr e ↦ inr (filter-Has is_other rest t k (not_false (is_first t) e))
      ]) (s.all_there t h)

  so_with : Made (filter is_first rest) g → SoFar taken left more
  so_with m = record {
    has_one = λ h i. ⊎_elim (λ (k : Has groups h). s.has_one h k)
        (λ (e : g ≡ h). subst (λ (j : Group). (t : Taken) × Has taken t × (key_in t ≡ key_of j)) e
        (first, s.are_taken first (inl refl), sym key)) (Has-push groups g h i);
    made = λ h i. ⊎_elim (λ (k : Has groups h). s.made h k)
        (λ (e : g ≡ h). subst (λ (j : Group). Made (filter (is_of (key_of j)) taken) j) e
        (made_new m)) (Has-push groups g h i);
    ascend = AscendsBy-push (λ h i. key_lt (key_of h) (key_of i)) groups g s.ascend
        (λ h i. subst (λ (k : Key). key_lt (key_of h) k ≡ true) (sym key)
        (s.after h i first (inl refl)));
    all_there = there;
    are_taken = λ t h. s.are_taken t (is_left t h).0;
    whole = λ t h. let r = is_left t h in
        filter_kept (is_of (key_in t)) is_other (of_another t r.1) rest ∙ s.whole t r.0;
    after = λ h i t l. ⊎_elim (λ (k : Has groups h). s.after h k t (is_left t l).0)
        (λ (e : g ≡ h). subst (λ (j : Group). key_lt (key_of j) (key_in t) ≡ true) e
        (behind_first t l)) (Has-push groups g h i);
    rises = AscendsBy-filter is_other (λ t u. not (taken_lt u t)) rest s.rises;
  }

  pub so_first : Made (take (prefix_len is_first rest) rest) g
      → SoFar taken (drop (prefix_len is_first rest) rest) more
  so_first m =
      subst (λ (ts : List Taken). SoFar taken ts more) (sym cut_here.1)
      (so_with (subst (λ (own : List Taken). Made own g) cut_here.0 m))

-- ---- the same by what the code has

-- the key is that of the first, and n counts those that have it
pub so_more : (taken rest : List Taken) (groups : List Group) (first : Taken) (k : Key) (n : ℕ)
    (g : Group) → SoFar taken rest groups → Some first ≡ slice_get rest 0 → k ≡ key_in first
    → n ≡ prefix_len (is_of k) rest → key_of g ≡ k → Made (take n rest) g
    → SoFar taken (drop n rest) (groups ++ g ∷ [])
so_more taken [] groups first k n g s e f l j m = cc
so_more taken (t ∷ ts) groups first k n g s e f l j m =
    let here : first ≡ t = cc in
    let own : k ≡ key_in t = f ∙ ap key_in here in
    let len : n ≡ prefix_len (is_of (key_in t)) (t ∷ ts) =
    subst (λ (i : Key). n ≡ prefix_len (is_of i) (t ∷ ts)) own l in
    subst (λ (i : ℕ). SoFar taken (drop i (t ∷ ts)) (groups ++ g ∷ [])) (sym len)
    (so_first taken t ts groups s g (j ∙ own)
    (subst (λ (i : ℕ). Made (take i (t ∷ ts)) g) len m))

-- the first has its key
pub run_some : (rest : List Taken) (first : Taken) (k : Key) (n : ℕ) → Some first ≡ slice_get rest 0
    → k ≡ key_in first → n ≡ prefix_len (is_of k) rest → 0 < n
run_some [] first k n e f l = cc
run_some (t ∷ ts) first k n e f l =
    let here : first ≡ t = cc in
    let own : key_in t ≡ k = sym (f ∙ ap key_in here) in
    let has : is_of k t ≡ true =
    is_of_from k t (ap (λ (i : Key). i.name) own) (ap (λ (i : Key). i.mid) own) in
    let more : n ≡ 1 + prefix_len (is_of k) ts = rw has at l in
    omega arith

pub so_ended : (taken rest : List Taken) (groups : List Group) → SoFar taken rest groups
    → None ≡ slice_get rest 0 → Grouped taken groups
so_ended taken (t ∷ ts) groups s e = cc
so_ended taken [] groups s e = record {
  has_one = s.has_one;
  made = s.made;
  all_in_groups = λ t h. ⊎_elim (λ (r : (g : Group) × Has groups g × (key_of g ≡ key_in t)). r)
      (λ (n : ⊥). absurd n) (s.all_there t h);
  ascend = s.ascend;
}
