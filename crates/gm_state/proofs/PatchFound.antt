-- The component that is patched is found by its name, and what stands in a list of one patch.
use Rattle.gm_state.proofs.Common.{◌≡◌, ◌∙◌, inl, inr, ⊎_elim, ℕ, suc, ◌≤◌, ◌<◌, List, [], ◌∷◌, ◌++◌, true, false, refl, sym, ap, subst, arith, Some, None, find, length, get_or, list_any, Intent, Meta, Clear, Copy, Dirty, Patch, Mirror, Component, InSync, Has, found, found_none, any_from, any_none, none_any, not_both, some_any, same_is, same_from, Records, IsState, component_of, mirror_of, is_dirty_of, is_meta_of, LeaveNoDirt, is_copy, is_patch, IsPatchWithin, StandsBetween, AreOrderedFrom, IsOfRange, AreOfOnePatch, AreSectors}
use Rattle.gm_state.proofs.CopyFound.{member_from, component_named, component_found, home_found}
use Rattle.gm_state.proofs.FoundRecords.{named}

module _ (s : Records) (p : List ℕ) (first end : ℕ) where
  -- what a patch needs is found
  module _ (state : IsState s) (w : IsPatchWithin s p first end) where
    on_found : component_of s p ≡ Some w.on
    on_found = component_found s state w.mirror w.on w.on_is p w.provider_is

    mirror_found : mirror_of s w.on.mirror ≡ Some w.mirror
    mirror_found = home_found s state w.mirror w.on w.on_is

    pub no_component : component_of s p ≡ None → ⊥
    no_component none = let e : Some w.on ≡ None = sym on_found ∙ none in cc

    same_on : (on : Component) → component_of s p ≡ Some on → w.on ≡ on
    same_on on is = let e : Some w.on ≡ Some on = sym on_found ∙ is in cc

    pub no_mirror : (on : Component) → component_of s p ≡ Some on → mirror_of s on.mirror ≡ None
        → ⊥
    no_mirror on is none =
        let e : Some w.mirror ≡ None =
        sym mirror_found ∙ ap (λ (k : Component). mirror_of s k.mirror) (same_on on is) ∙ none in
        cc

    pub taken : (on : Component) (m : Mirror) → component_of s p ≡ Some on
        → mirror_of s on.mirror ≡ Some m
        → (on.disk ≡ InSync) × (first < end) × (end ≤ m.data_sectors)
    taken on m on_is m_is =
        let e : Some w.mirror ≡ Some m =
        sym mirror_found ∙ ap (λ (k : Component). mirror_of s k.mirror) (same_on on on_is) ∙ m_is in
        let same : w.mirror ≡ m = cc in (
          ap (λ (k : Component). k.disk) (sym (same_on on on_is)) ∙ w.active,
          w.ordered,
          subst (λ (n : Mirror). end ≤ n.data_sectors) same w.within,
        )

  -- and what is found makes a patch
  pub patch_is : (on : Component) (m : Mirror) → component_of s p ≡ Some on
      → mirror_of s on.mirror ≡ Some m
      → (on.disk ≡ InSync) × (first < end) × (end ≤ m.data_sectors) → IsPatchWithin s p first end
  patch_is on m on_is m_is takes =
      let k = component_named s p on on_is in
      let home = named s on.mirror m m_is in
      record {
        mirror = m;
        on = on;
        on_is = member_from s m on home.0 k.0 (sym home.1);
        provider_is = k.1;
        active = takes.0;
        ordered = takes.1;
        within = takes.2;
      }

-- ---- one patch

patch_of : (t : Intent) → is_patch t ≡ true → (p : List ℕ) × (a : ℕ) × (b : ℕ) × (t ≡ Patch p a b)
patch_of (Meta p) e = cc
patch_of (Clear p) e = cc
patch_of (Copy f t a b) e = cc
patch_of (Dirty p) e = cc
patch_of (Patch p a b) e = (p, a, b, refl)

module _ (bytes : List (List ℕ)) (ts : List Intent) where
  -- the first of the patches
  module _ (t : Intent) (is : find is_patch ts ≡ Some t) where
    has_first : Has ts t
    has_first = (found is_patch ts t is).0

    there : list_any is_patch ts ≡ true
    there = any_from is_patch ts t has_first (found is_patch ts t is).1

    pub no_copy : AreOfOnePatch bytes ts → list_any is_copy ts ≡ false
    no_copy one = ⊎_elim (λ (off : list_any is_patch ts ≡ false).
        not_both (list_any is_patch ts) there off)
        (λ (none : list_any is_copy ts ≡ false). none) one.apart

    -- it begins at n
    module _ (n : ℕ) (begins : (p : List ℕ) (a b : ℕ) → t ≡ Patch p a b → n ≡ a) where
      pub from_first : list_any is_copy ts ≡ false
          → ((r : Intent) → Has ts r → IsOfRange n (length bytes) r) → AreOfOnePatch bytes ts
      from_first none ranges = record {
        start = n;
        ranges = ranges;
        apart = inr none;
        needed = λ off. not_both (list_any is_patch ts) there off;
      }

      pub of_range : AreOfOnePatch bytes ts → (r : Intent) → Has ts r
          → IsOfRange n (length bytes) r
      of_range one r h =
          let of = patch_of t (found is_patch ts t is).1 in
          let first = one.ranges (Patch of.0 of.1 of.2)
          (subst (λ (i : Intent). Has ts i) of.3 has_first) in
          let start : n ≡ one.start = begins of.0 of.1 of.2 of.3 ∙ first.0 in
          subst (λ (m : ℕ). IsOfRange m (length bytes) r) (sym start) (one.ranges r h)

  pub without_patch : list_any is_patch ts ≡ false → bytes ≡ [] → AreOfOnePatch bytes ts
  without_patch off empty = record {
    start = 0;
    ranges = λ t h. any_range t (none_any is_patch ts off t h);
    apart = inl off;
    needed = λ e. empty;
  }
    where
      any_range : (t : Intent) → is_patch t ≡ false → IsOfRange 0 (length bytes) t
      any_range (Meta p) e = tt
      any_range (Clear p) e = tt
      any_range (Copy f t a b) e = tt
      any_range (Dirty p) e = tt
      any_range (Patch p a b) e = cc

  pub none_found : find is_patch ts ≡ None → list_any is_patch ts ≡ false
  none_found none = any_none is_patch ts (found_none is_patch ts none)

-- ---- no dirt is left

pub no_dirt_left : (earlier ts : List Intent) → AreOrderedFrom earlier ts → LeaveNoDirt ts
no_dirt_left earlier [] ordered = tt
no_dirt_left earlier (t ∷ ts) ordered =
    (λ q e. meta_of t q ordered.0 e, no_dirt_left (earlier ++ t ∷ []) ts ordered.1)
  where
    meta_of : (t : Intent) (q : List ℕ) → StandsBetween earlier t ts → is_dirty_of q t ≡ true
        → list_any (is_meta_of q) ts ≡ true
    meta_of (Meta p) q stands e = cc
    meta_of (Clear p) q stands e = cc
    meta_of (Copy f t a b) q stands e = cc
    meta_of (Dirty p) q stands e =
        subst (λ (n : List ℕ). list_any (is_meta_of n) ts ≡ true) (same_is p q e) stands
    meta_of (Patch p a b) q stands e = cc

-- a Meta is pending of what a Dirty marks
pub meta_of_dirt : (ts : List Intent) → LeaveNoDirt ts → (p : List ℕ) → Has ts (Dirty p)
    → Has ts (Meta p)
meta_of_dirt [] clean p h = absurd h
meta_of_dirt (t ∷ ts) clean p (inl s) =
    let by = some_any (is_meta_of p) ts
    (clean.0 p (subst (λ (i : Intent). is_dirty_of p i ≡ true) (sym s) (same_from p p refl))) in
    inr (subst (λ (i : Intent). Has ts i) (meta_is by.0 by.2) by.1)
  where
    meta_is : (r : Intent) → is_meta_of p r ≡ true → r ≡ Meta p
    meta_is (Meta q) e = ap Meta (same_is q p e)
    meta_is (Clear q) e = cc
    meta_is (Copy f q a b) e = cc
    meta_is (Dirty q) e = cc
    meta_is (Patch q a b) e = cc
meta_of_dirt (t ∷ ts) clean p (inr h) = inr (meta_of_dirt ts clean.1 p h)

-- what each place of the bytes holds is a sector
pub are_sectors : (bytes : List (List ℕ))
    → ((i : ℕ) → i < length bytes → length (get_or bytes i []) ≡ 512)
    → AreSectors bytes
are_sectors [] told x h = absurd h
are_sectors (y ∷ ys) told x (inl same) =
    subst (λ (l : List ℕ). length l ≡ 512) same (told 0 (omega arith))
are_sectors (y ∷ ys) told x (inr later) =
    are_sectors ys (λ i low. told (suc i) (omega (arith, low))) x later
