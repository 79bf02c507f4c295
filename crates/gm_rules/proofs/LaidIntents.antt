-- The intents that lay sectors over data of components: for each of them Dirty, Patch and Meta.
use Rattle.gm_rules.proofs.Common.{◌≡◌, ◌≢◌, inl, inr, ℕ, true, false, refl, sym, subst, List, [], ◌∷◌, ◌++◌, filter, flat_map, list_any, or_left, Intent, Meta, Dirty, Patch, Component, Has, Ascends, provider, any_copies, is_dirty_of, is_meta_of, AreOrderedFrom, is_copy, is_fill_of, patching, any_from, any_none, Has-append_right, differ, lt_differ, same_refl}

module _ (first end : ℕ) where
  abbrev pub patchings : List Component → List Intent
  patchings ks = flat_map (patching first end) ks

  -- what holds of the three of each component holds of each intent
  pub each_laid : (P : Intent → Type 0) (ks : List Component)
      → ((k : Component) → Has ks k → P (Dirty k.provider) × P (Patch k.provider first end)
      × P (Meta k.provider)) → (t : Intent) → Has (patchings ks) t → P t
  each_laid P [] h t i = absurd i
  each_laid P (k ∷ ks) h t (inl e) = subst P e (h k (inl refl)).0
  each_laid P (k ∷ ks) h t (inr (inl e)) = subst P e (h k (inl refl)).1
  each_laid P (k ∷ ks) h t (inr (inr (inl e))) = subst P e (h k (inl refl)).2
  each_laid P (k ∷ ks) h t (inr (inr (inr i))) = each_laid P ks (λ j g. h j (inr g)) t i

  pub laid_there : (ks : List Component) (k : Component) → Has ks k
      → Has (patchings ks) (Patch k.provider first end) × Has (patchings ks) (Meta k.provider)
  laid_there [] k h = absurd h
  laid_there (j ∷ ks) k (inl e) =
      subst (λ (c : Component). Has (patchings (j ∷ ks)) (Patch c.provider first end)
      × Has (patchings (j ∷ ks)) (Meta c.provider)) e (inr (inl refl), inr (inr (inl refl)))
  laid_there (j ∷ ks) k (inr h) = let r = laid_there ks k h in
      (inr (inr (inr r.0)), inr (inr (inr r.1)))

  -- none of them copies
  pub no_copy : (ks : List Component) → filter is_copy (patchings ks) ≡ []
  no_copy [] = refl
  no_copy (k ∷ ks) = no_copy ks

  pub copies_none : (ks : List Component) (q : List ℕ) (i : ℕ)
      → any_copies (patchings ks) q i ≡ false
  copies_none [] q i = refl
  copies_none (k ∷ ks) q i = copies_none ks q i

  others_unfilled : (p : List ℕ) (ks : List Component)
      → ((k : Component) → Has ks k → p ≢ k.provider)
      → list_any (is_fill_of p) (patchings ks) ≡ false
  others_unfilled p ks apart = any_none (is_fill_of p) (patchings ks)
      (each_laid (λ t. is_fill_of p t ≡ false) ks
      (λ k h. (refl, differ k.provider p (λ e. apart k h (sym e)), refl)))

  -- they are so ordered that data come before claims, and after dirt
  pub laid_ordered : (earlier : List Intent) (ks : List Component) → Ascends provider ks
      → AreOrderedFrom earlier (patchings ks)
  laid_ordered earlier [] up = tt
  laid_ordered earlier (k ∷ ks) up =
      let own = same_refl k.provider in
      let told : list_any (is_meta_of k.provider) (Meta k.provider ∷ patchings ks) ≡ true =
      or_left _ _ own in
      let dirt : list_any (is_dirty_of k.provider) (earlier ++ Dirty k.provider ∷ []) ≡ true =
      any_from (is_dirty_of k.provider) (earlier ++ Dirty k.provider ∷ []) (Dirty k.provider)
      (Has-append_right earlier (Dirty k.provider ∷ []) (Dirty k.provider) (inl refl)) own in (
        told,
        (
          (dirt, told),
          (
            others_unfilled k.provider ks
                (λ j h. lt_differ k.provider j.provider (up.0 j h)),
            laid_ordered (((earlier ++ Dirty k.provider ∷ []) ++ Patch k.provider first end ∷ [])
                ++ Meta k.provider ∷ []) ks up.1,
          ),
        ),
      )
