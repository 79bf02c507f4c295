-- The newest contents follow the history.
use Rattle.gm_shelf.proofs.Common.{◌≡◌, ◌∙◌, ◌≤◌, inl, inr, ℕ, List, [], ◌∷◌, true, false, cond, Option, Some, refl, ap, arith, Vec, vec_len, length, Global, option_map, nat_cmp, slice_cmp, get, is_at, get_or_past, Label, label_tells, sector_at, Disks, IsCache, Event, Added}
use Rattle.gm_shelf.specs.Cache.{sector_of}
use Rattle.gm_shelf.proofs.OneSector.{key_tells}

-- there is nothing after the last sector
pub past : (v : Vec (List ℕ) Global) (j : ℕ) → vec_len v ≤ j → sector_at v.items j ≡ []
past v j out = get_or_past v.items j [] (omega (arith, v.ok.0, out))

module _ (history : List Event) (old new : Disks) (p : Label) (sectors held : Vec (List ℕ) Global)
    (cache : IsCache history old)
    (is : (q : Label)
    → get (slice_cmp nat_cmp) new q ≡ cond (is_at (slice_cmp nat_cmp p) q) (Some held)
    (get (slice_cmp nat_cmp) old q))
    (items : held.items ≡ sectors.items)
  where
    len : vec_len held ≡ vec_len sectors
    len = omega (arith, held.ok.0, sectors.ok.0, ap length items)

    here : (q : Label) → is_at (slice_cmp nat_cmp p) q ≡ true
        → get (slice_cmp nat_cmp) new q ≡ Some held
    here q e = is q ∙ rw e refl

    there : (q : Label) → is_at (slice_cmp nat_cmp p) q ≡ false
        → get (slice_cmp nat_cmp) new q ≡ get (slice_cmp nat_cmp) old q
    there q e = is q ∙ rw e refl

    pub cache_added : IsCache (Added p sectors ∷ history) new
    cache_added = record {
      sizes = λ q.
          elim (key_tells p q) [
            | inr other ↦ ap (option_map vec_len) (there q other.0) ∙ rw other.1 (cache.sizes q)
            | inl same ↦ ap (option_map vec_len) (here q same.0) ∙ rw same.1 (ap Some len)
          ];
      sectors = λ q j.
          elim (key_tells p q) [
            | inr other ↦ ap (λ (found : Option (Vec (List ℕ) Global)). sector_of found j)
                (there q other.0) ∙ rw other.1 (cache.sectors q j)
            | inl same ↦ ap (λ (found : Option (Vec (List ℕ) Global)). sector_of found j)
                (here q same.0) ∙ rw same.1 (ap (λ (s : List (List ℕ)). sector_at s j) items)
          ];
      never_synced = λ q j out.
          elim (label_tells q p) [
            | inr other ↦ rw other.0 (cache.never_synced q j (rw other.0 at out))
            | inl same ↦ rw same.0 (past sectors j (rw same.0 at out))
          ];
      never_written = λ q j out.
          elim (label_tells q p) [
            | inr other ↦ rw other.0 (cache.never_written q j (rw other.0 at out))
            | inl same ↦ rw same.0 refl
          ];
    }
