-- One sector of the disks that is changed in place.
use Rattle.gm_shelf.proofs.Common.{◌≡◌, ◌∙◌, ◌⊎◌, ◌<◌, ◌≢◌, inl, inr, ℕ, List, [], true, false, cond, Option, Some, ◌==◌, if◌then◌else◌, refl, sym, ap, Vec, vec_len, length, get_or, get_or-set_same, get_or-set_other, set, Global, option_map, nat_cmp, slice_cmp, get, is_at, eqb_tells, Label, put, same_label, label_tells, label_refl, Disks, size_in, held_in}
use Rattle.std.proofs.lemmas.Map.Text.{is_eq-slice_cmp}
use Rattle.gm_shelf.specs.Cache.{sector_of}

not_same : (p q : Label) → p ≢ q → same_label q p ≡ false
not_same p q apart =
    elim (label_tells q p) [ inl same ↦ absurd (apart (sym same.1)) | inr other ↦ other.0 ]

-- a key of the map is the one that is looked up, or another one
pub key_tells : (p q : Label)
    → ((is_at (slice_cmp nat_cmp p) q ≡ true) × (same_label q p ≡ true) × (q ≡ p))
    ⊎ ((is_at (slice_cmp nat_cmp p) q ≡ false) × (same_label q p ≡ false))
key_tells p q =
    elim (label_tells p q) [
      | inl same ↦ inl (is_eq-slice_cmp p q ∙ same.0, rw same.1 (label_refl q), sym same.1)
      | inr other ↦ inr (is_eq-slice_cmp p q ∙ other.0, not_same p q other.1)
    ]

module _ (old new : Disks) (p : Label) (i : ℕ) (s : List ℕ) (v w : Vec (List ℕ) Global)
    (was : get (slice_cmp nat_cmp) old p ≡ Some v) (is : (q : Label)
    → get (slice_cmp nat_cmp) new q ≡ cond (is_at (slice_cmp nat_cmp p) q) (Some w)
    (get (slice_cmp nat_cmp) old q))
    (len : vec_len w ≡ vec_len v) (changed : w.items ≡ set v.items i s) (there : i < length v.items)
  where
    new_here : (q : Label) → is_at (slice_cmp nat_cmp p) q ≡ true
        → get (slice_cmp nat_cmp) new q ≡ Some w
    new_here q e = is q ∙ rw e refl

    new_there : (q : Label) → is_at (slice_cmp nat_cmp p) q ≡ false
        → get (slice_cmp nat_cmp) new q ≡ get (slice_cmp nat_cmp) old q
    new_there q e = is q ∙ rw e refl

    old_here : (q : Label) → q ≡ p → get (slice_cmp nat_cmp) old q ≡ Some v
    old_here q e = rw e was

    pub sizes_stay : (q : Label) → size_in new q ≡ size_in old q
    sizes_stay q =
        elim (key_tells p q) [
          | inr other ↦ ap (option_map vec_len) (new_there q other.0)
          | inl same ↦
              ap (option_map vec_len) (new_here q same.0) ∙ ap Some len
              ∙ sym (ap (option_map vec_len) (old_here q same.2))
        ]

    at_place : (j : ℕ) → sector_of (Some w) j ≡ (if j == i then s else sector_of (Some v) j)
    at_place j =
        ap (λ (sectors : List (List ℕ)). get_or sectors j []) changed ∙ elim (eqb_tells j i) [
          | inl here ↦ rw (here.0, here.1) (get_or-set_same v.items i s [] there)
          | inr off ↦ rw off.0 (get_or-set_other v.items i j s [] off.1)
        ]

    pub one_changes : (q : Label) (j : ℕ) → held_in new q j ≡ put p i s (held_in old) q j
    one_changes q j =
        elim (key_tells p q) [
          | inr other ↦ rw other.1 (ap (λ (held : Option (Vec (List ℕ) Global)). sector_of held j)
              (new_there q other.0))
          | inl same ↦
              rw same.1
              (ap (λ (held : Option (Vec (List ℕ) Global)). sector_of held j) (new_here q same.0)
              ∙ at_place j
              ∙ ap (λ (held : Option (Vec (List ℕ) Global)). if j == i then s else sector_of held j)
              (sym (old_here q same.2)))
        ]
