-- A mirror without components.
use Rattle.gm_state.proofs.Common.{◌≡◌, inl, inr, ℕ, false, refl, List, [], ◌∷◌, same_label, Component, members, Has}

-- a mirror that no component is of
pub no_members : (ks : List Component) (n : List ℕ)
    → ((k : Component) → Has ks k → same_label k.mirror n ≡ false) → members ks n ≡ []
no_members [] n h = refl
no_members (k ∷ ks) n h = rw (h k (inl refl)) (no_members ks n (λ j g. h j (inr g)))
