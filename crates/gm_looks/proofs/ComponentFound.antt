-- The component on a provider is found with its mirror.
use Rattle.gm_looks.proofs.Common.{◌≡◌, ◌∙◌, inl, inr, List, ℕ, Option, Some, None, true, refl, sym, ap, subst, same_label, Has, find_one, found, option_cases, same_is, Mirror, Component, IsOf, at_component, component_of, mirror_of, IsState, Records, provider, member}
use Rattle.gm_looks.proofs.Listed.{home_found, home_of}

-- both in one
abbrev pub Pair : Type 0
Pair = Mirror × Component

abbrev pub pair_at : Records → List ℕ → Option Pair
pair_at s p = at_component s p (λ m k. (m, k))

-- no option is both
none_some : (o : Option Pair) (q : Pair) → o ≡ None → o ≡ Some q → ⊥
none_some o q none some = let both : Some q ≡ None = sym some ∙ none in cc

-- two options that are the same hold the same
some_pair : (a b : Option Pair) (m n : Mirror) (k j : Component) → a ≡ Some (m, k)
    → b ≡ Some (n, j) → a ≡ b → (m ≡ n) × (k ≡ j)
some_pair a b m n k j e f same =
    let both : Some (m, k) ≡ Some (n, j) = sym e ∙ (same ∙ f) in
    let pairs : (m, k) ≡ (n, j) = cc in
    (ap (λ (q : Pair). q.0) pairs, ap (λ (q : Pair). q.1) pairs)

module _ (s : Records) (state : IsState s) where
  -- a component is found with its mirror
  pub pair_found : (m : Mirror) (k : Component) → IsOf s m k
      → pair_at s k.provider ≡ Some (m, k)
  pair_found m k o =
      let component : component_of s k.provider ≡ Some k =
      find_one provider s.components state.components_in_order k
      (member s m.name k o.component).0 in
      let home : mirror_of s k.mirror ≡ Some m = home_found s state m k o in
      rw (component, home) refl

  -- a component on this provider is what is found there
  at_provider : (p : List ℕ) (m : Mirror) (k : Component) → IsOf s m k → k.provider ≡ p
      → pair_at s p ≡ Some (m, k)
  at_provider p m k o at = subst (λ (q : List ℕ). pair_at s q ≡ Some (m, k)) at (pair_found m k o)

  -- what is found is the component on this provider, and its mirror
  pub found_pair : (p : List ℕ) (n : Mirror) (j : Component) → pair_at s p ≡ Some (n, j)
      → IsOf s n j × (j.provider ≡ p)
  found_pair p n j e =
      elim (option_cases (component_of s p)) [
        | inl none ↦ absurd (none_some (pair_at s p) (n, j) (rw none refl) e)
        | inr some ↦ (
            let k = some.0 in
            let there : Has s.components k × (same_label k.provider p ≡ true) =
            found (λ (c : Component). same_label c.provider p) s.components k some.1 in
            let at : k.provider ≡ p = same_is k.provider p there.1 in
            let home : (m : Mirror) × IsOf s m k = home_of s state k there.0 in
            let same : (home.0 ≡ n) × (k ≡ j) =
            some_pair (pair_at s p) (pair_at s p) home.0 n k j (at_provider p home.0 k home.1 at) e
            refl in (
              subst (λ (c : Component). IsOf s n c) same.1
                  (subst (λ (m : Mirror). IsOf s m k) same.0 home.1),
              subst (λ (c : Component). c.provider ≡ p) same.1 at,
            ))
      ]

  -- it is the only one
  pub one_pair : (p : List ℕ) (n m : Mirror) (j k : Component) → pair_at s p ≡ Some (n, j)
      → IsOf s m k → k.provider ≡ p → (n ≡ m) × (j ≡ k)
  one_pair p n m j k e o at =
      some_pair (pair_at s p) (pair_at s p) n m j k e (at_provider p m k o at) refl

  -- if nothing is found, there is no component
  pub pair_none : (p : List ℕ) → pair_at s p ≡ None → (k : Component) → Has s.components k
      → k.provider ≡ p → ⊥
  pair_none p none k h at =
      let home : (m : Mirror) × IsOf s m k = home_of s state k h in
      none_some (pair_at s p) (home.0, k) none (at_provider p home.0 k home.1 at)
