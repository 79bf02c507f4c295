-- Changes that put each component once, with the mirror and the number of the one in whose place it
-- is put.
use Rattle.gm_changes.proofs.Common.{◌≡◌, ◌∙◌, ⊎_elim, true, refl, sym, ap, subst, ℕ, List, [], ◌∷◌, Option, None, Some, IfSome, map, Component, Has, Ascends, found, not_both, Has-filter, Has-map, Ascends-filter, Ascends-map, same_from, same_is, one, Records, IsState, members, provider, component_of, same_label, new_name, Changed, PutsInPlace}
use Rattle.gm_changes.proofs.KeptComponents.{Keeps}

-- one alone
only : (P : Component → Type 0) (k : Component) → P k → (j : Component) → Has (k ∷ []) j → P j
only P k p j h = ⊎_elim (λ (e : k ≡ j). subst P e p) (λ (no : ⊥). absurd no) h

module _ (s : Records) (ch : Changed) (stays : ch.gone_mirror ≡ None) where
  -- no component is put
  pub puts_none : ch.components ≡ [] → PutsInPlace s ch
  puts_none none = record {
    alone = rw stays tt;
    of_one = λ j k h i. absurd (subst (λ (ks : List Component). Has ks j) none h);
    once = rw none tt;
    numbers = λ k j h i e. absurd (subst (λ (ks : List Component). Has ks k) none h);
  }

  -- those that are put are on providers that are none
  pub puts_new : (n : List ℕ) → ((k : Component) → Has ch.components k → k.mirror ≡ n)
      → Ascends provider ch.components
      → ((k : Component) → Has ch.components k → component_of s k.provider ≡ None)
      → PutsInPlace s ch
  puts_new n own up free = record {
    alone = rw stays tt;
    of_one = λ j k h i. own j h ∙ sym (own k i);
    once = up;
    numbers = λ k j h i e.
        not_both (same_label j.provider k.provider) (same_from j.provider k.provider e)
        (new_name s k.provider (free k h) j i);
  }

  -- the one that is put is on a provider that is none
  pub puts_one_new : (k : Component) → ch.components ≡ k ∷ [] → component_of s k.provider ≡ None
      → PutsInPlace s ch
  puts_one_new k is free =
      puts_new k.mirror (λ j h. only (λ (c : Component). c.mirror ≡ k.mirror) k refl j
      (subst (λ (l : List Component). Has l j) is h)) (rw is (λ y h. absurd h, tt)) (λ j h.
      only (λ (c : Component). component_of s c.provider ≡ None) k free j
      (subst (λ (l : List Component). Has l j) is h))

  -- those that are put are some that are there, changed
  pub puts_changed : IsState s → (f : Component → Component) → Keeps f → (n : List ℕ)
      (ks : List Component) → ((k : Component) → Has ks k → k.mirror ≡ n) → Ascends provider ks
      → ((k : Component) → Has ks k → Has s.components k)
      → ch.components ≡ map f ks → PutsInPlace s ch
  puts_changed state f keeps n ks own up within is = record {
    alone = rw stays tt;
    of_one = λ j k h i.
        let of : (c : Component) → Has ch.components c → c.mirror ≡ n =
        λ c h. (let from = Has-map f ks c (subst (λ (l : List Component). Has l c) is h) in
        sym (ap (λ (x : Component). x.mirror) from.2) ∙ (keeps.mirror from.0
        ∙ own from.0 from.1)) in
        of j h ∙ sym (of k i);
    once = rw is (Ascends-map f provider keeps.provider ks up);
    numbers = λ k j h i e.
        let from = Has-map f ks k (subst (λ (l : List Component). Has l k) is h) in
        let old : Component = from.0 in
        let same : j ≡ old = one provider s.components state.components_in_order j old i
        (within old from.1) (e ∙ (sym (ap provider from.2) ∙ keeps.provider old)) in (
          ap (λ (c : Component). c.mirror) same ∙ (sym (keeps.mirror old)
              ∙ ap (λ (c : Component). c.mirror) from.2),
          ap (λ (c : Component). c.did) same ∙ (sym (keeps.did old)
              ∙ ap (λ (c : Component). c.did) from.2),
        );
  }

  -- the one that is put is the one on a provider, changed
  pub puts_one_changed : IsState s → (f : Component → Component) → Keeps f → (p : List ℕ)
      (k : Component) → component_of s p ≡ Some k → ch.components ≡ f k ∷ [] → PutsInPlace s ch
  puts_one_changed state f keeps p k at is =
      let here : Has s.components k =
      (found (λ (c : Component). same_label c.provider p) s.components k at).0 in
      puts_changed state f keeps k.mirror (k ∷ [])
      (only (λ (c : Component). c.mirror ≡ k.mirror) k refl) (λ y h. absurd h, tt)
      (only (Has s.components) k here) is

-- a mirror's components, changed
pub members_in_place : (s : Records) → IsState s → (n : List ℕ) (f : Component → Component)
    → Keeps f → (ks : List Component) → members s.components n ≡ ks → (ch : Changed)
    → ch.gone_mirror ≡ None → ch.components ≡ map f ks → PutsInPlace s ch
members_in_place s state n f keeps ks mine ch stays is =
    let mine_of : (k : Component) → Has ks k → Has s.components k × (same_label k.mirror n ≡ true) =
    λ k h. Has-filter (λ (k : Component). same_label k.mirror n) s.components k
    (subst (λ (l : List Component). Has l k) (sym mine) h) in
    puts_changed s ch stays state f keeps n ks (λ k h. same_is k.mirror n (mine_of k h).1)
    (subst (Ascends provider) mine
    (Ascends-filter (λ (k : Component). same_label k.mirror n) provider s.components
    state.components_in_order))
    (λ k h. (mine_of k h).0) is

-- neither a mirror nor a component is put, whatever goes
pub puts_nothing : (s : Records) (ch : Changed) → ch.mirror ≡ None → ch.components ≡ []
    → PutsInPlace s ch
puts_nothing s ch bare none = record {
  alone = on_some ch.gone_mirror (bare, none);
  of_one = λ j k h i. absurd (subst (λ (ks : List Component). Has ks j) none h);
  once = rw none tt;
  numbers = λ k j h i e. absurd (subst (λ (ks : List Component). Has ks k) none h);
}
  where
    on_some : {P : Type 0} (o : Option (List ℕ)) → P → IfSome o (λ n. P)
    on_some None p = tt
    on_some (Some n) p = p
