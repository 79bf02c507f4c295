-- From the write of a last sector to the step of an intent.
use Rattle.gm_apply.proofs.Common.{◌≡◌, ◌⊎◌, inl, inr, ⊎_elim, ℕ, ◌+◌, List, true, false, ◌==◌, refl, sym, ◌∙◌, ap, subst, arith, Option, option_map, None, Some, zero, suc, eqb-true, cases_Bool, eqb_tells, Image, Sizes, Same, put, label_tells, label_refl, View, IsPut, Torn, OldOrNew, IsDone, encoded, Metadata, Mirror, Component, Records, IsState, name, provider, at_component, metadata, metadata_of, mirror_of, component_of, IsOf, is_last, find_one, not_both, last_of, with_places, SomePlacesNew, PlacesAreNew, Moments}
use Rattle.gm_state.proofs.TestsTellRules.{member}
use Rattle.gm_apply.proofs.UnderWay.{laid_in, laid_out}

module _ (size : Sizes) (p : List ℕ) (i : ℕ) (is : size p ≡ Some (i + 1)) where
  pub here : last_of size p p i ≡ true
  here = rw (label_refl p, is, itself i) refl
    where
      itself : (i : ℕ) → (i + 1 == i + 1) ≡ true
      itself i = elim (eqb_tells (i + 1) (i + 1)) [ inl e ↦ e.0 | inr e ↦ absurd (e.1 refl) ]

  one : (q : List ℕ) (j : ℕ) → last_of size p q j ≡ true → (q ≡ p) × (j ≡ i)
  one q j e =
      elim (label_tells p q) [
        | inr other ↦ (let h = rw other.0 at e in cc)
        | inl same ↦
            let h : is_last (size q) j ≡ true = rw same.0 at e in
            let k : (i + 1 == j + 1) ≡ true =
            subst (λ (o : Option ℕ). is_last o j ≡ true) (ap size (sym same.1) ∙ is) h in
            let n : i + 1 ≡ j + 1 = eqb-true (i + 1) (j + 1) k in
            (sym same.1, omega (arith, n))
      ]

  module _ (s : List ℕ) (w : Image) (value : w p i ≡ s) where
    put_laid : (d : Image) → Same (put p i s d) (with_places (last_of size p) w d)
    put_laid d q j =
        elim (cases_Bool (last_of size p q j)) [
          | inl e ↦
              let at = one q j e in
              let put_there : put p i s d q j ≡ s =
              rw (at.0, at.1, label_refl p, same_place i) refl in
              put_there ∙ sym value ∙ sym (spot q j at.0 at.1)
              ∙ sym (laid_in (last_of size p) w d q j e)
          | inr e ↦ not_put q j e ∙ sym (laid_out (last_of size p) w d q j e)
        ]
      where
        same_place : (i : ℕ) → (i == i) ≡ true
        same_place i = elim (eqb_tells i i) [ inl e ↦ e.0 | inr e ↦ absurd (e.1 refl) ]

        spot : (q : List ℕ) (j : ℕ) → q ≡ p → j ≡ i → w q j ≡ w p i
        spot q j a b = rw (a, b) refl

        not_put : (q : List ℕ) (j : ℕ) → last_of size p q j ≡ false → put p i s d q j ≡ d q j
        not_put q j e =
            elim (label_tells q p) [
              | inr other ↦ rw other.0 refl
              | inl same ↦ elim (eqb_tells j i) [
                | inr off ↦ rw (same.0, off.0) refl
                | inl at ↦ not_both (last_of size p q j) (let r : last_of size p q j
                    ≡ true = rw (same.1, at.1) here in r) e
              ]
            ]

    torn_mix : (d x : Image) → Torn p i s d x → SomePlacesNew (last_of size p) w d x
    torn_mix d x torn q j =
        ⊎_elim (λ (e : x q j ≡ d q j). inl e)
        (λ (h : IsPut p i s q j (x q j)). let a = h.provider in let b = h.place in
        let v = h.value in
        inr (
          (let r : last_of size p q j ≡ true = rw (a, b) here in r),
          (let r : x q j ≡ w q j = v ∙ sym value ∙ (let t : w p i ≡ w q j = rw (a, b) refl in
              t) in r),
        ))
        (torn q j)

    pub last_redone : (old new : View) → IsDone p i s old new
        → PlacesAreNew (last_of size p) w old new
    last_redone old new done = record {
      seen = λ q j. done.seen q j ∙ put_laid old.seen q j;
      left = λ x left. let from = done.left x left in
          (from.0, from.1, λ q j. from.2 q j ∙ put_laid from.0 q j);
    }

    pub last_moments : (old new : View) → OldOrNew p i s old new
        → Moments (last_of size p) w old new
    last_moments old new moments = record {
      later = moments.later;
      since = λ t x le left. ⊎_elim (λ before. inl before)
          (λ from. inr (from.0, from.1, torn_mix from.0 x from.2)) (moments.since t x le left);
    }

-- a provider has a last sector, or none
pub by_size : {X : Type 0} (size : Sizes) (p : List ℕ) (o : Option ℕ) → size p ≡ o
    → ((size p ≡ None) ⊎ (size p ≡ Some 0) → X) → ((i : ℕ) → size p ≡ Some (i + 1) → X) → X
by_size size p None e none some = none (inl e)
by_size size p (Some zero) e none some = none (inr e)
by_size size p (Some (suc i)) e none some = some i (e ∙ ap Some (omega arith))

-- a write of the last sector with what its intent says
module _ (size : Sizes) (p s : List ℕ) (w : Image)
    (says : (q : List ℕ) (j : ℕ) → last_of size p q j ≡ true → w q j ≡ s) (old new : View) where
  pub done_step : (size p ≡ None → ⊥) → (size p ≡ Some 0 → ⊥)
      → ((i : ℕ) → size p ≡ Some (i + 1) → IsDone p i s old new)
      → PlacesAreNew (last_of size p) w old new
  done_step there full done =
      by_size size p (size p) refl (⊎_elim (λ e. absurd (there e)) (λ e. absurd (full e)))
      (λ i is. last_redone size p i is s w (says p i (here size p i is)) old new (done i is))

  pub moments_step : ((size p ≡ None) ⊎ (size p ≡ Some 0) → Moments (last_of size p) w old new)
      → ((i : ℕ) → size p ≡ Some (i + 1) → OldOrNew p i s old new)
      → Moments (last_of size p) w old new
  moments_step nothing moments =
      by_size size p (size p) refl nothing
      (λ i is. last_moments size p i is s w (says p i (here size p i is)) old new (moments i is))

-- what is said of a component is found by its provider
pub found_at : {X : Type 0} (s : Records) → IsState s → (f : Mirror → Component → X) (m : Mirror)
    (k : Component) → IsOf s m k → at_component s k.provider f ≡ Some (f m k)
found_at s state f m k o =
    let mine = member s m.name k o.component in
    let found : component_of s k.provider ≡ Some k =
    find_one provider s.components state.components_in_order k mine.0 in
    let home : mirror_of s k.mirror ≡ Some m =
    subst (λ (n : List ℕ). mirror_of s n ≡ Some m) (sym mine.1)
    (find_one name s.mirrors state.mirrors_in_order m o.mirror) in
    rw (found, home) refl

pub metadata_found : (s : Records) → IsState s → (m : Mirror) (k : Component) → IsOf s m k
    → metadata_of s k.provider ≡ Some (metadata m k)
metadata_found s state m k o = found_at s state metadata m k o

-- what a component's last sector says is the encoding of what is found
pub says_found : (s : Records) → IsState s → (f : Mirror → Component → Metadata) (p : List ℕ)
    (x : List ℕ) → ((m : Mirror) × (k : Component) × IsOf s m k × (k.provider ≡ p)
    × (x ≡ encoded (f m k))) → option_map encoded (at_component s p f) ≡ Some x
says_found s state f p x says =
    let there : at_component s p f ≡ Some (f says.0 says.1) =
    subst (λ (q : List ℕ). at_component s q f ≡ Some (f says.0 says.1)) says.3
    (found_at s state f says.0 says.1 says.2) in
    ap (option_map encoded) there ∙ ap Some (sym says.4)
