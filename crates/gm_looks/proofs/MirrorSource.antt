-- The source of a mirror, by what a copy to one of its ACTIVE components would come from.
use Rattle.gm_looks.proofs.Common.{◌≡◌, ◌≢◌, ◌∙◌, ◌⊎◌, inl, inr, ⊎_elim, ℕ, ◌==◌, ◌&&◌, not, nat_lt, true, false, refl, sym, subst, arith, List, Option, Some, None, eq-eqb, option_map, and_parts, cases_Bool, cases_order, lt-ltb, le-ltb, ne_eqb, not-true, label_tells, same_label, Component, Mirror, component_of, is_active, IsState, Records, provider, GoesFirst, IsBest, IsSource, IsSourceOf, goes_first, lends_to, Has, label_lt, find_one, filter-Has, lt_other, lt_trans, same_from, same_is, member, IsActiveOf, IsSourceOfMirror}
use Rattle.gm_looks.proofs.Listed.{some_other}

-- ---- which of two goes first

pub first_trans : (a b c : Component) → GoesFirst a b → GoesFirst b c → GoesFirst a c
first_trans a b c (inl l) (inl r) = inl (omega (arith, l, r))
first_trans a b c (inl l) (inr r) = inl (let e : c.priority ≡ b.priority = r.0 in
    omega (arith, l, e))
first_trans a b c (inr l) (inl r) = inl (let e : b.priority ≡ a.priority = l.0 in
    omega (arith, r, e))
first_trans a b c (inr l) (inr r) =
    inr (r.0 ∙ l.0, lt_trans a.provider b.provider c.provider l.1 r.1)

-- the test tells it of two that have other names
pub first_tells : (a b : Component) → same_label a.provider b.provider ≡ false
    → ((goes_first a b ≡ true) × GoesFirst a b) ⊎ ((goes_first a b ≡ false) × GoesFirst b a)
first_tells a b other =
    elim (cases_order a.priority b.priority) [
      | inl same ↦ elim (cases_Bool (label_lt a.provider b.provider)) [
        | inl l ↦
            let low : nat_lt b.priority a.priority ≡ false =
            le-ltb b.priority a.priority (omega arith) in
            inl (rw (low, eq-eqb b.priority a.priority (sym same), l) refl, inr (sym same, l))
        | inr l ↦
            let low : nat_lt b.priority a.priority ≡ false =
            le-ltb b.priority a.priority (omega arith) in
            inr (
              rw (low, eq-eqb b.priority a.priority (sym same), l) refl,
              inr (same, lt_other a.provider b.provider other l),
            )
      ]
      | inr unlike ↦ elim unlike [
        | inl l ↦
            let low : nat_lt b.priority a.priority ≡ false =
            le-ltb b.priority a.priority (omega arith) in
            let no : (b.priority == a.priority) ≡ false =
            ne_eqb b.priority a.priority (λ e. omega arith) in
            inr (rw (low, no) refl, inl l)
        | inr l ↦ inl (rw (lt-ltb b.priority a.priority l) refl, inl l)
      ]
    ]

-- ---- the source of a mirror

module _ (s : Records) (state : IsState s) (m : Mirror) (k : Component)
    (active : IsActiveOf s m k) where
  registered : (j : Component) → IsActiveOf s m j → Has s.components j × (j.mirror ≡ m.name)
  registered j is = let of = member s m.name j is.of.component in (of.0, of.1)

  -- one that lends to it is of the same mirror
  lends_is : (j : Component) → Has s.components j → lends_to k j ≡ true → IsActiveOf s m j
  lends_is j has lends =
      let parts = and_parts (same_label j.mirror k.mirror)
      (is_active j.disk && not (same_label j.provider k.provider)) lends in
      let rest = and_parts (is_active j.disk) (not (same_label j.provider k.provider)) parts.1 in
      let home : j.mirror ≡ m.name = same_is j.mirror k.mirror parts.0 ∙ (registered k active).1 in
      record {
        of = record {
          mirror = active.of.mirror;
          component = filter-Has (λ (c : Component). same_label c.mirror m.name) s.components j has
              (same_from j.mirror m.name home);
        };
        active = rest.0;
      }

  -- and has another name
  lends_other : (j : Component) → lends_to k j ≡ true → same_label j.provider k.provider ≡ false
  lends_other j lends =
      let parts = and_parts (same_label j.mirror k.mirror)
      (is_active j.disk && not (same_label j.provider k.provider)) lends in
      let rest = and_parts (is_active j.disk) (not (same_label j.provider k.provider)) parts.1 in
      not-true (same_label j.provider k.provider) rest.1

  -- every other ACTIVE one lends to it
  others_lend : (j : Component) → IsActiveOf s m j
      → (j ≡ k) ⊎ (Has s.components j × (lends_to k j ≡ true))
  others_lend j is =
      let here = registered j is in
      let there = registered k active in
      ⊎_elim
      (λ (e : (same_label j.provider k.provider ≡ true) × (j.provider ≡ k.provider)).
      inl (some_other (component_of s k.provider) j k
      (subst (λ (p : List ℕ). component_of s p ≡ Some j) e.1
      (find_one provider s.components state.components_in_order j here.0))
      (find_one provider s.components state.components_in_order k there.0)))
      (λ (n : (same_label j.provider k.provider ≡ false) × (j.provider ≢ k.provider)).
      inr (here.0, rw (same_from j.mirror k.mirror (here.1 ∙ sym there.1), is.active, n.0) refl))
      (label_tells j.provider k.provider)

  -- the best of those that lend, as a copy goes by it
  lender : (r : Option (List ℕ)) → IsSource s k.provider r → IsSourceOf s (Some k) r
  lender r is = subst (λ (o : Option Component). IsSourceOf s o r)
      (find_one provider s.components state.components_in_order k (registered k active).0) is

  -- if none lends, it is the source itself
  pub itself_source : (r : Option (List ℕ)) → IsSource s k.provider r → r ≡ None
      → IsSourceOfMirror s m k
  itself_source r is none =
      alone (lender r is).0 (lender r is).1 (sym none ∙ (lender r is).2)
    where
      alone : (o : Option Component)
          → IsBest (λ j. Has s.components j × (lends_to k j ≡ true)) o
          → None ≡ option_map (λ (c : Component). c.provider) o → IsSourceOfMirror s m k
      alone None best e = (
        active,
        λ j is. ⊎_elim (λ (same : j ≡ k). inl same)
            (λ (l : Has s.components j × (lends_to k j ≡ true)). absurd (best j l))
            (others_lend j is),
      )
      alone (Some b) best e = let z : ⊥ = cc in absurd z

  -- else that one is registered
  pub best_lender : (r : Option (List ℕ)) (name : List ℕ) → IsSource s k.provider r
      → r ≡ Some name → (b : Component) × (component_of s name ≡ Some b)
      × IsBest (λ j. Has s.components j × (lends_to k j ≡ true)) (Some b)
  best_lender r name is some =
      found (lender r is).0 (lender r is).1 (sym some ∙ (lender r is).2)
    where
      found : (o : Option Component)
          → IsBest (λ j. Has s.components j × (lends_to k j ≡ true)) o
          → Some name ≡ option_map (λ (c : Component). c.provider) o
          → (b : Component) × (component_of s name ≡ Some b)
          × IsBest (λ j. Has s.components j × (lends_to k j ≡ true)) (Some b)
      found None best e = let z : ⊥ = cc in absurd z
      found (Some b) best e =
          let same : b.provider ≡ name = cc in (
            b,
            subst (λ (p : List ℕ). component_of s p ≡ Some b) same
                (find_one provider s.components state.components_in_order b best.0.0),
            best,
          )

  -- and the source is the one of the two that goes first
  module _ (b : Component)
      (best : IsBest (λ j. Has s.components j × (lends_to k j ≡ true)) (Some b)) where
    pub lender_source : goes_first b k ≡ true → IsSourceOfMirror s m b
    lender_source first =
        let wins : GoesFirst b k = elim (first_tells b k (lends_other b best.0.1)) [
          | inl y ↦ y.1
          | inr n ↦ let z : true ≡ false = sym first ∙ n.0 in cc
        ] in (
          lends_is b best.0.0 best.0.1,
          λ j is. ⊎_elim (λ (same : j ≡ k). inr (subst (GoesFirst b) (sym same) wins))
              (λ (l : Has s.components j × (lends_to k j ≡ true)). best.1 j l) (others_lend j is),
        )

    pub kept_source : goes_first b k ≡ false → IsSourceOfMirror s m k
    kept_source not_first =
        let wins : GoesFirst k b = elim (first_tells b k (lends_other b best.0.1)) [
          | inl y ↦ let z : true ≡ false = sym y.0 ∙ not_first in cc
          | inr n ↦ n.1
        ] in (
          active,
          λ j is. ⊎_elim (λ (same : j ≡ k). inl same)
              (λ (l : Has s.components j × (lends_to k j ≡ true)).
              ⊎_elim (λ (same : j ≡ b). inr (subst (GoesFirst k) (sym same) wins))
              (λ (g : GoesFirst b j). inr (first_trans k b j wins g)) (best.1 j l))
              (others_lend j is),
        )
