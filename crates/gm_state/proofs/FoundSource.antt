-- What is found is the source.
use Rattle.gm_state.proofs.Common.{◌≡◌, ◌⊎◌, ◌∙◌, inl, inr, ⊎_elim, ℕ, ◌<◌, ◌≤◌, ◌&&◌, Bool, not, nat_lt, true, false, refl, sym, ap, subst, arith, List, [], ◌∷◌, Option, Some, None, eq-eqb, ltb-true, ltb-false, option_map, list_any, same_label, cases_Bool, cases_order, and_parts, lt-ltb, le-ltb, ne_eqb, not-true, Component, Has, Ascends, label_lt, Records, IsState, members, provider, component_of, is_active, lends_to, goes_first, source_among, source_of, GoesFirst, IsBest, IsSource, better, best_of, lt_asym, lt_irrefl, any_from, any_none, find_none, find_only, not_both, option_cases, Has-filter, filter-Has}

IsBest-same : (P Q : Component → Type 0) → ((j : Component) → P j → Q j)
    → ((j : Component) → Q j → P j) → (o : Option Component) → IsBest P o → IsBest Q o
IsBest-same P Q f g None h = λ j q. h j (g j q)
IsBest-same P Q f g (Some k) h = (f k h.0, λ j q. h.1 j (g j q))

module _ (t : Component) where
  -- those seen, and x if it may lend
  abbrev With : (Component → Type 0) → Component → Component → Type 0
  With P x j = P j ⊎ ((x ≡ j) × (lends_to t j ≡ true))

  one_more : (P : Component → Type 0) (b : Option Component) (x : Component) → IsBest P b
      → ((j : Component) → P j → label_lt j.provider x.provider ≡ true)
      → IsBest (With P x) (better t b x)
  one_more P None x h before =
      elim (cases_Bool (lends_to t x)) [
        | inl e ↦ rw e (
          inr (refl, e),
          λ j w. ⊎_elim (λ (p : P j). absurd (h j p)) (λ (q : (x ≡ j) × (lends_to t j ≡ true)).
              inl (sym q.0)) w,
        )
        | inr e ↦ rw e (λ j w. ⊎_elim (λ (p : P j). h j p)
            (λ (q : (x ≡ j) × (lends_to t j ≡ true)).
            (let f : lends_to t j ≡ false = sym (ap (lends_to t) q.0) ∙ e in
            let g : true ≡ false = sym q.1 ∙ f in let z : ⊥ = cc in z)) w)
      ]
  one_more P (Some a) x h before =
      elim (cases_Bool (lends_to t x)) [
        | inl e ↦ elim (cases_Bool (nat_lt a.priority x.priority)) [
          | inl l ↦
              let less : a.priority < x.priority = ltb-true a.priority x.priority l in
              rw (e, l) (
                inr (refl, e),
                λ j w. ⊎_elim
                    (λ (p : P j). ⊎_elim
                    (λ (s : j ≡ a).
                    inr (inl (subst (λ (c : Component). c.priority < x.priority) (sym s) less)))
                    (λ (g : GoesFirst a j).
                    inr (inl (⊎_elim (λ (u : j.priority < a.priority).
                    (let r : j.priority < x.priority = omega arith in r))
                    (λ (u : (j.priority ≡ a.priority) × (label_lt a.provider j.provider ≡ true)).
                    (let v : j.priority ≡ a.priority = u.0 in
                    let r : j.priority < x.priority = omega arith in r)) g)))
                    (h.1 j p))
                    (λ (q : (x ≡ j) × (lends_to t j ≡ true)). inl (sym q.0)) w,
              )
          | inr l ↦
              let most : x.priority ≤ a.priority = ltb-false a.priority x.priority l in
              rw (e, l) (
                inl h.0,
                λ j w. ⊎_elim
                    (λ (p : P j). h.1 j p)
                    (λ (q : (x ≡ j) × (lends_to t j ≡ true)).
                    inr (subst (λ (c : Component). GoesFirst a c) q.0
                    (⊎_elim
                    (λ (s : x.priority ≡ a.priority). inr (s, before a h.0))
                    (λ (o : (x.priority < a.priority) ⊎ (a.priority < x.priority)).
                    inl (⊎_elim (λ (u : x.priority < a.priority). u)
                    (λ (u : a.priority < x.priority). absurd (omega arith)) o))
                    (cases_order x.priority a.priority)))) w,
              )
        ]
        | inr e ↦ rw e (
          inl h.0,
          λ j w. ⊎_elim (λ (p : P j). h.1 j p)
              (λ (q : (x ≡ j) × (lends_to t j ≡ true)).
              (let f : lends_to t j ≡ false = sym (ap (lends_to t) q.0) ∙ e in
              let g : true ≡ false = sym q.1 ∙ f in cc)) w,
        )
      ]

  best_is : (P : Component → Type 0) (b : Option Component) (xs : List Component) → IsBest P b
      → ((j : Component) → P j → (x : Component) → Has xs x → label_lt j.provider x.provider ≡ true)
      → Ascends provider xs
      → IsBest (λ j. P j ⊎ (Has xs j × (lends_to t j ≡ true))) (best_of t b xs)
  best_is P b [] h before a =
      IsBest-same P (λ j. P j ⊎ (Has [] j × (lends_to t j ≡ true))) (λ j p. inl p)
      (λ j w. ⊎_elim (λ (p : P j). p) (λ (q : ⊥ × (lends_to t j ≡ true)). absurd q.0) w) b h
  best_is P b (x ∷ xs) h before a =
      IsBest-same (λ j. With P x j ⊎ (Has xs j × (lends_to t j ≡ true)))
      (λ j. P j ⊎ (Has (x ∷ xs) j × (lends_to t j ≡ true)))
      (λ j w. ⊎_elim (λ (v : With P x j). ⊎_elim (λ (p : P j). inl p)
      (λ (q : (x ≡ j) × (lends_to t j ≡ true)). inr (inl q.0, q.1)) v)
      (λ (q : Has xs j × (lends_to t j ≡ true)). inr (inr q.0, q.1)) w)
      (λ j w. ⊎_elim (λ (p : P j). inl (inl p)) (λ (q : Has (x ∷ xs) j × (lends_to t j ≡ true)).
      ⊎_elim (λ (s : x ≡ j). inl (inr (s, q.1))) (λ (k : Has xs j). inr (k, q.1)) q.0) w)
      (best_of t (better t b x) xs)
      (best_is (With P x) (better t b x) xs
      (one_more P b x h (λ j p. before j p x (inl refl)))
      (λ j w y i. ⊎_elim (λ (p : P j). before j p y (inr i))
      (λ (q : (x ≡ j) × (lends_to t j ≡ true)).
      subst (λ (c : Component). label_lt c.provider y.provider ≡ true) q.0 (a.0 y i)) w)
      a.1)

  -- over all components
  pub best_found : (xs : List Component) → Ascends provider xs
      → IsBest (λ j. Has xs j × (lends_to t j ≡ true)) (best_of t None xs)
  best_found xs a =
      IsBest-same (λ j. ⊥ ⊎ (Has xs j × (lends_to t j ≡ true)))
      (λ j. Has xs j × (lends_to t j ≡ true))
      (λ j w. ⊎_elim (λ (z : ⊥). absurd z) (λ (q : Has xs j × (lends_to t j ≡ true)). q) w)
      (λ j q. inr q) (best_of t None xs)
      (best_is (λ j. ⊥) None xs (λ j z. z) (λ j z x i. absurd z) a)

pub source_none : (s : Records) (target : List ℕ) (r : Option (List ℕ))
    → component_of s target ≡ None → r ≡ None → IsSource s target r
source_none s target r e f = rw e f

pub source_some : (s : Records) (target : List ℕ) (t : Component) (r : Option (List ℕ))
    → component_of s target ≡ Some t → IsState s
    → r ≡ option_map (λ (k : Component). k.provider) (best_of t None s.components)
    → IsSource s target r
source_some s target t r e state f =
    rw e (best_of t None s.components, best_found t s.components state.components_in_order, f)

-- ---- and the one that is found as the function says it

goes_from : (a b : Component) → GoesFirst a b → goes_first a b ≡ true
goes_from a b (inl l) = rw (lt-ltb b.priority a.priority l) refl
goes_from a b (inr g) =
    rw (
      le-ltb b.priority a.priority (let e : b.priority ≡ a.priority = g.0 in omega arith),
      eq-eqb b.priority a.priority g.0,
      g.1,
    ) refl

goes_not : (a b : Component) → GoesFirst a b → goes_first b a ≡ false
goes_not a b (inl l) = rw (
  le-ltb a.priority b.priority (omega arith),
  ne_eqb a.priority b.priority (λ (e : a.priority ≡ b.priority). omega arith),
) refl
goes_not a b (inr g) =
    rw (
      le-ltb a.priority b.priority (let e : b.priority ≡ a.priority = g.0 in omega arith),
      lt_asym a.provider b.provider g.1,
      eq-eqb a.priority b.priority (sym g.0),
    ) refl

goes_itself : (a : Component) → goes_first a a ≡ false
goes_itself a = elim (cases_Bool (label_lt a.provider a.provider)) [
  | inl e ↦ absurd (lt_irrefl a.provider e)
  | inr e ↦ rw (
    le-ltb a.priority a.priority (omega arith),
    e,
    eq-eqb a.priority a.priority refl,
  ) refl
]

module _ (t : Component) (all : List Component) where
  abbrev ms : List Component
  ms = members all t.mirror

  abbrev beaten : Component → Bool
  beaten k = list_any (λ j. lends_to t j && goes_first j k) ms

  abbrev is_it : Component → Bool
  is_it k = lends_to t k && not (beaten k)

  in_members : (j : Component) → Has all j → lends_to t j ≡ true → Has ms j
  in_members j h e =
      filter-Has (λ (c : Component). same_label c.mirror t.mirror) all j h
      (and_parts (same_label j.mirror t.mirror)
      (is_active j.disk && not (same_label j.provider t.provider)) e).0

  in_all : (j : Component) → Has ms j → Has all j
  in_all j h = (Has-filter (λ (c : Component). same_label c.mirror t.mirror) all j h).0

  pub source_is : (o : Option Component) → IsBest (λ j. Has all j × (lends_to t j ≡ true)) o
      → source_among t ms ≡ o
  source_is None none =
      find_none is_it ms (λ j h. elim (cases_Bool (lends_to t j)) [
        | inl e
            ↦ absurd (none j (in_all j h, e))
        | inr e ↦ rw e refl
      ])
  source_is (Some k) best =
      let none_first : (j : Component) → Has ms j → (lends_to t j && goes_first j k) ≡ false =
      λ j h. elim (cases_Bool (lends_to t j)) [
        | inr e ↦ rw e refl
        | inl e ↦ rw e (⊎_elim
            (λ (s : j ≡ k). subst (λ (c : Component). goes_first c k ≡ false) (sym s)
            (goes_itself k))
            (λ (g : GoesFirst k j). goes_not k j g)
            (best.1 j (in_all j h, e)))
      ] in
      find_only is_it ms k (in_members k best.0.0 best.0.1)
      (rw (best.0.1, any_none (λ j. lends_to t j && goes_first j k) ms none_first) refl)
      (λ j h e.
      let parts = and_parts (lends_to t j) (not (beaten j)) e in
      ⊎_elim (λ (s : j ≡ k). s)
      (λ (g : GoesFirst k j). not_both (beaten j)
      (any_from (λ i. lends_to t i && goes_first i j) ms k (in_members k best.0.0 best.0.1)
      (rw (best.0.1, goes_from k j g) refl))
      (not-true (beaten j) parts.1))
      (best.1 j (in_all j h, parts.0)))

pub source_value : (s : Records) (target : List ℕ) (t : Component) (r : Option (List ℕ))
    → component_of s target ≡ Some t → IsState s
    → r ≡ option_map (λ (k : Component). k.provider) (best_of t None s.components)
    → r ≡ source_of s target
source_value s target t r e state f =
    rw (
      e,
      source_is t s.components (best_of t None s.components)
          (best_found t s.components state.components_in_order),
    ) f

pub source_of_is : (s : Records) (target : List ℕ) → IsState s
    → IsSource s target (source_of s target)
source_of_is s target state =
    elim (option_cases (component_of s target)) [
      | inl none ↦ source_none s target (source_of s target) none (rw none refl)
      | inr some ↦
          let t : Component = some.0 in
          let same : source_of s target ≡ option_map (λ (k : Component). k.provider)
          (best_of t None s.components)
          = rw some.1 (ap (option_map (λ (k : Component). k.provider))
          (source_is t s.components (best_of t None s.components)
          (best_found t s.components state.components_in_order))) in
          source_some s target t (source_of s target) some.1 state same
    ]
