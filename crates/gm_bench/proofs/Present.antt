-- If no image is lacking, the intents have what they need.
use Rattle.gm_bench.proofs.Common.{◌≡◌, ◌∙◌, inl, inr, ℕ, ◌≤◌, ◌<◌, true, false, ltb-true, eqb-true, List, [], ◌∷◌, Option, Some, None, not, refl, sym, ap, subst, arith, true≢false, IsSomeAnd, flat_map, option_or, not-false, Sizes, same_label, Intent, Meta, Clear, Copy, Dirty, Patch, Mirror, Component, IsOf, IsAtHand, component_of, IsCopyWithin, IsPatchWithin, IsReadable, Records, IsState, members, provider, Has, find_one, found, found_none, Has-append_left, Has-append_right, same_from, filter-Has, member, serves, is_present, absent_among, providers_in, first_absent}
use Rattle.std.proofs.lemmas.List.Folds.{find-append}

found_in : (s : Records) (p : List ℕ) (j : Component) → component_of s p ≡ Some j
    → Has s.components j
found_in s p j e = (found (λ (k : Component). same_label k.provider p) s.components j e).0

in_home : (s : Records) (k : Component) → Has s.components k → (m : Mirror) → m.name ≡ k.mirror
    → Has (members s.components m.name) k
in_home s k h m is =
    filter-Has (λ (j : Component). same_label j.mirror m.name) s.components k h
    (same_from k.mirror m.name (sym is))

-- a provider of an intent is one of all
in_all : (ts : List Intent) (t : Intent) → Has ts t → (p : List ℕ) → Has (providers_in t) p
    → Has (flat_map providers_in ts) p
in_all [] t h p g = absurd h
in_all (r ∷ ts) t (inl same) p g =
    Has-append_left (providers_in r) (flat_map providers_in ts) p
    (subst (λ (x : Intent). Has (providers_in x) p) (sym same) g)
in_all (r ∷ ts) t (inr more) p g =
    Has-append_right (providers_in r) (flat_map providers_in ts) p (in_all ts t more p g)

-- each provider of each intent is there
pub none_absent : (s : Records) (size : Sizes) (ts : List Intent) → first_absent s size ts ≡ None
    → (t : Intent) → Has ts t → (p : List ℕ) → Has (providers_in t) p → is_present s size p ≡ true
none_absent s size ts e t h p g =
    not-false (is_present s size p) (found_none (λ (q : List ℕ). not (is_present s size q))
    (flat_map providers_in ts) e p (in_all ts t h p g))

-- the first of a list is that of its first intent, or one after it
pub first_of : (s : Records) (size : Sizes) (t : Intent) (ts : List Intent)
    → first_absent s size (t ∷ ts) ≡ option_or (absent_among s size (providers_in t))
    (first_absent s size ts)
first_of s size t ts =
    find-append (λ (q : List ℕ). not (is_present s size q)) (providers_in t)
    (flat_map providers_in ts)

some_sector : (k : Option Component) (o : Option ℕ) → serves k o ≡ true
    → ((j : Component) → k ≡ Some j → 0 < j.sectors) → IsSomeAnd o (λ n. 0 < n)
some_sector k None e pos = absurd (true≢false (sym e ∙ same k))
  where
    same : (k : Option Component) → serves k None ≡ false
    same None = refl
    same (Some j) = refl
some_sector None (Some n) e pos = ltb-true 0 n e
some_sector (Some j) (Some n) e pos = let is : n ≡ j.sectors = eqb-true n j.sectors e in
    let p : 0 < j.sectors = pos j refl in omega (arith, is, p)

registered : (k : Component) (o : Option ℕ) → serves (Some k) o ≡ true → o ≡ Some k.sectors
registered k None e = cc
registered k (Some n) e = ap Some (eqb-true n k.sectors e)

at_least : (o : Option ℕ) (n m : ℕ) → o ≡ Some n → m ≤ n → IsSomeAnd o (λ x. m ≤ x)
at_least o n m e l = subst (λ (x : Option ℕ). IsSomeAnd x (λ y. m ≤ y)) (sym e) l

module _ (s : Records) (size : Sizes) (state : IsState s) where
  component_sectors : (p : List ℕ) (j : Component) → component_of s p ≡ Some j → 0 < j.sectors
  component_sectors p j e =
      let f = found_in s p j e in
      let home = state.homes j f in
      let room = (state.each home.0 home.1).sizes j (in_home s j f home.0 home.2) in
      omega (arith, room)

  of_component : (m : Mirror) (k : Component) → IsOf s m k → (p : List ℕ) → k.provider ≡ p
      → is_present s size p ≡ true → size p ≡ Some k.sectors
  of_component m k o p is e =
      let found : component_of s k.provider ≡ Some k =
      find_one provider s.components state.components_in_order k
      (member s m.name k o.component).0 in
      let here : component_of s p ≡ Some k =
      subst (λ (q : List ℕ). component_of s q ≡ Some k) is found in
      registered k (size p) (subst (λ (c : Option Component). serves c (size p) ≡ true) here e)

  hand_one : (t : Intent) → IsReadable s t
      → ((p : List ℕ) → Has (providers_in t) p → is_present s size p ≡ true) → IsAtHand size t
  hand_one (Meta p) r each =
      some_sector (component_of s p) (size p) (each p (inl refl)) (component_sectors p)
  hand_one (Clear p) r each =
      some_sector (component_of s p) (size p) (each p (inl refl)) (component_sectors p)
  hand_one (Copy a b x y) r each =
      let c : IsCopyWithin s a b x y = r in
      let from = of_component c.mirror c.from c.from_is a c.source_is (each a (inr (inl refl))) in
      let to = of_component c.mirror c.to c.to_is b c.target_is (each b (inl refl)) in
      let room_from = (state.each c.mirror c.from_is.mirror).sizes c.from c.from_is.component in
      let room_to = (state.each c.mirror c.to_is.mirror).sizes c.to c.to_is.component in
      let within = c.within in (
        at_least (size a) c.from.sectors y from (omega (arith, room_from, within)),
        at_least (size b) c.to.sectors y to (omega (arith, room_to, within)),
      )
  hand_one (Dirty p) r each =
      some_sector (component_of s p) (size p) (each p (inl refl)) (component_sectors p)
  hand_one (Patch p x y) r each =
      let c : IsPatchWithin s p x y = r in
      let on = of_component c.mirror c.on c.on_is p c.provider_is (each p (inl refl)) in
      let room = (state.each c.mirror c.on_is.mirror).sizes c.on c.on_is.component in
      let within = c.within in
      at_least (size p) c.on.sectors y on (omega (arith, room, within))

  pub at_hand : (ts : List Intent) → ((t : Intent) → Has ts t → IsReadable s t)
      → first_absent s size ts ≡ None → (t : Intent) → Has ts t → IsAtHand size t
  at_hand ts readable none t h =
      hand_one t (readable t h) (λ p g. none_absent s size ts none t h p g)
