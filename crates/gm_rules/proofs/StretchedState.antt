-- The records once the next stretch of a component was copied to it.
use Rattle.gm_rules.proofs.Common.{◌≡◌, ◌≢◌, ◌∙◌, ◌⊎◌, inl, inr, ⊎_elim, ℕ, ◌<◌, ◌≤◌, ◌+◌, Bool, true, false, refl, sym, ap, subst, List, [], ◌∷◌, map, None, cases_Bool, length-map, same_label, bytes_eq, Mirror, Component, InSync, Inactive, Copying, Has, put, Records, IsState, IsMirror, ComponentFits, IsOf, held_of, members, provider, same_is, same_from, same_tells, same_refl, differ, Has-filter, filter-Has, Has-map, map-Has, one, put-map, put_there, put_stays, put_cases, Ascends-put, advanced, reach, Keeps, keeps_either, keeps_id, mapped_members}
use Rattle.gm_lists.specs.Ordered.{label_lt}
use Rattle.gm_changes.specs.declared.change.Further.{Further}
use Rattle.gm_changes.specs.Decides.{Changed, changed_by}
use Rattle.gm_changes.specs.Stretches.{IsUnfilled, stretched}
use Rattle.gm_changes.proofs.KeptComponents.{keeps_advanced}
use Rattle.gm_rules.proofs.MappedMirror.{Obeys, at_p, obeys_still}
use Rattle.gm_rules.proofs.PlanAdvance.{holding_part, reach_within}

-- ---- the records are a state again

module _ (s : Records) (m : Mirror) (k : Component) (forced : Bool) (held : ℕ)
    (state : IsState s) (here : Has s.mirrors m) (there : Has s.components k)
    (home : k.mirror ≡ m.name) (filled : k.disk ≡ Copying forced held) where
  -- each component as it is afterwards
  abbrev g : Component → Component
  g = at_p k.provider (advanced m)

  -- all of them
  abbrev comps : List Component
  comps = put provider (advanced m k) s.components

  -- what it is, and where, stays
  keeps : Keeps g
  keeps = keeps_either (λ j. same_label j.provider k.provider) (advanced m) (λ j. j)
      (keeps_advanced m) keeps_id

  -- k has gone on
  on : g k ≡ advanced m k
  on = rw (same_refl k.provider) refl

  -- one on another provider is as it was
  off : (j : Component) → j.provider ≢ k.provider → g j ≡ j
  off j d = rw (differ j.provider k.provider d) refl

  -- k is changed where it stands
  comps_are : comps ≡ map g s.components
  comps_are = put-map g provider s.components state.components_in_order (advanced m k) k there refl
      on (λ j h d. off j d)

  -- so is it among those of its mirror
  members_are : (n : List ℕ) → members comps n ≡ map g (members s.components n)
  members_are n = ap (λ (l : List Component). members l n) comps_are
      ∙ mapped_members g keeps s.components n

  -- a component on the provider of k is k
  same_k : (n : List ℕ) (j : Component) → Has (members s.components n) j
      → j.provider ≡ k.provider → k ≡ j
  same_k n j h e = one provider s.components state.components_in_order k j there
      (Has-filter (λ (i : Component). same_label i.mirror n) s.components j h).0 (sym e)

  -- what holds of k once it has gone on, and of the others as they are, holds of each
  either : (n : List ℕ) (P : Component → Component → Type 0)
      → (Has (members s.components n) k → P k (advanced m k))
      → ((j : Component) → Has (members s.components n) j → j.provider ≢ k.provider → P j j)
      → (j : Component) → Has (members s.components n) j → P j (g j)
  either n P new rest j h =
      elim (same_tells j.provider k.provider) [
        | inl e ↦ rw e.0 (subst (λ (i : Component). Has (members s.components n) i
            → P i (advanced m i)) (same_k n j h e.1) new h)
        | inr d ↦ rw d.0 (rest j h d.1)
      ]

  -- a mirror that has k is m
  mine : (a : Mirror) → Has s.mirrors a → Has (members s.components a.name) k → m ≡ a
  mine a h i =
      let e : k.mirror ≡ a.name =
      same_is k.mirror a.name (Has-filter (λ (j : Component). same_label j.mirror a.name)
      s.components k i).1 in
      one (λ (x : Mirror). x.name) s.mirrors state.mirrors_in_order m a here h (sym home ∙ e)

  -- k keeps the rules of m
  k_obeys : Has (members s.components m.name) k → Obeys m m (advanced m k)
  k_obeys i =
      let rules : IsMirror m (members s.components m.name) = state.each m here in
      record {
        priority = (rules.members_fit k i).priority;
        held = holding_part m (reach m k) k.disk forced held filled
            (reach_within m k (rules.held k i)).1 rules.some;
        syncid = rules.syncids k i;
        current = λ d. rules.current k i (λ e. let f : ⊥ = cc in f);
      }

  module _ (a : Mirror) (h : Has s.mirrors a) where
    -- those of mirror a before
    abbrev old : List Component
    old = members s.components a.name

    -- they keep its rules
    abbrev rules : IsMirror a old
    rules = state.each a h

    -- each keeps the rules of its own afterwards
    obeys : (j : Component) → Has old j → Obeys a a (g j)
    obeys = either a.name (λ o j. Obeys a a j)
        (λ i. subst (λ (x : Mirror). Has (members s.components x.name) k
        → Obeys x x (advanced m k)) (mine a h i) k_obeys i)
        (λ j i d. obeys_still a a old j rules i refl)

    -- for each of those afterwards: it is g of an old one
    each_of : (P : Component → Type 0) → ((j : Component) → Has old j → P (g j)) → (j : Component)
        → Has (map g old) j → P j
    each_of P f j i = let r = Has-map g old j i in subst P r.2 (f r.0 r.1)

    -- two of one number are still one
    same_dids : (i : Component) → Has old i → (j : Component) → Has (map g old) j
        → (g i).did ≡ j.did → g i ≡ j
    same_dids i p = each_of (λ j. (g i).did ≡ j.did → g i ≡ j)
        (λ l q e. ap g (rules.dids i p l q (sym (keeps.did i) ∙ e ∙ keeps.did l)))

    -- the one that is in sync isn't k
    active : (j : Component) × Has (map g old) j × (j.disk ≡ InSync)
    active =
        let j : Component = rules.active.0 in
        let p : Has old j = rules.active.1 in
        let e : j.disk ≡ InSync = rules.active.2 in
        let other : j.provider ≢ k.provider =
        λ d. (let same : k ≡ j = same_k a.name j p d in
        let f : k.disk ≡ InSync = ap (λ (x : Component). x.disk) same ∙ e in
        let no : ⊥ = cc in no) in
        (g j, map-Has g old j p, ap (λ (x : Component). x.disk) (off j other) ∙ e)

    -- all of them keep the rules of a mirror afterwards
    rules_after : IsMirror a (map g old)
    rules_after = record {
      fits = rules.fits;
      members_fit = each_of ComponentFits (λ j i. record {
        provider = rw (keeps.provider j) (rules.members_fit j i).provider;
        did = rw (keeps.did j) (rules.members_fit j i).did;
        priority = (obeys j i).priority;
      });
      some = rules.some;
      all = rules.all;
      room = rw (length-map old g) rules.room;
      active = active;
      sizes = each_of (λ j. a.data_sectors + 1 ≤ j.sectors)
          (λ j i. rw (keeps.sectors j) (rules.sizes j i));
      limits = each_of (λ j. j.sectors ≤ 1048576)
          (λ j i. rw (keeps.sectors j) (rules.limits j i));
      held = each_of (λ j. held_of j.disk < a.data_sectors) (λ j i. (obeys j i).held);
      dids = each_of (λ i. (j : Component) → Has (map g old) j → i.did ≡ j.did → i ≡ j) same_dids;
      syncids = each_of (λ j. j.syncid ≤ a.syncid) (λ j i. (obeys j i).syncid);
      current = each_of (λ j. j.disk ≢ Inactive → j.syncid ≡ a.syncid)
          (λ j i. (obeys j i).current);
    }

  -- each component has its mirror
  homes : (j : Component) → Has comps j → (a : Mirror) × Has s.mirrors a × (a.name ≡ j.mirror)
  homes j h =
      let r = Has-map g s.components j (subst (λ (l : List Component). Has l j) comps_are h) in
      let a = state.homes r.0 r.1 in
      (a.0, a.1, a.2 ∙ sym (keeps.mirror r.0) ∙ ap (λ (x : Component). x.mirror) r.2)

  -- the records stay a state when a component of a mirror has gone on by a stretch
  pub stretched_state : IsState (record {
    mirrors = s.mirrors;
    components = put provider (advanced m k) s.components;
  })
  stretched_state = record {
    mirrors_in_order = state.mirrors_in_order;
    components_in_order =
        Ascends-put provider (advanced m k) s.components state.components_in_order;
    count = state.count;
    each = λ a h. subst (λ (l : List Component). IsMirror a l) (sym (members_are a.name))
        (rules_after a h);
    mids = state.mids;
    homes = homes;
  }

-- ---- one change after the other

-- what is put last is what stays
put_last : {X : Type 0} (key : X → List ℕ) (x y : X) (zs : List X) → key x ≡ key y
    → put key x (put key y zs) ≡ put key x zs
put_last key x y [] e = rw (same_from (key x) (key y) e) refl
put_last key x y (z ∷ zs) e =
    let at : bytes_eq (key x) (key y) ≡ true = same_from (key x) (key y) e in
    elim (cases_Bool (bytes_eq (key y) (key z))) [
      | inl t ↦ (let u : bytes_eq (key x) (key z) ≡ true =
          subst (λ (n : List ℕ). bytes_eq n (key z) ≡ true) (sym e) t in
          rw (t, u) (rw at refl))
      | inr t ↦
          let u : bytes_eq (key x) (key z) ≡ false =
          subst (λ (n : List ℕ). bytes_eq n (key z) ≡ false) (sym e) t in
          elim (cases_Bool (label_lt (key y) (key z))) [
            | inl l ↦ (let v : label_lt (key x) (key z) ≡ true =
                subst (λ (n : List ℕ). label_lt n (key z) ≡ true) (sym e) l in
                rw (t, l, u, v) (rw at refl))
            | inr l ↦ (let v : label_lt (key x) (key z) ≡ false =
                subst (λ (n : List ℕ). label_lt n (key z) ≡ false) (sym e) l in
                rw (t, l, u, v) (ap (λ ws. z ∷ ws) (put_last key x y zs e)))
          ]
    ]

module _ (s : Records) (ch : Changed) (m : Mirror) (k : Component) (f : Further)
    (unfilled : IsUnfilled ch k) (bare : ch.mirror ≡ None) (stays : ch.gone_mirror ≡ None)
    (all_stay : ch.gone_components ≡ []) where
  -- the longer change puts the component over what the shorter one makes
  pub put_over : changed_by (stretched m k f ch) s
      ≡ record {
        mirrors = s.mirrors;
        components = put provider (advanced m k) (changed_by ch s).components;
      }
  put_over =
      let last : put provider (advanced m k) (put provider k s.components)
      ≡ put provider (advanced m k) s.components =
      put_last provider (advanced m k) k s.components refl in
      rw (bare, stays, all_stay, unfilled.alone) (rw last refl)

  -- the longer change makes the same of records that have the shorter one already
  pub put_twice : changed_by (stretched m k f ch) (changed_by ch s)
      ≡ changed_by (stretched m k f ch) s
  put_twice =
      let last : put provider (advanced m k) (put provider k s.components)
      ≡ put provider (advanced m k) s.components =
      put_last provider (advanced m k) k s.components refl in
      rw (bare, stays, all_stay, unfilled.alone) (rw last refl)

-- ---- which component is of which mirror

-- a component of a mirror afterwards is k, gone on, or one that was the mirror's before
pub stretched_is : (s : Records) (m n : Mirror) (k j : Component) → IsState s → Has s.mirrors m
    → Has s.components k → k.mirror ≡ m.name
    → IsOf (record { mirrors = s.mirrors; components = put provider (advanced m k) s.components }) n
    j → (j ≡ advanced m k) ⊎ (IsOf s n j × (j.provider ≢ k.provider))
stretched_is s m n k j state here there home of =
    let r = Has-filter (λ (i : Component). same_label i.mirror n.name)
    (put provider (advanced m k) s.components) j of.component in
    ⊎_elim (λ (e : advanced m k ≡ j). inl (sym e))
    (λ (o : Has s.components j × (j.provider ≢ k.provider)). inr (
      record {
        mirror = of.mirror;
        component =
            filter-Has (λ (i : Component). same_label i.mirror n.name) s.components j o.0 r.1;
      },
      o.1,
    ))
    (put_cases provider (advanced m k) s.components state.components_in_order j r.0)

-- k, gone on, is one of its mirror afterwards
pub stretched_has : (s : Records) (m : Mirror) (k : Component) → Has s.mirrors m
    → k.mirror ≡ m.name
    → IsOf (record { mirrors = s.mirrors; components = put provider (advanced m k) s.components }) m
    (advanced m k)
stretched_has s m k here home = record {
  mirror = here;
  component = filter-Has (λ (i : Component). same_label i.mirror m.name)
      (put provider (advanced m k) s.components) (advanced m k)
      (put_there provider (advanced m k) s.components) (same_from k.mirror m.name home);
}

-- a component on another provider is its mirror's afterwards too
pub stretched_keeps : (s : Records) (m n : Mirror) (k j : Component) → IsOf s n j
    → j.provider ≢ k.provider
    → IsOf (record { mirrors = s.mirrors; components = put provider (advanced m k) s.components }) n
    j
stretched_keeps s m n k j of d =
    let r = Has-filter (λ (i : Component). same_label i.mirror n.name) s.components j of.component
    in
    record {
      mirror = of.mirror;
      component = filter-Has (λ (i : Component). same_label i.mirror n.name)
          (put provider (advanced m k) s.components) j
          (put_stays provider (advanced m k) s.components j r.0 d) r.1;
    }
