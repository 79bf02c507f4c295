-- The plan of advance: the next stretch of a mirror's data is copied to a component, which then
-- says so.
use Rattle.gm_rules.proofs.Common.{◌≡◌, ◌≢◌, ◌∙◌, inl, inr, ℕ, ◌<◌, ◌≤◌, ◌+◌, ◌==◌, Bool, refl, sym, ap, subst, arith, List, [], ◌∷◌, Some, map, nat_le, nat_lt, eqb-true, ltb-true, cases_Bool, lt-ltb, eqb-false, leb-false, same_label, Command, Advance, Mirror, Component, Disk, InSync, Copying, Has, IsMirror, held_by, held_of, members, provider, component_of, source_of, World, Below, ReplyFits, same_is, same_refl, differ, Has-filter, map-Has, find_one, advanced, holding, reach, reply_to, Keeps, is_member}
use Rattle.gm_state.proofs.FoundSource.{source_of_is}
use Rattle.gm_refusals.specs.declared.refusals.Refusal.TheVariants as refusals
use Rattle.gm_changes.proofs.LendingComponent.{is_copying, lender}
use Rattle.gm_rules.proofs.MappedMirror.{Obeys, Reshapes, all_but_one, at_p, either, maps_plan, off, one_put, one_reshapes, one_told}
use Rattle.gm_rules.proofs.PlanOf.{Allowed, Copied, IsLent, PlanOf, Stretch, with_filled}
use Rattle.gm_rules.proofs.RuledOut.{CanTouch, Names, by_name, component_at}

-- ---- what a component holds after a stretch

pub reach_within : (m : Mirror) (k : Component) → held_of k.disk < m.data_sectors
    → (held_of k.disk < reach m k) × (reach m k ≤ m.data_sectors)
reach_within m k h =
    elim (cases_Bool (nat_lt (held_of k.disk + 256) m.data_sectors)) [
      | inl e ↦ (let l : held_of k.disk + 256 < m.data_sectors = ltb-true
          (held_of k.disk + 256) m.data_sectors e in rw e (omega arith, omega arith))
      | inr e ↦ rw e (h, omega arith)
    ]

pub holding_reach : (m : Mirror) (held : ℕ) (d : Disk) (forced : Bool) (was : ℕ)
    → d ≡ Copying forced was → held_by (holding m held d) m.data_sectors ≡ held
holding_reach m held d forced was e =
    elim (cases_Bool (held == m.data_sectors)) [
      | inl all ↦ rw (e, all) (sym (eqb-true held m.data_sectors all))
      | inr part ↦ rw (e, part) refl
    ]

pub holding_part : (m : Mirror) (held : ℕ) (d : Disk) (forced : Bool) (was : ℕ)
    → d ≡ Copying forced was → held ≤ m.data_sectors → 0 < m.data_sectors
    → held_of (holding m held d) < m.data_sectors
holding_part m held d forced was e most some =
    elim (cases_Bool (held == m.data_sectors)) [
      | inl all ↦ rw (e, all) some
      | inr part ↦ (let apart : held ≢ m.data_sectors = eqb-false held m.data_sectors part in
          rw (e, part) (omega arith))
    ]

-- ---- component k of mirror m is filled from component j

module _ (u : World) (m : Mirror) (k j : Component) (of : Names u (Advance m.name k.provider) m)
    (mine : Has (members u.state.components m.name) k)
    (lends : Has (members u.state.components m.name) j) (forced : Bool) (held : ℕ)
    (filled : k.disk ≡ Copying forced held) (active : j.disk ≡ InSync)
    (apart : j.provider ≢ k.provider)
    (source : source_of u.state k.provider ≡ Some j.provider) where
  abbrev c : Command
  c = Advance m.name k.provider

  abbrev old : List Component
  old = members u.state.components m.name

  abbrev end : ℕ
  end = reach m k

  abbrev stretch : Stretch
  stretch = record {
    source = j.provider;
    target = k.provider;
    first = held_of k.disk;
    end = end;
  }

  abbrev rules : IsMirror m old
  rules = of.rules

  within : (held_of k.disk < end) × (end ≤ m.data_sectors)
  within = reach_within m k (rules.held k mine)

  abbrev can : CanTouch u m k.provider
  can = record { member = (k, mine, refl); active = (j, lends, active, apart) }

  obeys : Obeys m m (advanced m k)
  obeys = record {
    priority = (rules.members_fit k mine).priority;
    held = holding_part m end k.disk forced held filled within.1 rules.some;
    syncid = rules.syncids k mine;
    current = λ d. rules.current k mine (λ e. let f : ⊥ = cc in f);
  }

  abbrev f : Component → Component
  f = at_p k.provider (advanced m)

  keeps : Keeps (advanced m)
  keeps = record { provider = λ k. refl; mirror = λ k. refl; did = λ k. refl; sectors = λ k. refl }

  shape : Reshapes u m m f
  shape = one_reshapes u c m k.provider (advanced m) of can keeps obeys

  abbrev told : List Component
  told = advanced m k ∷ []

  lent : IsLent m (map f old) told stretch
  lent = record {
    from = f j;
    to = advanced m k;
    from_is = map-Has f old j lends;
    to_is = inl refl;
    source_is = shape.keeps.provider j;
    target_is = refl;
    other = apart;
    active = ap (λ (i : Component). i.disk)
        (off u c m k.provider (advanced m) of can keeps j apart) ∙ active;
    ordered = (let l : held_of k.disk < end = within.0 in omega arith);
    within = within.1;
  }

  -- what it holds by then was copied from the one that is ACTIVE, or was there
  new_below : Below (with_filled (Copied stretch) told u.shelf) (u.holds m.name) k.provider
      (held_by (advanced m k).disk m.data_sectors)
  new_below i l =
      let most : end ≤ m.data_sectors = within.1 in
      let l' : i < end =
      subst (λ (n : ℕ). i < n) (holding_reach m end k.disk forced held filled) l in
      elim (cases_Bool (nat_le (held_of k.disk) i)) [
        | inl e ↦ rw (same_refl k.provider, e, lt-ltb i end l') (of.may.sound.whole m j (record {
          mirror = of.here;
          component = lends;
        }) i (rw active (omega arith)))
        | inr e ↦ (let less : i < held_of k.disk = leb-false (held_of k.disk) i e in
            rw (same_refl k.provider, e) (of.may.sound.whole m k (record {
              mirror = of.here;
              component = mine;
            }) i (rw filled (rw filled at less))))
      ]

  below : (i : Component) → Has old i → Below (with_filled (Copied stretch) told u.shelf)
      (u.holds m.name) i.provider (held_by (f i).disk m.data_sectors)
  below = either u c m k.provider (advanced m) of can keeps
      (λ o i. Below (with_filled (Copied stretch) told u.shelf) (u.holds m.name) o.provider
      (held_by i.disk m.data_sectors))
      new_below
      (λ i h d x l. rw (differ k.provider i.provider (λ e. d (sym e)))
      (of.may.sound.whole m i (record { mirror = of.here; component = h }) x l))

  at : component_of u.state k.provider ≡ Some k
  at = component_at u m k.provider of.may.sound.state can

  replies : ReplyFits (reply_to c u.state)
  replies =
      let l : held_of k.disk < end = within.0 in
      let most : end ≤ m.data_sectors = within.1 in
      let size : m.data_sectors + 1 ≤ k.sectors = rules.sizes k mine in
      let limit : k.sectors ≤ 1048576 = rules.limits k mine in
      rw (of.found, at) (omega arith, most, omega arith)

  filling_plan : PlanOf u c
  filling_plan = maps_plan u c m m f (Copied stretch) told of (record {
    shape = shape;
    waits = λ i. refl;
    below = below;
    after_is = one_put u c m k.provider (advanced m) of can keeps ∙ rw (of.found, at) refl;
    intents = rw (source, of.found, at) refl;
    bytes = refl;
    reply = replies;
    new = λ w. tt;
    bare = λ w. tt;
    can_fill = lent;
    filled = λ q i. rw (of.found, at) refl;
    none = λ q. refl;
    told_are = one_told u c m k.provider (advanced m) of can keeps;
    all_told = all_but_one u c m k.provider (advanced m) of can keeps;
  })

pub advance_plan : (u : World) (n p : List ℕ) → Allowed u (Advance n p) → PlanOf u (Advance n p)
advance_plan u n p may =
    by_name u (λ a. Advance a p) n may (λ a. refl) (λ a. refl) (λ a. refl) (λ m of.
    let s = u.state in
    let state = of.may.sound.state in
    let good = of.may.good in
    let k = is_member (members s.components m.name) p (good refusals.NotMember refl) in
    let mine = Has-filter (λ (i : Component). same_label i.mirror m.name) s.components k.0 k.1 in
    let at : component_of s p ≡ Some k.0 =
    subst (λ (q : List ℕ). component_of s q ≡ Some k.0) k.2
    (find_one provider s.components state.components_in_order k.0 mine.0) in
    let home : k.0.mirror ≡ m.name = same_is k.0.mirror m.name mine.1 in
    let filled = is_copying s m.name p state m k.0 of.found at home
    (good refusals.NotSynchronizing refl) in
    let from = lender s m.name p state m k.0 of.found at home (λ e. (let f : ⊥ = cc in f))
    (source_of s p) (source_of_is s p state) in
    subst (λ (q : List ℕ). from.0.provider ≢ q → source_of s q ≡ Some from.0.provider
    → Names u (Advance m.name q) m → PlanOf u (Advance m.name q)) k.2
    (λ apart source of. filling_plan u m k.0 from.0 of k.1 from.2 filled.0 filled.1 filled.2 from.3
    apart source) from.4 from.1 of)
