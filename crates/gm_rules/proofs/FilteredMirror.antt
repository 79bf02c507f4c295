-- A command that drops components of a mirror: the mirror has another record, and the components
-- that stay are as they were.
use Rattle.gm_rules.proofs.Common.{◌≡◌, ◌≢◌, ◌∙◌, inl, ℕ, ◌<◌, ◌≤◌, ◌+◌, Bool, true, false, sym, ap, subst, arith, List, Some, filter, length, list_any, same_label, Command, Mirror, Component, InSync, Has, Ascends, Records, IsMirror, members, provider, World, Sound, present, same_is, filter_swap, filter_id, one, Has-filter, filter-Has, Ascends-filter, not_both, some_and, after, clears, intents_of, laid_over, is_awaited, seen_of}
use Rattle.gm_rules.proofs.LaidOver.{nothing_laid}
use Rattle.gm_rules.proofs.PlanOf.{IsCleared, Nothing, PlanOf, TakesNothing, written}
use Rattle.gm_rules.proofs.RuledOut.{Names}
use Rattle.gm_rules.proofs.TurnedMirror.{Adjusts, Renews, adjusts_data, adjusts_turns, renewed_fits, with_put}

-- the provider q is that of a component of the mirror that goes, and is there
pub record IsDropped (u : World) (m : Mirror) (stays : Component → Bool) (q : List ℕ) : Type 0 where
  pub component : Component
  pub mine : Has (members u.state.components m.name) component
  pub on : component.provider ≡ q
  pub goes : stays component ≡ false
  pub there : present u component.provider ≡ Some component.sectors

module _ (u : World) (m : Mirror) (stays : Component → Bool) (sound : Sound u)
    (here : Has u.state.mirrors m) where
  -- so it can be cleared: a provider is one component's
  pub drops : (ms : List Mirror) (q : List ℕ) → IsDropped u m stays q
      → IsCleared u (record { mirrors = ms; components = filter stays u.state.components }) q
  drops ms q d =
      let rules : IsMirror m (members u.state.components m.name) = sound.state.each m here in
      let k : Component = d.component in
      subst (λ (p : List ℕ).
      IsCleared u (record { mirrors = ms; components = filter stays u.state.components }) p) d.on
      (record {
        there = some_and (present u k.provider) k.sectors (λ n. 0 < n) d.there
            (let size : m.data_sectors + 1 ≤ k.sectors = rules.sizes k d.mine in omega arith);
        label = (rules.members_fit k d.mine).provider;
        free = λ j h e.
            let r = Has-filter stays u.state.components j h in
            let i = Has-filter (λ (c : Component). same_label c.mirror m.name) u.state.components k
            d.mine in
            let same : j ≡ k = one provider u.state.components sound.state.components_in_order j k
            r.0 i.0 e in
            not_both (stays j) r.1 (ap stays same ∙ d.goes);
      })

  -- if the others stay, their components do
  pub others_stay : ((k : Component) → Has u.state.components k → k.mirror ≢ m.name
      → stays k ≡ true) → (n : List ℕ) → n ≢ m.name
      → members (filter stays u.state.components) n ≡ members u.state.components n
  others_stay alone n d =
      filter_swap (λ (c : Component). same_label c.mirror n) stays u.state.components
      ∙ filter_id stays (members u.state.components n) (λ k h.
      let r = Has-filter (λ (c : Component). same_label c.mirror n) u.state.components k h in
      alone k r.0 (λ e. d (sym (same_is k.mirror n r.1) ∙ e)))

  pub in_order : Ascends provider (filter stays u.state.components)
  in_order = Ascends-filter stays provider u.state.components sound.state.components_in_order

-- What the command makes of mirror m and its components: m' of it, and of them those that stay; the
-- providers gone are of those that go.
pub record Filters (u : World) (c : Command) (m m' : Mirror) (stays : Component → Bool)
    (gone : List (List ℕ)) : Type 0 where
  pub waits : (k : Component) → stays k ≡ true → is_awaited c k ≡ true
  pub alone : (k : Component) → Has u.state.components k → k.mirror ≢ m.name → stays k ≡ true
  pub same : Renews m m'
  pub same_syncid : m'.syncid ≡ m.syncid
  pub room : length (filter stays (members u.state.components m.name)) ≤ m'.all
  pub active : (k : Component) × Has (members u.state.components m.name) k × (k.disk ≡ InSync)
      × (stays k ≡ true)
  pub after_is : with_put u.state m' (filter stays u.state.components)
      ≡ after (seen_of u) c u.state
  pub intents : (s : Records) → written Nothing gone (members s.components m.name)
      ≡ intents_of c u.state s
  pub dropped : (q : List ℕ) → Has gone q → IsDropped u m stays q
  pub all_gone : (q : List ℕ) → list_any (λ p. same_label p q) gone ≡ clears u.state c q
  pub takes_nothing : TakesNothing u c

module _ (u : World) (c : Command) (m m' : Mirror) (stays : Component → Bool)
    (gone : List (List ℕ)) (of : Names u c m) (a : Filters u c m m' stays gone) where
  abbrev old : List Component
  old = members u.state.components m.name

  abbrev ks : List Component
  ks = filter stays old

  abbrev s : Records
  s = with_put u.state m' (filter stays u.state.components)

  abbrev sound : Sound u
  sound = of.may.sound

  abbrev rules : IsMirror m old
  rules = of.rules

  is_old : (j : Component) → Has ks j → Has old j
  is_old j i = (Has-filter stays old j i).0

  adjusts : Adjusts u.state m m' s.components ks
  adjusts = record {
    here = of.here;
    same = a.same;
    in_order = in_order u m stays sound of.here;
    mine = filter_swap (λ (c : Component). same_label c.mirror m.name) stays u.state.components;
    others = others_stay u m stays sound of.here a.alone;
    rules = record {
      fits = renewed_fits m m' a.same rules.fits;
      members_fit = λ j i. rules.members_fit j (is_old j i);
      some = rw a.same.sectors rules.some;
      all = a.same.all;
      room = a.room;
      active = (
        a.active.0,
        filter-Has stays old a.active.0 a.active.1 a.active.3,
        a.active.2,
      );
      sizes = λ j i. rw a.same.sectors (rules.sizes j (is_old j i));
      limits = λ j i. rules.limits j (is_old j i);
      held = λ j i. rw a.same.sectors (rules.held j (is_old j i));
      dids = λ i x j y e. rules.dids i (is_old i x) j (is_old j y) e;
      syncids = λ j i. rw a.same_syncid (rules.syncids j (is_old j i));
      current = λ j i n. rw a.same_syncid (rules.current j (is_old j i) n);
    };
  }

  pub filters_plan : PlanOf u c
  filters_plan = record {
    mirror = m';
    components = ks;
    list = laid_over c m.name (u.holds m.name);
    records = s;
    fill = Nothing;
    gone = gone;
    told = ks;
    turns = adjusts_turns u.state m m' s.components ks sound.state adjusts;
    after_is = a.after_is;
    intents = subst (λ (l : List Component). written Nothing gone l ≡ intents_of c u.state s)
        adjusts.mine (a.intents s);
    bytes = a.takes_nothing.4;
    named = λ j i. rw a.same.name of.named;
    reply = a.takes_nothing.1;
    there = λ j i. let r = Has-filter stays old j i in of.there j r.0 (a.waits j r.1);
    below = λ j i. rw a.same.sectors (λ x l.
        sound.whole m j (record { mirror = of.here; component = is_old j i }) x l
        ∙ sym (nothing_laid c (sym a.takes_nothing.4) m.name (u.holds m.name) x));
    same_data = adjusts_data u c m m' s.components ks sound adjusts;
    new = λ w e. a.takes_nothing.2 w;
    bare = λ w e. a.takes_nothing.3 w;
    can_fill = tt;
    filled = a.takes_nothing.0;
    cleared = λ q h. drops u m stays sound of.here s.mirrors q (a.dropped q h);
    all_gone = a.all_gone;
    told_are = λ j h. h;
    all_told = λ j h. inl h;
  }
