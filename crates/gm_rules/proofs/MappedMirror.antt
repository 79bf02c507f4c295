-- A command that keeps the components of its mirror: the mirror has another record, and each
-- component is changed where it stands.
use Rattle.gm_rules.proofs.Common.{◌≡◌, ◌≢◌, ◌∙◌, ◌⊎◌, inl, inr, ⊎_elim, ℕ, ◌<◌, ◌≤◌, ◌-◌, ◌+◌, ◌^◌, Bool, true, false, refl, sym, ap, ap₂, subst, arith, List, [], ◌∷◌, Some, length, map, cond, cases_Bool, length-map, same_label, encoded, Command, Meta, Mirror, Component, Disk, InSync, Inactive, Copying, Has, Ascends, put, put_all, Records, IsMirror, ComponentFits, held_by, held_of, members, name, provider, is_inactive, metadata, World, Sound, Below, ReplyFits, present, same_is, same_from, same_tells, differ, Has-filter, Has-map, map-Has, one, map_id, put-map, Ascends-put_all, after, bytes_of, clears, fills, freshened, intents_of, laid_over, metas, reply_to, Keeps, keeps_either, keeps_id, keeps_where, mapped_members, members_put, put-again, put_mapped, where_of, is_awaited, seen_of, NewData, WereBare}
use Rattle.gm_rules.proofs.LaidOver.{nothing_laid}
use Rattle.gm_rules.proofs.PlanOf.{CanFill, Fill, Nothing, PlanOf, TakesNothing, bytes_in, is_filled, with_filled, written}
use Rattle.gm_rules.proofs.RuledOut.{CanTouch, Names}
use Rattle.gm_rules.proofs.TurnedMirror.{Adjusts, Renews, adjusts_data, adjusts_turns, renewed_fits, with_put}

-- component k keeps the rules of m', which was m
pub record Obeys (m m' : Mirror) (k : Component) : Type 0 where
  pub priority : k.priority < 2 ^ 8
  pub held : held_of k.disk < m.data_sectors
  pub syncid : k.syncid ≤ m'.syncid
  pub current : k.disk ≢ Inactive → k.syncid ≡ m'.syncid

-- so it does if it isn't changed, and the mirror's syncid isn't either
pub obeys_still : (m m' : Mirror) (ks : List Component) (k : Component) → IsMirror m ks → Has ks k
    → m'.syncid ≡ m.syncid → Obeys m m' k
obeys_still m m' ks k rules h e = record {
  priority = (rules.members_fit k h).priority;
  held = rules.held k h;
  syncid = rw e (rules.syncids k h);
  current = rw e (rules.current k h);
}

-- and if the mirror counts a sync more: INACTIVE ones lag behind, and the others keep up
pub fresh_disk : (syncid : ℕ) (k : Component) → (freshened syncid k).disk ≡ k.disk
fresh_disk syncid k =
    elim (cases_Bool (is_inactive k.disk)) [ inl e ↦ rw e refl | inr e ↦ rw e refl ]

inactive_is : (d : Disk) → is_inactive d ≡ true → d ≡ Inactive
inactive_is InSync e = cc
inactive_is Inactive e = refl
inactive_is (Copying f h) e = cc

pub obeys_freshened : (m m' : Mirror) (ks : List Component) (k : Component) → IsMirror m ks
    → Has ks k → m'.syncid ≡ m.syncid + 1 → Obeys m m' (freshened (m.syncid + 1) k)
obeys_freshened m m' ks k rules h e =
    let priority : k.priority < 2 ^ 8 = (rules.members_fit k h).priority in
    let behind : k.syncid ≤ m.syncid = rules.syncids k h in
    elim (cases_Bool (is_inactive k.disk)) [
      | inl off ↦ rw off (record {
        priority = priority;
        held = rules.held k h;
        syncid = omega (arith, e);
        current = λ d. absurd (d (inactive_is k.disk off));
      })
      | inr off ↦ rw off (record {
        priority = priority;
        held = rules.held k h;
        syncid = omega (arith, e);
        current = λ d. sym e;
      })
    ]

-- the components of other mirrors are as they were
members_others : (n : List ℕ) (g : Component → Component) → Keeps g → (ks : List Component)
    → Ascends provider ks → (n' : List ℕ) → n' ≢ n
    → members (put_all provider (map g (members ks n)) ks) n' ≡ members ks n'
members_others n g keeps ks order n' d =
    ap (λ (l : List Component). members l n') (put_mapped n g keeps ks order)
    ∙ mapped_members (where_of n g) (keeps_where n g keeps) ks n'
    ∙ map_id (where_of n g) (members ks n') (λ k i.
    let r = Has-filter (λ (j : Component). same_label j.mirror n') ks k i in
    rw (differ k.mirror n (λ e. d (sym (same_is k.mirror n' r.1) ∙ e))) refl)

-- ---- the command

-- What the command makes of mirror m and its components: m' of the one, and g of each of the
-- others.
pub record Reshapes (u : World) (m m' : Mirror) (g : Component → Component) : Type 0 where
  pub same : Renews m m'
  pub keeps : Keeps g
  pub room : length (members u.state.components m.name) ≤ m'.all
  pub active : (k : Component) × Has (members u.state.components m.name) k × ((g k).disk ≡ InSync)
  pub each : (k : Component) → Has (members u.state.components m.name) k → Obeys m m' (g k)

abbrev pub reshaped : World → Mirror → Mirror → (Component → Component) → Records
reshaped u m m' g = with_put u.state m'
    (put_all provider (map g (members u.state.components m.name)) u.state.components)

-- It may bring data to them, and those told are the ones whose metadata it writes; the others say
-- what they said.
pub record Maps (u : World) (c : Command) (m m' : Mirror) (g : Component → Component)
    (fill : Fill) (told : List Component) : Type 0 where
  pub shape : Reshapes u m m' g
  pub waits : (k : Component) → is_awaited c k ≡ true
  pub below : (k : Component) → Has (members u.state.components m.name) k
      → Below (with_filled fill told u.shelf) (laid_over c m.name (u.holds m.name)) k.provider
      (held_by (g k).disk m.data_sectors)
  pub after_is : reshaped u m m' g ≡ after (seen_of u) c u.state
  pub intents : written fill [] told ≡ intents_of c u.state (reshaped u m m' g)
  pub bytes : bytes_in fill ≡ bytes_of c
  pub reply : ReplyFits (reply_to c u.state)
  pub new : (w : World) → NewData u c w
  pub bare : (w : World) → WereBare c u w
  pub can_fill : CanFill u m' (map g (members u.state.components m.name)) told [] fill
  pub filled : (q : List ℕ) (j : ℕ) → is_filled fill told q j ≡ fills u.state c q j
  pub none : (q : List ℕ) → false ≡ clears u.state c q
  pub told_are : (k : Component) → Has told k
      → Has (map g (members u.state.components m.name)) k
  pub all_told : (k : Component) → Has (members u.state.components m.name) k → Has told (g k)
      ⊎ (metadata m' (g k) ≡ metadata m k)

module _ (u : World) (c : Command) (m m' : Mirror) (g : Component → Component)
    (fill : Fill) (told : List Component) (of : Names u c m)
    (a : Maps u c m m' g fill told) where
  abbrev shape : Reshapes u m m' g
  shape = a.shape

  abbrev sound : Sound u
  sound = of.may.sound

  abbrev old : List Component
  old = members u.state.components m.name

  abbrev ks : List Component
  ks = map g old

  abbrev comps : List Component
  comps = put_all provider ks u.state.components

  abbrev rules : IsMirror m old
  rules = of.rules

  -- for each of ks: it is g of an old one
  each_of : (P : Component → Type 0) → ((k : Component) → Has old k → P (g k)) → (j : Component)
      → Has ks j → P j
  each_of P h j i = let r = Has-map g old j i in subst P r.2 (h r.0 r.1)

  same_dids : (k : Component) → Has old k → (j : Component) → Has ks j → (g k).did ≡ j.did → g k ≡ j
  same_dids k h = each_of (λ j. (g k).did ≡ j.did → g k ≡ j)
      (λ l i e. ap g (rules.dids k h l i (sym (shape.keeps.did k) ∙ e ∙ shape.keeps.did l)))

  rules' : IsMirror m' ks
  rules' = record {
    fits = renewed_fits m m' shape.same rules.fits;
    members_fit = each_of ComponentFits (λ k i. let r = rules.members_fit k i in
        record {
          provider = rw (shape.keeps.provider k) r.provider;
          did = rw (shape.keeps.did k) r.did;
          priority = (shape.each k i).priority;
        });
    some = rw shape.same.sectors rules.some;
    all = shape.same.all;
    room = rw (length-map old g) shape.room;
    active = (g shape.active.0, map-Has g old shape.active.0 shape.active.1, shape.active.2);
    sizes = each_of (λ j. m'.data_sectors + 1 ≤ j.sectors)
        (λ k i. rw (shape.same.sectors, shape.keeps.sectors k) (rules.sizes k i));
    limits = each_of (λ j. j.sectors ≤ 1048576)
        (λ k i. rw (shape.keeps.sectors k) (rules.limits k i));
    held = each_of (λ j. held_of j.disk < m'.data_sectors)
        (λ k i. rw shape.same.sectors (shape.each k i).held);
    dids = each_of (λ i. (j : Component) → Has ks j → i.did ≡ j.did → i ≡ j) same_dids;
    syncids = each_of (λ j. j.syncid ≤ m'.syncid) (λ k i. (shape.each k i).syncid);
    current = each_of (λ j. j.disk ≢ Inactive → j.syncid ≡ m'.syncid)
        (λ k i. (shape.each k i).current);
  }

  adjusts : Adjusts u.state m m' comps ks
  adjusts = record {
    here = of.here;
    same = shape.same;
    in_order = Ascends-put_all provider ks u.state.components sound.state.components_in_order;
    mine = members_put m.name g shape.keeps u.state.components sound.state.components_in_order;
    others = λ n d. members_others m.name g shape.keeps u.state.components
        sound.state.components_in_order n d;
    rules = rules';
  }

  -- a last sector that isn't written says the same as before
  as_it_was : (k : Component) → Has old k → metadata m' (g k) ≡ metadata m k
      → u.shelf (g k).provider ((g k).sectors - 1) ≡ encoded (metadata m' (g k))
  as_it_was k h e =
      ap₂ (λ (p : List ℕ) (n : ℕ). u.shelf p (n - 1)) (shape.keeps.provider k)
      (shape.keeps.sectors k)
      ∙ (sound.full m k (record { mirror = of.here; component = h }) ∙ ap encoded (sym e))

  pub maps_plan : PlanOf u c
  maps_plan = record {
    mirror = m';
    components = ks;
    list = laid_over c m.name (u.holds m.name);
    records = reshaped u m m' g;
    fill = fill;
    gone = [];
    told = told;
    turns = adjusts_turns u.state m m' comps ks sound.state adjusts;
    after_is = a.after_is;
    intents = a.intents;
    bytes = a.bytes;
    named = λ j i. rw shape.same.name of.named;
    reply = a.reply;
    there = each_of (λ j. present u j.provider ≡ Some j.sectors)
        (λ k i. rw (shape.keeps.provider k, shape.keeps.sectors k)
        (of.there k i (a.waits k)));
    below = each_of (λ j. Below (with_filled fill told u.shelf)
        (laid_over c m.name (u.holds m.name)) j.provider (held_by j.disk m'.data_sectors))
        (λ k i. rw (shape.keeps.provider k, shape.same.sectors) (a.below k i));
    same_data = adjusts_data u c m m' comps ks sound adjusts;
    new = λ w e. a.new w;
    bare = λ w e. a.bare w;
    can_fill = a.can_fill;
    filled = a.filled;
    cleared = λ q h. absurd h;
    all_gone = a.none;
    told_are = a.told_are;
    all_told = each_of (λ j. Has told j
        ⊎ (u.shelf j.provider (j.sectors - 1) ≡ encoded (metadata m' j)))
        (λ k i. ⊎_elim (λ (h : Has told (g k)). inl h)
        (λ (e : metadata m' (g k) ≡ metadata m k). inr (as_it_was k i e)) (a.all_told k i));
  }

-- a component that holds no more than it did has its data, if nothing is laid over them
less_below : (u : World) (c : Command) (m : Mirror) (k : Component) (n : ℕ) → Sound u
    → Has u.state.mirrors m → Has (members u.state.components m.name) k
    → n ≤ held_by k.disk m.data_sectors → [] ≡ bytes_of c
    → Below u.shelf (laid_over c m.name (u.holds m.name)) k.provider n
less_below u c m k n sound here h less none i l =
    sound.whole m k (record { mirror = here; component = h }) i (omega arith)
    ∙ sym (nothing_laid c (sym none) m.name (u.holds m.name) i)

-- ---- all of the components are written

-- None of them holds more than it did.
pub record Rewrites (u : World) (c : Command) (m m' : Mirror)
    (g : Component → Component) : Type 0 where
  pub shape : Reshapes u m m' g
  pub waits : (k : Component) → is_awaited c k ≡ true
  pub holds : (k : Component) → Has (members u.state.components m.name) k
      → held_by (g k).disk m.data_sectors ≤ held_by k.disk m.data_sectors
  pub after_is : reshaped u m m' g ≡ after (seen_of u) c u.state
  pub intents : (s : Records) → metas (members s.components m.name) ≡ intents_of c u.state s
  pub none : (q : List ℕ) → false ≡ clears u.state c q
  pub takes_nothing : TakesNothing u c

pub rewrites_plan : (u : World) (c : Command) (m m' : Mirror) (g : Component → Component)
    → Names u c m → Rewrites u c m m' g → PlanOf u c
rewrites_plan u c m m' g of a =
    let ks : List Component = map g (members u.state.components m.name) in
    maps_plan u c m m' g Nothing ks of (record {
      shape = a.shape;
      waits = a.waits;
      below = λ k h. less_below u c m k _ of.may.sound of.here h (a.holds k h) a.takes_nothing.4;
      after_is = a.after_is;
      intents = subst (λ (l : List Component). metas l ≡ intents_of c u.state (reshaped u m m' g))
          (members_put m.name g a.shape.keeps u.state.components
          of.may.sound.state.components_in_order) (a.intents (reshaped u m m' g));
      bytes = a.takes_nothing.4;
      reply = a.takes_nothing.1;
      new = a.takes_nothing.2;
      bare = a.takes_nothing.3;
      can_fill = tt;
      filled = a.takes_nothing.0;
      none = a.none;
      told_are = λ k h. h;
      all_told = λ k h. inl (map-Has g (members u.state.components m.name) k h);
    })

-- ---- one component is changed and written

-- a provider is one component's
one_member : (u : World) (m : Mirror) → Sound u → (j k : Component)
    → Has (members u.state.components m.name) j → Has (members u.state.components m.name) k
    → j.provider ≡ k.provider → j ≡ k
one_member u m sound j k h i e =
    let is_mine : Component → Bool = λ c. same_label c.mirror m.name in
    one provider u.state.components sound.state.components_in_order j k
    (Has-filter is_mine u.state.components j h).0 (Has-filter is_mine u.state.components k i).0 e

-- g of the component on p
abbrev pub at_p : List ℕ → (Component → Component) → Component → Component
at_p p g k = cond (same_label k.provider p) (g k) k

module _ (u : World) (c : Command) (m : Mirror) (p : List ℕ) (g : Component → Component)
    (of : Names u c m) (can : CanTouch u m p) (keeps : Keeps g) where
  abbrev mine : List Component
  mine = members u.state.components m.name

  on : (k : Component) → k.provider ≡ p → at_p p g k ≡ g k
  on k e = rw (same_from k.provider p e) refl

  pub off : (k : Component) → k.provider ≢ p → at_p p g k ≡ k
  off k d = rw (differ k.provider p d) refl

  kept : Keeps (at_p p g)
  kept = keeps_either (λ k. same_label k.provider p) g (λ k. k) keeps keeps_id

  only : (j : Component) → Has mine j → j.provider ≡ p → can.member.0 ≡ j
  only j h e = one_member u m of.may.sound can.member.0 j can.member.1 h (can.member.2 ∙ sym e)

  -- what holds of g of the one on p, and of the others, holds of each
  pub either : (P : Component → Component → Type 0) → P can.member.0 (g can.member.0)
      → ((k : Component) → Has mine k → k.provider ≢ p → P k k) → (k : Component) → Has mine k
      → P k (at_p p g k)
  either P new rest k i =
      elim (same_tells k.provider p) [
        | inl e ↦ rw e.0 (subst (λ (j : Component). P j (g j)) (only k i e.1) new)
        | inr e ↦ rw e.0 (rest k i e.1)
      ]

  pub one_reshapes : Obeys m m (g can.member.0) → Reshapes u m m (at_p p g)
  one_reshapes obeys = record {
    same = record {
      name = refl;
      mid = refl;
      sectors = refl;
      counts = (of.rules.fits.genid, of.rules.fits.syncid, of.rules.fits.slice);
      all = of.rules.all;
    };
    keeps = kept;
    room = of.rules.room;
    active = (
      can.active.0,
      can.active.1,
      ap (λ (j : Component). j.disk) (off can.active.0 can.active.3) ∙ can.active.2,
    );
    each = either (λ o k. Obeys m m k) obeys (λ j h d. obeys_still m m mine j of.rules h refl);
  }

  -- the records are those with that one put in its place
  pub one_put : reshaped u m m (at_p p g)
      ≡ record u.state { components = put provider (g can.member.0) u.state.components }
  one_put =
      let k : Component = can.member.0 in
      let in_order = of.may.sound.state.components_in_order in
      let f : Component → Component = where_of m.name (at_p p g) in
      let in_all = Has-filter (λ (j : Component). same_label j.mirror m.name) u.state.components k
      can.member.1 in
      let mirrors : put name m u.state.mirrors ≡ u.state.mirrors =
      put-again name u.state.mirrors of.may.sound.state.mirrors_in_order m of.here in
      let all : put_all provider (map (at_p p g) mine) u.state.components
      ≡ map f u.state.components = put_mapped m.name (at_p p g) kept u.state.components in_order in
      let one : put provider (g k) u.state.components ≡ map f u.state.components =
      put-map f provider u.state.components in_order (g k) k in_all.0 (keeps.provider k)
      (rw in_all.1 (on k can.member.2))
      (λ j h d. elim (cases_Bool (same_label j.mirror m.name)) [
        | inl e ↦ rw e (off j (λ e. d (e ∙ sym can.member.2)))
        | inr e ↦ rw e refl
      ]) in
      rw (mirrors, one, all) refl

  -- the changed one is written, the others are as they were
  pub one_told : (k : Component) → Has (g can.member.0 ∷ []) k → Has (map (at_p p g) mine) k
  one_told k h = ⊎_elim (λ (e : g can.member.0 ≡ k).
      subst (λ (j : Component). Has (map (at_p p g) mine) j) (on can.member.0 can.member.2 ∙ e)
      (map-Has (at_p p g) mine can.member.0 can.member.1)) (λ (o : ⊥). absurd o) h

  pub all_but_one : (k : Component) → Has mine k
      → Has (g can.member.0 ∷ []) (at_p p g k) ⊎ (metadata m (at_p p g k) ≡ metadata m k)
  all_but_one = either (λ o j. Has (g can.member.0 ∷ []) j ⊎ (metadata m j ≡ metadata m o))
      (inl (inl refl)) (λ j h d. inr refl)

-- It holds nothing any more.
pub record Restarts (u : World) (c : Command) (m : Mirror) (p : List ℕ) (g : Component → Component)
    (k : Component) : Type 0 where
  pub keeps : Keeps g
  pub waits : (k : Component) → is_awaited c k ≡ true
  pub obeys : Obeys m m (g k)
  pub holds : held_by (g k).disk m.data_sectors ≡ 0
  pub after_is : record u.state { components = put provider (g k) u.state.components }
      ≡ after (seen_of u) c u.state
  pub intents : (s : Records) → Meta p ∷ [] ≡ intents_of c u.state s
  pub none : (q : List ℕ) → false ≡ clears u.state c q
  pub takes_nothing : TakesNothing u c

pub restarts_plan : (u : World) (c : Command) (m : Mirror) (p : List ℕ) (g : Component → Component)
    → Names u c m → (can : CanTouch u m p) → Restarts u c m p g can.member.0 → PlanOf u c
restarts_plan u c m p g of can a =
    let k : Component = can.member.0 in
    let holds : held_by (g k).disk m.data_sectors ≡ 0 = a.holds in
    maps_plan u c m m (at_p p g) Nothing (g k ∷ []) of (record {
      shape = one_reshapes u c m p g of can a.keeps a.obeys;
      waits = a.waits;
      below = λ j h. less_below u c m j _ of.may.sound of.here h (either u c m p g of can a.keeps
          (λ o k. held_by k.disk m.data_sectors ≤ held_by o.disk m.data_sectors)
          (omega (arith, holds)) (λ j h d. omega arith) j h) a.takes_nothing.4;
      after_is = one_put u c m p g of can a.keeps ∙ a.after_is;
      intents = ap (λ (q : List ℕ). Meta q ∷ []) (a.keeps.provider k ∙ can.member.2)
          ∙ a.intents (reshaped u m m (at_p p g));
      bytes = a.takes_nothing.4;
      reply = a.takes_nothing.1;
      new = a.takes_nothing.2;
      bare = a.takes_nothing.3;
      can_fill = tt;
      filled = a.takes_nothing.0;
      none = a.none;
      told_are = one_told u c m p g of can a.keeps;
      all_told = all_but_one u c m p g of can a.keeps;
    })
