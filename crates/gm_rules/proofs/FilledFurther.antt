-- A component that is filled by one advance after another: how far it gets, and what of the world
-- stays.
use Rattle.gm_rules.proofs.Common.{◌≡◌, ◌≢◌, ◌∙◌, ◌⊎◌, inl, inr, ⊎_elim, ℕ, ◌+◌, ◌-◌, ◌<◌, ◌≤◌, ◌==◌, ◌&&◌, Bool, true, false, refl, sym, ap, ap₂, subst, put_cases, present, own, any_from, eq-eqb, none_any, fails_there, on_one, awaited, is_awaited, is_on_any, is_inactive, applies, has_size, not, arith, and-false, any_none, ne_eqb, List, [], ◌∷◌, Some, list_any, cases_Bool, and_parts, eqb-true, nat_le, nat_lt, same_label, Advance, Mirror, Component, Disk, InSync, Copying, Has, put, put_or, put_there, one, find_one, some_any, Has-filter, filter-Has, is_member, Records, IsMirror, IsOf, IsState, held_by, held_of, members, provider, mirror_of, component_of, World, Sound, named, same_from, same_is, same_tells, differ, advanced, fills, holding, reach, IsGood, seen_of, there_from, Step}
use Rattle.std.proofs.lemmas.Bool.{le-ltb, lt-leb}
use Rattle.gm_state.specs.declared.intents.Reply.{Reply}
use Rattle.gm_state.proofs.FoundRecords.{provider_at, rules_of}
use Rattle.gm_lists.specs.Ordered.{label_lt}
use Rattle.std.specs.Str.{bytes_eq}
use Rattle.gm_lists.proofs.Finding.{found}
use Rattle.gm_state.specs.States.{state_by}
use Rattle.gm_refusals.specs.Applies.{is_synchronizing}
use Rattle.gm_refusals.specs.declared.refusals.Refusal.TheVariants as refusals
use Rattle.gm_refusals.specs.declared.refusals.Refusal.{Refusal}
use Rattle.gm_refusals.proofs.Listed.{listed}
use Rattle.gm_changes.proofs.LendingComponent.{is_copying}
use Rattle.gm_rules.proofs.RuledOut.{awaited_there}
use Rattle.gm_rules.specs.Series.{InTurn, Keyed}
use Rattle.gm_rules.proofs.GrownRecords.{is_good}
use Rattle.gm_rules.proofs.PlanAdvance.{holding_reach, reach_within}

-- the component k of the mirror m, which is on p, is being filled
pub record IsFilling (s : Records) (n p : List ℕ) (m : Mirror) (k : Component) : Type 0 where
  pub at_name : mirror_of s n ≡ Some m
  pub at : component_of s p ≡ Some k
  pub home : k.mirror ≡ n
  pub forced : Bool
  pub held : ℕ
  pub copying : k.disk ≡ Copying forced held

-- From u to w the component j of the mirror m became k, which holds more. Nothing else changed in
-- the records, nor did the data of mirrors, nor what providers hold, but for what was copied to it
-- and its last sector.
pub record IsFurther (u w : World) (m : Mirror) (j k : Component) : Type 0 where
  pub state : w.state
      ≡ record { mirrors = u.state.mirrors; components = put provider k u.state.components }
  pub same : k ≡ record j { disk = k.disk }
  pub more : held_by j.disk m.data_sectors < held_by k.disk m.data_sectors
  pub forced : (f : Bool) (held : ℕ) → k.disk ≡ Copying f held
      → (was : ℕ) × (j.disk ≡ Copying f was)
  pub sizes : (q : List ℕ) → w.size q ≡ u.size q
  pub there : (q : List ℕ) → w.there q ≡ u.there q
  pub holds : (a : Mirror) → Has u.state.mirrors a → (i : ℕ) → w.holds a.name i ≡ u.holds a.name i
  pub elsewhere : (q : List ℕ) (i : ℕ) → q ≢ j.provider → w.shelf q i ≡ u.shelf q i
  pub around : (i : ℕ)
      → (i < held_by j.disk m.data_sectors) ⊎ (held_by k.disk m.data_sectors ≤ i)
      → i + 1 ≢ j.sectors → w.shelf j.provider i ≡ u.shelf j.provider i

-- an advance that isn't refused is of a component that is being filled
pub filling_from : (u : World) (n p : List ℕ) → IsState u.state
    → IsGood u.state (seen_of u) (Advance n p)
    → (m : Mirror) × (k : Component) × IsFilling u.state n p m k
filling_from u n p state good =
    let s = u.state in
    let m = there_from (mirror_of s n) (good refusals.NoMirror refl) in
    let k = is_member (members s.components n) p (good refusals.NotMember refl) in
    let mine = Has-filter (λ (i : Component). same_label i.mirror n) s.components k.0 k.1 in
    let at : component_of s p ≡ Some k.0 =
    subst (λ (q : List ℕ). component_of s q ≡ Some k.0) k.2
    (find_one provider s.components state.components_in_order k.0 mine.0) in
    let home : k.0.mirror ≡ n = same_is k.0.mirror n mine.1 in
    let filled =
    is_copying s n p state m.0 k.0 m.1 at home (good refusals.NotSynchronizing refl) in (
      m.0,
      k.0,
      record {
        at_name = m.1;
        at = at;
        home = home;
        forced = filled.0;
        held = filled.1;
        copying = filled.2;
      },
    )

-- ---- what is found of it

module _ (s : Records) (n p : List ℕ) (m : Mirror) (k : Component) (of : IsFilling s n p m k) where
  -- it is registered, on p
  pub registered : Has s.components k
  registered = (found (λ (c : Component). same_label c.provider p) s.components k of.at).0

  pub on_p : k.provider ≡ p
  on_p = provider_at s p k of.at

  -- the mirror is registered under its name
  pub mirror_there : Has s.mirrors m
  mirror_there = (named s n m of.at_name).0

  -- and has that name
  pub mirror_named : m.name ≡ n
  mirror_named = (named s n m of.at_name).1

  -- it is one of the mirror's
  pub its_member : Has (members s.components n) k
  its_member = filter-Has (λ (c : Component). same_label c.mirror n) s.components k registered
      (same_from k.mirror n of.home)

  -- so the component is registered as the mirror's
  pub its_own : IsOf s m k
  its_own = record {
    mirror = mirror_there;
    component = subst (λ (a : List ℕ). Has (members s.components a) k) (sym mirror_named)
        its_member;
  }

  -- what it holds
  pub held_is : held_of k.disk ≡ held_by k.disk m.data_sectors
  held_is = rw of.copying refl

-- ---- one advance

module _ (u v : World) (n p key : List ℕ) (r : Reply) (before : Sound u) (later : Sound v)
    (step : Step u key (Advance n p) v r) (m : Mirror) (k : Component)
    (of : IsFilling u.state n p m k) where
  abbrev new : Component
  new = advanced m k

  abbrev old : List Component
  old = u.state.components

  -- the records after it
  state_is : v.state ≡ record { mirrors = u.state.mirrors; components = put provider new old }
  state_is = rw (of.at_name, of.at) at step.records

  -- how much the component holds then
  reached : held_by new.disk m.data_sectors ≡ reach m k
  reached = holding_reach m (reach m k) k.disk of.forced of.held of.copying

  -- that is more than it held
  more_held : held_by k.disk m.data_sectors < held_by new.disk m.data_sectors
  more_held =
      let rules : IsMirror m (members old n) = rules_of u.state n m before.state of.at_name in
      let l : held_of k.disk < reach m k =
      (reach_within m k (rules.held k (its_member u.state n p m k of))).0 in
      let e : held_of k.disk ≡ held_by k.disk m.data_sectors = held_is u.state n p m k of in
      let f : held_by new.disk m.data_sectors ≡ reach m k = reached in
      omega arith

  -- if it is still being filled, that is forced if it was
  same_forced : (d : Disk) → d ≡ Copying of.forced of.held → (f : Bool) (held : ℕ)
      → holding m (reach m k) d ≡ Copying f held → (was : ℕ) × (d ≡ Copying f was)
  same_forced d is f held e =
      elim (cases_Bool (reach m k == m.data_sectors)) [
        | inl all ↦ (let no : InSync ≡ Copying f held = rw (is, all) at e in
            absurd (let z : ⊥ = cc in z))
        | inr part ↦ (let yes : Copying of.forced (reach m k) ≡ Copying f held =
            rw (is, part) at e in
            let g : of.forced ≡ f = cc in
            (of.held, is ∙ ap (λ b. Copying b of.held) g))
      ]

  -- a component after it is the new one, or stands as it stood
  after_or : (i : Component) → Has v.state.components i → (new ≡ i) ⊎ Has old i
  after_or i h = put_or provider new old i
      (subst (λ (s : Records). Has s.components i) state_is h)

  abbrev ends_there : List ℕ → ℕ → Component → Bool
  ends_there q j i = same_label i.provider q && i.sectors == j + 1

  -- a sector that is neither the last one of a component nor copied stays
  stays : (q : List ℕ) (j : ℕ) → list_any (ends_there q j) v.state.components ≡ false
      → (same_label p q && (nat_le (held_of k.disk) j && nat_lt j (reach m k))) ≡ false
      → v.shelf q j ≡ u.shelf q j
  stays q j none apart =
      let fill : fills u.state (Advance n p) q j ≡ false = rw (of.at_name, of.at) apart in
      step.others q j (rw (none, fill) refl)

  -- so does the last one of a component that was there
  last_stays : (i : Component) → Has v.state.components i → Has old i
      → v.shelf i.provider (i.sectors - 1) ≡ u.shelf i.provider (i.sectors - 1)
  last_stays i h o =
      let a = before.state.homes i o in
      let of_a : (s : Records) → Has s.mirrors a.0 → Has s.components i → IsOf s a.0 i =
      λ s g c. record {
        mirror = g;
        component = filter-Has (λ (x : Component). same_label x.mirror a.0.name) s.components i c
            (same_from i.mirror a.0.name (sym a.2));
      } in
      let there : Has v.state.mirrors a.0 =
      subst (λ (s : Records). Has s.mirrors a.0) (sym state_is) a.1 in
      later.full a.0 i (of_a v.state there h) ∙ sym (before.full a.0 i (of_a u.state a.1 o))

  -- so nothing changes on other providers
  other_providers : (q : List ℕ) (j : ℕ) → q ≢ k.provider → v.shelf q j ≡ u.shelf q j
  other_providers q j d =
      elim (cases_Bool (list_any (ends_there q j) v.state.components)) [
        | inl some ↦
            let i = some_any (ends_there q j) v.state.components some in
            let parts = and_parts (same_label i.0.provider q) (i.0.sectors == j + 1) i.2 in
            let on_q : i.0.provider ≡ q = same_is i.0.provider q parts.0 in
            let count : i.0.sectors ≡ j + 1 = eqb-true i.0.sectors (j + 1) parts.1 in
            let last : i.0.sectors - 1 ≡ j = omega arith in
            let was : Has old i.0 =
            ⊎_elim (λ (e : new ≡ i.0). absurd (d (sym on_q ∙ sym (ap provider e))))
            (λ (o : Has old i.0). o) (after_or i.0 i.1) in
            ap₂ v.shelf (sym on_q) (sym last) ∙ (last_stays i.0 i.1 was
            ∙ ap₂ u.shelf on_q last)
        | inr none ↦ stays q j none (rw (differ p q (λ e. d (sym e
            ∙ sym (on_p u.state n p m k of)))) refl)
      ]

  -- of its own those stay that aren't copied, but for the last one
  around_it : (j : ℕ) → (j < held_by k.disk m.data_sectors) ⊎ (held_by new.disk m.data_sectors ≤ j)
      → j + 1 ≢ k.sectors → v.shelf k.provider j ≡ u.shelf k.provider j
  around_it j off inner =
      let e : held_of k.disk ≡ held_by k.disk m.data_sectors = held_is u.state n p m k of in
      let out : (nat_le (held_of k.disk) j && nat_lt j (reach m k)) ≡ false =
      ⊎_elim
      (λ (l : j < held_by k.disk m.data_sectors).
      rw (lt-leb (held_of k.disk) j (omega arith)) refl)
      (λ (g : held_by new.disk m.data_sectors ≤ j).
      let f : held_by new.disk m.data_sectors ≡ reach m k = reached in
      rw (le-ltb j (reach m k) (omega arith)) (and-false (nat_le (held_of k.disk) j))) off in
      stays k.provider j
      (any_none (ends_there k.provider j) v.state.components (λ i h.
      elim (same_tells i.provider k.provider) [
        | inr n ↦ rw n.0 refl
        | inl y ↦
            let is : i ≡ new =
            one provider v.state.components later.state.components_in_order i new h
            (subst (λ (s : Records). Has s.components new) (sym state_is)
            (put_there provider new old)) y.1 in
            let count : i.sectors ≡ k.sectors = ap (λ (c : Component). c.sectors) is in
            rw (y.0, ne_eqb i.sectors (j + 1) (λ t. inner (sym t ∙ count))) refl
      ]))
      (rw out (and-false (same_label p k.provider)))

  -- an advance takes its component further
  pub step_further : IsFurther u v m k new
  step_further = record {
    state = state_is;
    same = refl;
    more = more_held;
    forced = same_forced k.disk of.copying;
    sizes = step.sizes;
    there = step.there;
    holds = step.holds;
    elsewhere = other_providers;
    around = around_it;
  }

-- ---- one after another

-- to put one over one of its name is to put it alone
pub put_over : {X : Type 0} (key : X → List ℕ) (x y : X) → key x ≡ key y → (zs : List X)
    → put key x (put key y zs) ≡ put key x zs
put_over {X = X} key x y e [] = rw (same_from (key x) (key y) e) refl
put_over {X = X} key x y e (z ∷ zs) =
    let here : bytes_eq (key x) (key y) ≡ true = same_from (key x) (key y) e in
    let alike : (b : Bool) → bytes_eq (key y) (key z) ≡ b → bytes_eq (key x) (key z) ≡ b =
    λ b i. subst (λ (n : List ℕ). bytes_eq n (key z) ≡ b) (sym e) i in
    let below : (b : Bool) → label_lt (key y) (key z) ≡ b → label_lt (key x) (key z) ≡ b =
    λ b i. subst (λ (n : List ℕ). label_lt n (key z) ≡ b) (sym e) i in
    elim (cases_Bool (bytes_eq (key y) (key z))) [
      | inl t ↦ rw (t, alike true t) (rw here refl)
      | inr t ↦ elim (cases_Bool (label_lt (key y) (key z))) [
        | inl l ↦ rw (t, alike false t, l, below true l) (rw here refl)
        | inr l ↦ rw (t, alike false t, l, below false l)
            (rw (alike false t) (ap (λ (l : List X). z ∷ l) (put_over key x y e zs)))
      ]
    ]

-- to go further and then further is to go further
pub further_then : (u v w : World) (m : Mirror) (i j k : Component) → IsFurther u v m i j
    → IsFurther v w m j k → IsFurther u w m i k
further_then u v w m i j k one two =
    let on : j.provider ≡ i.provider = ap provider one.same in
    let ends : j.sectors ≡ i.sectors = ap (λ (c : Component). c.sectors) one.same in
    let over : k.provider ≡ j.provider = ap provider two.same in
    let a : held_by i.disk m.data_sectors < held_by j.disk m.data_sectors = one.more in
    let b : held_by j.disk m.data_sectors < held_by k.disk m.data_sectors = two.more in
    record {
      state = two.state ∙ ap (λ (s : Records).
          let r : Records = record {
            mirrors = s.mirrors;
            components = put provider k s.components;
          } in r) one.state ∙ ap (λ (l : List Component).
          let r : Records = record { mirrors = u.state.mirrors; components = l } in r)
          (put_over provider k j over u.state.components);
      same = two.same ∙ ap (λ (c : Component). let r : Component = record c { disk = k.disk } in r)
          one.same;
      more = omega arith;
      forced = λ f held e. let was = two.forced f held e in one.forced f was.0 was.1;
      sizes = λ q. two.sizes q ∙ one.sizes q;
      there = λ q. two.there q ∙ one.there q;
      holds = λ a h x.
          two.holds a (subst (λ (s : Records). Has s.mirrors a) (sym one.state) h) x
          ∙ one.holds a h x;
      elsewhere = λ q x d. two.elsewhere q x (λ e. d (e ∙ on)) ∙ one.elsewhere q x d;
      around = λ x off inner.
          let first : (x < held_by i.disk m.data_sectors) ⊎ (held_by j.disk m.data_sectors ≤ x) =
          ⊎_elim (λ (l : x < held_by i.disk m.data_sectors). inl l)
          (λ (g : held_by k.disk m.data_sectors ≤ x). inr (omega arith)) off in
          let second : (x < held_by j.disk m.data_sectors) ⊎ (held_by k.disk m.data_sectors ≤ x) =
          ⊎_elim (λ (l : x < held_by i.disk m.data_sectors). inl (omega arith))
          (λ (g : held_by k.disk m.data_sectors ≤ x). inr g) off in
          subst (λ (q : List ℕ). w.shelf q x ≡ v.shelf q x) on
          (two.around x second (λ e. inner (e ∙ ends))) ∙ one.around x first inner;
    }

-- ---- what is found after it

module _ (u w : World) (n p : List ℕ) (m : Mirror) (j k : Component)
    (of : IsFilling u.state n p m j) (far : IsFurther u w m j k) (state : IsState w.state) where
  -- the mirror is found by its name
  pub mirror_after : mirror_of w.state n ≡ Some m
  mirror_after = ap (λ (s : Records). mirror_of s n) far.state ∙ of.at_name

  -- the component is on the provider that it was on
  pub after_on : k.provider ≡ p
  after_on = ap provider far.same ∙ on_p u.state n p m j of

  -- it is one of the mirror that it was of
  pub after_home : k.mirror ≡ n
  after_home = ap (λ (c : Component). c.mirror) far.same ∙ of.home

  -- it is registered
  pub after_there : Has w.state.components k
  after_there = subst (λ (s : Records). Has s.components k) (sym far.state)
      (put_there provider k u.state.components)

  -- it is found on its provider
  pub component_after : component_of w.state p ≡ Some k
  component_after = subst (λ (q : List ℕ). component_of w.state q ≡ Some k) after_on
      (find_one provider w.state.components state.components_in_order k after_there)

  -- it is still being filled if it isn't full
  pub filling_after : (f : Bool) (held : ℕ) → k.disk ≡ Copying f held
      → IsFilling w.state n p m k
  filling_after f held e = record {
    at_name = mirror_after;
    at = component_after;
    home = after_home;
    forced = f;
    held = held;
    copying = e;
  }

  -- any other component was there, and is on another provider
  pub others_after : (before : IsState u.state) (i : Component) → Has w.state.components i
      → (k ≡ i) ⊎ (Has u.state.components i × (i.provider ≢ p))
  others_after before i h = ⊎_elim (λ (e : k ≡ i). inl e)
      (λ (o : Has u.state.components i × (i.provider ≢ k.provider)).
      inr (o.0, λ e. o.1 (e ∙ sym after_on)))
      (put_cases provider k u.state.components before.components_in_order i
      (subst (λ (s : Records). Has s.components i) far.state h))

-- as far as an advance gets that is answered under these keys
pub further_in_turn : (u w : World) (n p : List ℕ) (key : Keyed) (keys : List Keyed) (m : Mirror)
    (j : Component) → Sound u → InTurn u (Advance n p) (key ∷ keys) w → IsFilling u.state n p m j
    → (k : Component) × IsFurther u w m j k
further_in_turn u w n p key [] m j sound t of = (
  advanced m j,
  subst (λ (x : World). IsFurther u x m j (advanced m j)) (sym t.4)
      (step_further u t.1 n p key.key key.reply sound t.2 t.3 m j of),
)
further_in_turn u w n p key (next ∷ keys) m j sound t of =
    let v : World = t.1 in
    let far = step_further u v n p key.key key.reply sound t.2 t.3 m j of in
    let state : IsState v.state = t.2.state in
    let again = filling_from v n p state
    (is_good v t.4.1 next.key (Advance n p) next.reply t.4.3) in
    let at : Some again.1 ≡ Some (advanced m j) =
    sym again.2.at ∙ component_after u v n p m j (advanced m j) of far state in
    let is : again.1 ≡ advanced m j = cc in
    let rest = further_in_turn v w n p next keys m (advanced m j) t.2 t.4
    (filling_after u v n p m j (advanced m j) of far state again.2.forced again.2.held
    (sym (ap (λ (c : Component). c.disk) is) ∙ again.2.copying)) in
    (rest.0, further_then u v w m j (advanced m j) rest.0 far rest.1)

-- ---- the next advance isn't refused either

-- what holds of the refusals that an advance may meet
of_listed : (n p : List ℕ) (P : Refusal → Type 0) → P refusals.NoMirror → P refusals.Absent
    → P refusals.NotMember → P refusals.Inactive → P refusals.NotSynchronizing → (r : Refusal)
    → Has (own (Advance n p)) r → P r
of_listed n p P a b c d e r (inl x) = subst P x a
of_listed n p P a b c d e r (inr (inl x)) = subst P x b
of_listed n p P a b c d e r (inr (inr (inl x))) = subst P x c
of_listed n p P a b c d e r (inr (inr (inr (inl x)))) = subst P x d
of_listed n p P a b c d e r (inr (inr (inr (inr (inl x))))) = subst P x e
of_listed n p P a b c d e r (inr (inr (inr (inr (inr none))))) = absurd none

-- the components of the mirror are there with their sizes if an advance isn't refused
pub present_members : (u : World) (n p : List ℕ) → IsGood u.state (seen_of u) (Advance n p)
    → (i : Component) → Has (members u.state.components n) i
    → present u i.provider ≡ Some i.sectors
present_members u n p good i h = awaited_there u.state (seen_of u) (Advance n p) good refl i
    (filter-Has (λ (c : Component). is_awaited (Advance n p) c) (members u.state.components n) i h
    refl)

module _ (u w : World) (n p : List ℕ) (m : Mirror) (j k : Component)
    (of : IsFilling u.state n p m j) (far : IsFurther u w m j k) (before : IsState u.state)
    (state : IsState w.state) (good : IsGood u.state (seen_of u) (Advance n p)) where
  abbrev ours : List Component
  ours = members w.state.components n

  -- a component of the mirror is the one that is filled, or was one of it
  pub member_or : (i : Component) → Has ours i → (k ≡ i)
      ⊎ (Has (members u.state.components n) i × (i.provider ≢ p))
  member_or i h =
      let at = Has-filter (λ (c : Component). same_label c.mirror n) w.state.components i h in
      ⊎_elim (λ (e : k ≡ i). inl e) (λ (o : Has u.state.components i × (i.provider ≢ p)).
      inr (
        filter-Has (λ (c : Component). same_label c.mirror n) u.state.components i o.0 at.1,
        o.1,
      )) (others_after u w n p m j k of far state before i at.0)

  -- it is one of the mirror's components
  pub member_after : Has ours k
  member_after = filter-Has (λ (c : Component). same_label c.mirror n) w.state.components k
      (after_there u w n p m j k of far state)
      (same_from k.mirror n (after_home u w n p m j k of far state))

  -- the same providers are there, of the same sizes
  same_present : (q : List ℕ) → present w q ≡ present u q
  same_present q = rw (far.there q, far.sizes q) refl

  -- each is there with its size
  pub present_after : (i : Component) → Has ours i → present w i.provider ≡ Some i.sectors
  present_after i h = same_present i.provider
      ∙ ⊎_elim (λ (e : k ≡ i). subst (λ (c : Component). present u c.provider ≡ Some c.sectors) e
      (subst (λ (c : Component). present u c.provider ≡ Some c.sectors) (sym far.same)
      (present_members u n p good j (its_member u.state n p m j of))))
      (λ (o : Has (members u.state.components n) i × (i.provider ≢ p)).
      present_members u n p good i o.0) (member_or i h)

  module _ (forced : Bool) (held : ℕ) (filling : k.disk ≡ Copying forced held) where
    -- the refusal doesn't apply to the next advance
    abbrev Passes : Refusal → Type 0
    Passes r = applies w.state (seen_of w) (Advance n p) r ≡ false

    -- the mirror is there
    named_again : Passes refusals.NoMirror
    named_again = rw (mirror_after u w n p m j k of far state) refl

    -- the providers are there
    there_again : Passes refusals.Absent
    there_again =
        let here : present w p ≡ Some k.sectors =
        subst (λ (q : List ℕ). present w q ≡ Some k.sectors) (after_on u w n p m j k of far state)
        (present_after k member_after) in
        let wrong : Component → Bool = λ i. not (has_size (present w i.provider) i.sectors) in
        let all : list_any wrong (awaited w.state (Advance n p)) ≡ false =
        any_none wrong (awaited w.state (Advance n p)) (λ i h.
        rw (present_after i
        (Has-filter (λ (c : Component). is_awaited (Advance n p) c) ours i h).0)
        (ap not (eq-eqb i.sectors i.sectors refl))) in
        rw (here, all) refl

    -- the component is one of the mirror
    member_again : Passes refusals.NotMember
    member_again = rw (any_from (λ (i : Component). same_label i.provider p) ours k member_after
        (same_from k.provider p (after_on u w n p m j k of far state))) refl

    -- a test of the components on p is one of k
    on_p_only : (test : Component → Bool) → test k ≡ false
        → list_any (λ i. is_on_any (p ∷ []) i && test i) ours ≡ false
    on_p_only test off = any_none (λ i. is_on_any (p ∷ []) i && test i) ours (λ i h. ⊎_elim
        (λ (e : k ≡ i). rw (subst (λ (c : Component). test c ≡ false) e off)
        (and-false (is_on_any (p ∷ []) i)))
        (λ (o : Has (members u.state.components n) i × (i.provider ≢ p)).
        rw (differ i.provider p o.1) refl) (member_or i h))

    -- it isn't INACTIVE
    used_again : Passes refusals.Inactive
    used_again = on_p_only (λ i. is_inactive i.disk) (rw filling refl)

    -- it is SYNCHRONIZING, since it was and has the flag that it had
    filling_again : Passes refusals.NotSynchronizing
    filling_again =
        let stale : Component → Bool = λ i. not (is_synchronizing (state_by m.flags i.disk)) in
        let was = far.forced forced held filling in
        let none : list_any (λ i. is_on_any (p ∷ []) i && stale i) (members u.state.components n)
        ≡ false =
        fails_there (mirror_of u.state n) m
        (λ m. list_any (λ k. is_on_any (p ∷ []) k && not
        (is_synchronizing (state_by m.flags k.disk))) (members u.state.components n)) of.at_name
        (good refusals.NotSynchronizing refl) in
        let one : (is_on_any (p ∷ []) j && stale j) ≡ false =
        none_any (λ i. is_on_any (p ∷ []) i && stale i) (members u.state.components n) none j
        (its_member u.state n p m j of) in
        let here : stale j ≡ false = rw (on_one j p (on_p u.state n p m j of)) at one in
        let off : stale k ≡ false = rw filling (rw was.1 at here) in
        rw (mirror_after u w n p m j k of far state) (on_p_only stale off)

    -- so the next advance is good
    pub good_again : IsGood w.state (seen_of w) (Advance n p)
    good_again r l = of_listed n p Passes named_again there_again member_again used_again
        filling_again r (listed (Advance n p) r l)
