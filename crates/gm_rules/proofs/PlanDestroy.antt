-- The plan of destroy: the mirror goes with its components.
use Rattle.gm_rules.proofs.Common.{◌≡◌, ◌≢◌, ◌∙◌, inr, ℕ, ◌≤◌, Bool, not, refl, sym, ap, subst, arith, List, [], ◌∷◌, append-nil, length, filter, map, not-true, same_label, Destroy, Intent, Clear, Mirror, Component, Has, without, Records, IsState, IsMirror, members, name, provider, World, Sound, same_from, differ, length-filter_le, one, Has-filter, Has-map, filter-Has, Ascends-filter, any-map, not_both, clears_of, no_members}
use Rattle.gm_rules.proofs.FilteredMirror.{IsDropped, drops, in_order, others_stay}
use Rattle.gm_rules.proofs.PlanOf.{Allowed, PlanOf, Nothing}
use Rattle.gm_rules.proofs.RuledOut.{Names, by_name}
use Rattle.gm_rules.proofs.TurnedMirror.{Turns}

clears_written : (ks : List Component) → map (λ q. Clear q) (map provider ks) ≡ clears_of ks
clears_written [] = refl
clears_written (k ∷ ks) = ap (λ (ts : List Intent). Clear k.provider ∷ ts) (clears_written ks)

module _ (u : World) (m : Mirror) (of : Names u (Destroy m.name) m) where
  abbrev old : List Component
  old = members u.state.components m.name

  abbrev stays : Component → Bool
  stays k = not (same_label k.mirror m.name)

  abbrev is_other : Mirror → Bool
  is_other a = not (same_label a.name m.name)

  abbrev s : Records
  s = record {
    mirrors = without name m.name u.state.mirrors;
    components = filter stays u.state.components;
  }

  abbrev gone : List (List ℕ)
  gone = map provider old

  abbrev sound : Sound u
  sound = of.may.sound

  other_name : (a : Mirror) → Has s.mirrors a → (a.name ≢ m.name) × Has u.state.mirrors a
  other_name a h =
      let r = Has-filter is_other u.state.mirrors a h in (
        λ e. not_both (same_label a.name m.name) (same_from a.name m.name e)
            (not-true (same_label a.name m.name) r.1),
        r.0,
      )

  -- the components of other mirrors stay
  others : (n : List ℕ) → n ≢ m.name → members s.components n ≡ members u.state.components n
  others = others_stay u m stays sound of.here (λ k h d. ap not (differ k.mirror m.name d))

  state : IsState s
  state = record {
    mirrors_in_order = Ascends-filter is_other name u.state.mirrors sound.state.mirrors_in_order;
    components_in_order = in_order u m stays sound of.here;
    count = (let a : length s.mirrors ≤ length u.state.mirrors = length-filter_le is_other
        u.state.mirrors in let b : length u.state.mirrors ≤ 64 = sound.state.count in omega arith);
    each = λ a h. let o = other_name a h in
        subst (λ (l : List Component). IsMirror a l) (sym (others a.name o.0))
        (sound.state.each a o.1);
    mids = λ a b h k e. sound.state.mids a b (other_name a h).1 (other_name b k).1 e;
    homes = λ k h.
        let r = Has-filter stays u.state.components k h in
        let home = sound.state.homes k r.0 in (
          home.0,
          filter-Has is_other u.state.mirrors home.0 home.1
              (ap not (ap (λ (n : List ℕ). same_label n m.name) home.2) ∙ r.1),
          home.2,
        );
  }

  turns : Turns u.state m [] s
  turns = record {
    state = state;
    mirror = λ a h. inr (other_name a h);
    mine = no_members s.components m.name
        (λ k h. not-true (same_label k.mirror m.name) (Has-filter stays u.state.components k h).1);
    others = others;
  }

  dropped : (q : List ℕ) → Has gone q → IsDropped u m stays q
  dropped q h =
      let k = Has-map provider old q h in
      let r = Has-filter (λ (j : Component). same_label j.mirror m.name) u.state.components k.0
      k.1 in
      record {
        component = k.0;
        mine = k.1;
        on = k.2;
        goes = ap not r.1;
        there = of.there k.0 k.1 refl;
      }

  destroy_found : PlanOf u (Destroy m.name)
  destroy_found = record {
    mirror = m;
    components = [];
    list = u.holds m.name;
    records = s;
    fill = Nothing;
    gone = gone;
    told = [];
    turns = turns;
    after_is = refl;
    intents = rw append-nil (clears_written old);
    bytes = refl;
    named = λ k h. absurd h;
    reply = tt;
    there = λ k h. absurd h;
    below = λ k h. absurd h;
    same_data = λ a h e.
        let same : a ≡ m =
        one name u.state.mirrors sound.state.mirrors_in_order a m h of.here e in (
          ap (λ (x : Mirror). x.data_sectors) same,
          λ i. ap (λ (x : Mirror). u.holds x.name i) (sym same),
        );
    new = λ w e. tt;
    bare = λ w e. tt;
    can_fill = tt;
    filled = λ q j. refl;
    cleared = λ q h. drops u m stays sound of.here s.mirrors q (dropped q h);
    all_gone = λ q. any-map (λ (p : List ℕ). same_label p q) provider old;
    told_are = λ k h. h;
    all_told = λ k h. absurd h;
  }

pub destroy_plan : (u : World) (n : List ℕ) → Allowed u (Destroy n) → PlanOf u (Destroy n)
destroy_plan u n may =
    by_name u (λ a. Destroy a) n may (λ a. refl) (λ a. refl) (λ a. refl) (destroy_found u)
