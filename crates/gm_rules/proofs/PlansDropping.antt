-- The plans of remove and lost, which drop components of their mirror.
use Rattle.gm_rules.proofs.Common.{◌≡◌, ◌≢◌, ◌∙◌, inl, inr, ⊎_elim, ℕ, ◌<◌, ◌≤◌, ◌+◌, ◌-◌, ◌||◌, Bool, true, false, not, refl, sym, ap, arith, List, [], ◌∷◌, filter, length, list_any, cases_Bool, not-false, or_parts, or-false, same_label, Remove, Lost, Mirror, Component, Has, without_all, IsMirror, members, provider, World, Sound, same_is, same_from, differ, length-filter_le, length-filter_lt, one, Has-filter, none_any, some_any, has_twice, is_on_any, one_more_loss, is_member}
use Rattle.gm_refusals.specs.declared.refusals.Refusal.TheVariants as refusals
use Rattle.gm_changes.proofs.MakesChange.{without_all-filter}
use Rattle.gm_rules.proofs.FilteredMirror.{filters_plan}
use Rattle.gm_rules.proofs.PlanOf.{Allowed, PlanOf}
use Rattle.gm_rules.proofs.RuledOut.{CanTouch, active_left, by_name, not_on, other_active}

-- ---- remove

pub remove_plan : (u : World) (n p : List ℕ) → Allowed u (Remove n p) → PlanOf u (Remove n p)
remove_plan u n p may =
    by_name u (λ a. Remove a p) n may (λ a. refl) (λ a. refl) (λ a. refl) (λ m of.
    let old : List Component = members u.state.components m.name in
    let rules : IsMirror m old = of.rules in
    let good = of.may.good in
    let can : CanTouch u m p = record {
      member = is_member old p (good refusals.NotMember refl);
      active = other_active old p (good refusals.LastActive refl);
    } in
    let m' : Mirror = record m { all = m.all - 1 } in
    let stays : Component → Bool = λ k. not (same_label k.provider p) in
    let k : Component = can.member.0 in
    let goes : stays k ≡ false = ap not (same_from k.provider p can.member.2) in
    filters_plan u (Remove m.name p) m m' stays (p ∷ []) of (record {
      waits = λ j e. refl;
      alone = λ j i d. ap not (differ j.provider p (not_on u m p of.may.sound.state can j i d));
      same = record {
        name = refl;
        mid = refl;
        sectors = refl;
        counts = (rules.fits.genid, rules.fits.syncid, rules.fits.slice);
        all = (let r : m.all ≤ 16 = rules.all in omega arith);
      };
      same_syncid = refl;
      room = (let a : length (filter stays old) + 1 ≤ length old = length-filter_lt stays old k
          can.member.1 goes in let b : length old ≤ m.all = rules.room in omega arith);
      active = (
        can.active.0,
        can.active.1,
        can.active.2,
        ap not (differ can.active.0.provider p can.active.3),
      );
      after_is = rw of.found refl;
      intents = λ s. refl;
      dropped = λ q h. ⊎_elim (λ (e : p ≡ q). record {
        component = k;
        mine = can.member.1;
        on = can.member.2 ∙ e;
        goes = goes;
        there = of.there k can.member.1 refl;
      }) (λ (o : ⊥). absurd o) h;
      all_gone = λ q. or-false (same_label p q);
      takes_nothing = (λ q j. refl, tt, λ w. tt, λ w. tt, refl);
    }))

-- ---- lost

-- if each of the providers is a component's of the mirror, a component of another one is on none
-- of them
theirs_stay : (u : World) (m : Mirror) (ps : List (List ℕ)) → Sound u
    → (has_twice ps || list_any
    (λ p. not (list_any (λ k. same_label k.provider p) (members u.state.components m.name))) ps)
    ≡ false
    → (j : Component) → Has u.state.components j → j.mirror ≢ m.name → not (is_on_any ps j) ≡ true
theirs_stay u m ps sound e j h d =
    let old : List Component = members u.state.components m.name in
    let each = (or_parts (has_twice ps)
    (list_any (λ p. not (list_any (λ (k : Component). same_label k.provider p) old)) ps) e).1 in
    elim (cases_Bool (is_on_any ps j)) [
      | inr off ↦ ap not off
      | inl on ↦
          let p = some_any (λ p. same_label j.provider p) ps on in
          let k = some_any (λ (k : Component). same_label k.provider p.0) old
          (not-false _
          (none_any (λ p. not (list_any (λ (k : Component). same_label k.provider p) old)) ps
          each p.0 p.1)) in
          let r = Has-filter (λ (c : Component). same_label c.mirror m.name) u.state.components k.0
          k.1 in
          let same : k.0 ≡ j =
          one provider u.state.components sound.state.components_in_order k.0 j r.0 h
          (same_is k.0.provider p.0 k.2 ∙ sym (same_is j.provider p.0 p.2)) in
          absurd (d (sym (ap (λ (c : Component). c.mirror) same) ∙ same_is k.0.mirror m.name r.1))
    ]

pub lost_plan : (u : World) (n : List ℕ) (ps : List (List ℕ)) → Allowed u (Lost n ps)
    → PlanOf u (Lost n ps)
lost_plan u n ps may =
    by_name u (λ a. Lost a ps) n may (λ a. refl) (λ a. refl) (λ a. refl) (λ m of.
    let old : List Component = members u.state.components m.name in
    let rules : IsMirror m old = of.rules in
    let good = of.may.good in
    let m' : Mirror = record m { genid = m.genid + 1 } in
    let stays : Component → Bool = λ k. not (is_on_any ps k) in
    let active = active_left old ps (good refusals.LastActive refl) in
    let small : m.genid < 4294967295 = one_more_loss u.state m.name m of.may.sound.state of.found
    (good refusals.LastGenid refl) in
    let left : filter stays u.state.components ≡ without_all provider ps u.state.components =
    sym (without_all-filter ps u.state.components) in
    filters_plan u (Lost m.name ps) m m' stays [] of (record {
      waits = λ j e. e;
      alone = theirs_stay u m ps of.may.sound (good refusals.NotMember refl);
      same = record {
        name = refl;
        mid = refl;
        sectors = refl;
        counts = (omega arith, rules.fits.syncid, rules.fits.slice);
        all = rules.all;
      };
      same_syncid = refl;
      room = (let a : length (filter stays old) ≤ length old = length-filter_le stays old in
          let b : length old ≤ m.all = rules.room in omega arith);
      active = (active.0, active.1, active.2, ap not active.3);
      after_is = rw (of.found, left) refl;
      intents = λ s. refl;
      dropped = λ q h. absurd h;
      all_gone = λ q. refl;
      takes_nothing = (λ q j. refl, tt, λ w. tt, λ w. tt, refl);
    }))
