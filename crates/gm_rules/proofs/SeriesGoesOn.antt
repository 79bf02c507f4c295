-- A series of an advance goes on: the next stretch is copied with those before it, under a further
-- key.
use Rattle.gm_rules.proofs.Common.{◌≡◌, ◌∙◌, ◌⊎◌, inl, inr, ⊎_elim, ℕ, ◌<◌, refl, sym, ap, ap₂, subst, arith, List, [], ◌∷◌, Option, Some, None, map, without_all, Advance, Intent, Clear, Copy, Dirty, Meta, Patch, Mirror, Component, Has, put, put_all, put_there, put_or, one, Ascends-put, Has-filter, same_tells, Records, held_by, held_of, provider, mirror_of, component_of, World, Sound, IsGood, seen_of, advanced, intents_of, reach, reply_to, CanAnswer, HasPlan, Plan, Step, AreReadable, IsAtHand, IsOwn, CopiesData, present}
use Rattle.std.specs.Prelude.{IfSome}
use Rattle.std.proofs.lemmas.List.{map-append}
use Rattle.std.specs.String.{string_bytes}
use Rattle.gm_state.specs.declared.intents.Reply.{Reply}
use Rattle.gm_state.specs.Intents.{IsRedo, InOrder}
use Rattle.gm_changes.specs.declared.change.Further.{Further}
use Rattle.gm_changes.specs.Decides.{Changed, PutsInPlace, changed_by, put_some, without_some}
use Rattle.gm_changes.specs.Stretches.{IsUnfilled, copied_to, stretch_reply, stretched}
use Rattle.gm_changes.proofs.MakesChange.{without_all-filter}
use Rattle.gm_rules.specs.Series.{InTurn, IsSeries, Keyed, SeriesPlan, keyed_in, keyed_of}
use Rattle.gm_rules.proofs.EveryPlan.{every_plan}
use Rattle.gm_rules.proofs.FilledFurther.{IsFilling, IsFurther, component_after, filling_after, filling_from, further_in_turn, further_then, good_again, mirror_after, on_p, put_over, registered, step_further}
use Rattle.gm_rules.proofs.FurtherPlan.{IsLending, lending_from, long, long_at_hand, long_claims, long_copies, long_order, long_own, long_readable, long_redo}
use Rattle.gm_rules.proofs.GrownRecords.{is_good}
use Rattle.gm_rules.proofs.PlanAdvance.{holding_reach}
use Rattle.gm_rules.proofs.SeriesTurns.{turns_then}

-- ---- what a series of an advance has done

module _ (u w : World) (key n p : List ℕ) (ch : Changed) (sound : Sound u)
    (series : SeriesPlan u key (Advance n p) ch w) where
  -- nothing refuses the first
  pub first_good : IsGood u.state (seen_of u) (Advance n p)
  first_good = is_good u series.turns.1 key (Advance n p) ch.reply series.turns.3

  -- what is known of the component that it fills
  pub filled_by_series : (m : Mirror) × (was now : Component) × IsFilling u.state n p m was
      × IsFurther u w m was now
  filled_by_series =
      let at = filling_from u n p sound.state first_good in
      let far = further_in_turn u w n p (record { key = key; reply = ch.reply })
      (map keyed_of ch.further) at.0 at.1 sound series.turns at.2 in
      (at.0, at.1, far.0, at.2, far.1)

  -- the mirror is the one that it was
  pub series_mirror : mirror_of w.state n ≡ mirror_of u.state n
  series_mirror =
      let it = filled_by_series in
      mirror_after u w n p it.0 it.1 it.2 it.3 it.4 series.sound.state ∙ sym it.3.at_name

  -- the change puts that component, if it puts one alone
  pub puts_it : (m : Mirror) (was now k : Component) → IsFilling u.state n p m was
      → IsFurther u w m was now → ch.components ≡ k ∷ [] → k ≡ now
  puts_it m was now k of far alone =
      let old : List Component = u.state.components in
      let left : List Component = without_all provider ch.gone_components old in
      let both : put provider k left ≡ put provider now old =
      ap (λ (ks : List Component). put_all provider ks left) (sym alone)
      ∙ ap (λ (s : Records). s.components) (series.records ∙ far.state) in
      elim (same_tells k.provider now.provider) [
        | inl y ↦ one provider (put provider now old)
            (Ascends-put provider now old sound.state.components_in_order) k now
            (subst (λ (l : List Component). Has l k) both (put_there provider k left))
            (put_there provider now old) y.1
        | inr d ↦
            let there : (k ≡ now) ⊎ Has left now = put_or provider k left now
            (subst (λ (l : List Component). Has l now) (sym both) (put_there provider now old)) in
            ⊎_elim (λ (e : k ≡ now). e) (λ (h : Has left now).
            let was_there : Has old now = (Has-filter _ old now
            (subst (λ (l : List Component). Has l now)
            (without_all-filter ch.gone_components old) h)).0 in
            let same : was ≡ now = one provider old sound.state.components_in_order was now
            (registered u.state n p m was of) was_there (sym (ap provider far.same)) in
            let more : held_by was.disk m.data_sectors < held_by now.disk m.data_sectors =
            far.more in
            let no : held_by was.disk m.data_sectors ≡ held_by now.disk m.data_sectors =
            ap (λ (c : Component). held_by c.disk m.data_sectors) same in
            absurd (omega arith)) there
      ]

  -- it is the one on its provider then
  pub series_component : (k : Component) → ch.components ≡ k ∷ [] → component_of w.state p ≡ Some k
  series_component k alone =
      let it = filled_by_series in
      component_after u w n p it.0 it.1 it.2 it.3 it.4 series.sound.state
      ∙ ap Some (sym (puts_it it.0 it.1 it.2 k it.3 it.4 alone))

-- ---- the next stretch

-- an advance under any keys is a series
any_keys : (n p : List ℕ) (x : Keyed) (ks : List Keyed) → IsSeries (Advance n p) (x ∷ ks)
any_keys n p x [] = tt
any_keys n p x (k ∷ ks) = (n, p, refl)

-- a copy's last end is the one that counts
copied_on : (a b : ℕ) (ts : List Intent) → copied_to b (copied_to a ts) ≡ copied_to b ts
copied_on a b [] = refl
copied_on a b (Copy source target first end ∷ ts) = refl
copied_on a b (Meta p ∷ ts) = refl
copied_on a b (Clear p ∷ ts) = refl
copied_on a b (Dirty p ∷ ts) = refl
copied_on a b (Patch p first end ∷ ts) = refl

-- no mirror goes if a component is put
none_gone : (o : Option (List ℕ)) (A B : Type 0) (k : Component) (ks : List Component)
    → ks ≡ k ∷ [] → IfSome o (λ n. A × (ks ≡ [])) → IfSome o (λ n. B)
none_gone None A B k ks is h = tt
none_gone (Some n) A B k ks is h = let no : k ∷ [] ≡ [] = sym is ∙ h.1 in
    absurd (let z : ⊥ = cc in z)

-- a list of one has that one alone
only_one : (x i : Component) → Has (x ∷ []) i → x ≡ i
only_one x i (inl e) = e
only_one x i (inr none) = absurd none

-- a component can be put as it is after its next stretch if it can be put
puts_next : (s : Records) (ch : Changed) (m : Mirror) (k : Component) (f : Further)
    → ch.components ≡ k ∷ [] → PutsInPlace s ch → PutsInPlace s (stretched m k f ch)
puts_next s ch m k f alone puts =
    let here : Has ch.components k = subst (λ (l : List Component). Has l k) (sym alone) (inl refl)
    in
    record {
      alone = none_gone ch.gone_mirror _ _ k ch.components alone puts.alone;
      of_one = λ i j h g. ap (λ (c : Component). c.mirror)
          (sym (only_one (advanced m k) i h) ∙ only_one (advanced m k) j g);
      once = (λ y h. absurd h, tt);
      numbers = λ i j h g e.
          subst (λ (c : Component). j.provider ≡ c.provider → (j.mirror ≡ c.mirror)
          × (j.did ≡ c.did)) (only_one (advanced m k) i h) (λ e. puts.numbers k j here g e) e;
    }

module _ (u w : World) (key n p : List ℕ) (ch : Changed) (sound : Sound u)
    (series : SeriesPlan u key (Advance n p) ch w) (m : Mirror) (was k : Component)
    (of : IsFilling u.state n p m was) (far : IsFurther u w m was k) (puts : IsUnfilled ch k)
    (f : Further) (reply : f.reply ≡ stretch_reply m k)
    (can : CanAnswer w (string_bytes f.key) (Advance n p)) where
  -- the component after its next stretch
  abbrev next : Component
  next = advanced m k

  -- the first advance was good
  good : IsGood u.state (seen_of u) (Advance n p)
  good = first_good u w key n p ch sound series

  -- the component is still being filled
  filling : IsFilling w.state n p m k
  filling = filling_after u w n p m was k of far series.sound.state puts.forced puts.held
      puts.copying

  -- the world after the next stretch
  planned : HasPlan w (string_bytes f.key) (Advance n p)
  planned = every_plan w (string_bytes f.key) (Advance n p) series.sound can
      (good_again u w n p m was k of far sound.state series.sound.state good puts.forced puts.held
      puts.copying)

  abbrev z : World
  z = planned.0

  abbrev plan : Plan w (string_bytes f.key) (Advance n p)
      (intents_of (Advance n p) w.state z.state) [] z
  plan = planned.1

  -- the next stretch takes the component further
  one_more : IsFurther w z m k next
  one_more = step_further w z n p (string_bytes f.key) (reply_to (Advance n p) w.state) series.sound
      plan.sound plan.step m k filling

  -- so it is further than before the first
  further : IsFurther u z m was next
  further = further_then u w z m was k next far one_more

  -- the source of all the stretches
  lending : (from : Component) × IsLending u.state n p from
  lending = lending_from u.state n p m was sound.state of

  -- the change with the next stretch, and its intents
  abbrev ch' : Changed
  ch' = stretched m k f ch

  abbrev ts : List Intent
  ts = long u z n p m was next lending.0 of further sound plan.sound good lending.1

  -- the reply is that of the next advance
  replied : reply_to (Advance n p) w.state ≡ f.reply
  replied = rw (filling.at_name, filling.at) (sym reply)

  -- the command is answered under the further key too
  turns : InTurn u (Advance n p) (keyed_in key ch') z
  turns =
      let first : Keyed = record { key = key; reply = ch.reply } in
      subst (λ (ks : List Keyed). InTurn u (Advance n p) (first ∷ ks) z)
      (sym (map-append keyed_of ch.further (f ∷ [])))
      (turns_then u w z (Advance n p) (keyed_in key ch) (keyed_of f) series.turns can plan.sound
      (subst (λ (r : Reply). Step w (string_bytes f.key) (Advance n p) z r) replied plan.step))

  -- the change makes the records after the next stretch
  records_are : changed_by ch' u.state ≡ z.state
  records_are =
      let left : List Component = without_all provider ch.gone_components u.state.components in
      let ms : List Mirror = put_some ch.mirror (without_some ch.gone_mirror u.state.mirrors) in
      let with : List Component → Records = λ l. record { mirrors = ms; components = l } in
      let then : Records → Records =
      λ s. record { mirrors = s.mirrors; components = put provider next s.components } in
      let before : with (put provider k left) ≡ w.state =
      ap (λ (ks : List Component). with (put_all provider ks left)) (sym puts.alone)
      ∙ series.records in
      ap with (sym (put_over provider next k refl left)) ∙ (ap then before ∙ sym one_more.state)

  -- what the component holds then
  reached : held_by next.disk m.data_sectors ≡ reach m k
  reached = holding_reach m (reach m k) k.disk puts.forced puts.held puts.copying

  -- one copy as far as that, and one write of metadata
  intents_are : ch'.intents ≡ ts
  intents_are =
      let old : copied_to (reach m k) ch.intents
      ≡ copied_to (reach m k) (intents_of (Advance n p) u.state w.state) =
      ap (copied_to (reach m k)) series.intents.1 ∙ copied_on series.intents.0 (reach m k) _ in
      old ∙ rw (lending.1.source, of.at_name, of.at) (ap₂ (λ (q : List ℕ) (end : ℕ).
      Copy lending.0.provider q (held_of was.disk) end ∷ Meta q ∷ []) (on_p u.state n p m was of)
      (sym reached))

  -- the change is that of the longer series
  goes_on : SeriesPlan u key (Advance n p) ch' z
  goes_on = record {
    turns = turns;
    series = any_keys n p (record { key = key; reply = ch.reply }) (map keyed_of ch'.further);
    records = records_are;
    in_place = puts_next u.state ch m k f puts.alone series.in_place;
    intents = (
      reach m k,
      ap (copied_to (reach m k)) series.intents.1 ∙ copied_on series.intents.0 (reach m k) _,
    );
    bytes = series.bytes;
    sound = plan.sound;
    redo = subst (λ (l : List Intent). IsRedo z.state ch.bytes u.size l u.shelf z.shelf)
        (sym intents_are)
        (subst (λ (b : List (List ℕ)). IsRedo z.state b u.size ts u.shelf z.shelf)
        (sym series.bytes) (long_redo u z n p m was next lending.0 of further sound plan.sound good
        lending.1));
    order = subst (λ (l : List Intent). InOrder u.size l) (sym intents_are)
        (long_order u z n p m was next lending.0 of further sound plan.sound good
        lending.1);
    claims = long_claims u z n p m was next lending.0 of further sound plan.sound good lending.1;
    readable = subst (λ (l : List Intent). AreReadable z.state ch.bytes l) (sym intents_are)
        (subst (λ (b : List (List ℕ)). AreReadable z.state b ts) (sym series.bytes)
        (long_readable u z n p m was next lending.0 of further sound plan.sound good
        lending.1));
    at_hand = subst (λ (l : List Intent). (t : Intent) → Has l t → IsAtHand (present u) t)
        (sym intents_are)
        (long_at_hand u z n p m was next lending.0 of further sound plan.sound good
        lending.1);
    own = subst (λ (l : List Intent). (q : List ℕ) → Has l (Meta q)
        → IsOwn z.state (Advance n p) q) (sym intents_are)
        (long_own u z n p m was next lending.0 of further sound plan.sound good
        lending.1);
    copies = subst (λ (l : List Intent). CopiesData u z l) (sym intents_are)
        (long_copies u z n p m was next lending.0 of further sound plan.sound good
        lending.1);
    bare = tt;
  }

-- an unfilled component's next stretch can be copied too, under a key that is free
pub stretch_plan : (u w : World) (key n p : List ℕ) (ch : Changed) (m : Mirror) (k : Component)
    (f : Further) → Sound u → SeriesPlan u key (Advance n p) ch w → mirror_of w.state n ≡ Some m
    → IsUnfilled ch k → f.reply ≡ stretch_reply m k
    → CanAnswer w (string_bytes f.key) (Advance n p)
    → (z : World) × SeriesPlan u key (Advance n p) (stretched m k f ch) z
stretch_plan u w key n p ch m k f sound series at puts reply can =
    let it = filled_by_series u w key n p ch sound series in
    let named : Some it.0 ≡ Some m =
    sym (mirror_after u w n p it.0 it.1 it.2 it.3 it.4 series.sound.state) ∙ at in
    let same : it.0 ≡ m = cc in
    let is : it.2 ≡ k = sym (puts_it u w key n p ch sound series it.0 it.1 it.2 k it.3 it.4
    puts.alone) in
    let of : IsFilling u.state n p m it.1 =
    subst (λ (a : Mirror). IsFilling u.state n p a it.1) same it.3 in
    let far : IsFurther u w m it.1 k =
    subst (λ (a : Mirror). IsFurther u w a it.1 k) same
    (subst (λ (c : Component). IsFurther u w it.0 it.1 c) is it.4) in (
      z u w key n p ch sound series m it.1 k of far puts f reply can,
      goes_on u w key n p ch sound series m it.1 k of far puts f reply can,
    )
