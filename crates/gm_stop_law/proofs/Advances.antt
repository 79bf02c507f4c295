-- What advances of one component, in turn, make of the records: its disk changes alone.
use Rattle.gm_stop_law.proofs.Common.{◌≡◌, ◌≢◌, ◌∙◌, ◌⊎◌, inl, inr, ⊎_elim, ℕ, refl, sym, ap, subst, List, [], ◌∷◌, Option, Some, None, same_label, same_from, same_is, Has, filter-Has, found, found_none, not_both, one, put, put_or, put_there, Command, Records, IsState, World, Sound, Step, Reply, Seen, seen_of, member, mirror_of, component_of, provider, Copy, Mirror, Component, Disk, after, advanced, holding, reach, on_found, intents_of, InTurn, IsSeries, Keyed}
use Rattle.gm_commands.specs.declared.command.Command.TheVariants.{Advance}
use Rattle.gm_rules.proofs.AdvancedCopy.{IsAdvance, advanced_copy, only_of_advance}
use Rattle.gm_stop_law.proofs.NamedIntents.{copies_to}
use Rattle.gm_stop_law.proofs.NewImage.{IsOld, IsTakenIn, old_or_taken_in}

-- ---- the records

-- those of t are those of s, but for the disk of the component on p
pub record IsFilled (s t : Records) (p : List ℕ) : Type 0 where
  pub mirrors : t.mirrors ≡ s.mirrors
  pub others : (x : Component) → Has t.components x → x.provider ≢ p → Has s.components x
  pub own : (x : Component) → Has s.components x → x.provider ≡ p
      → (disk : Disk) × Has t.components (record x { disk = disk })

-- those of s are
filled_same : (s : Records) (p : List ℕ) → IsFilled s s p
filled_same s p = record {
  mirrors = refl;
  others = λ x h d. h;
  own = λ x h e. (x.disk, h);
}

-- so are those of r, if they are t's but for it
filled_on : (s t r : Records) (p : List ℕ) → IsFilled s t p → IsFilled t r p → IsFilled s r p
filled_on s t r p a b = record {
  mirrors = b.mirrors ∙ a.mirrors;
  others = λ x h d. a.others x (b.others x h d) d;
  own = λ x h e.
      let y = a.own x h e in
      b.own (record x { disk = y.0 }) y.1 e;
}

module _ (s : Records) (state : IsState s) (p : List ℕ) where
  -- what is made by way of what is found; if there is none, all stays
  found_filled : {X : Type 0} (o : Option X) (f : X → Records)
      → ((x : X) → o ≡ Some x → IsFilled s (f x) p) → IsFilled s (on_found o s f) p
  found_filled None f each = filled_same s p
  found_filled (Some x) f each = each x refl

  -- the component that is found on p is put with its next stretch
  put_filled : (m : Mirror) (k : Component) → component_of s p ≡ Some k
      → IsFilled s (record {
        mirrors = s.mirrors;
        components = put provider (advanced m k) s.components;
      }) p
  put_filled m k at =
      let f = found (λ (c : Component). same_label c.provider p) s.components k at in
      let on : k.provider ≡ p = same_is k.provider p f.1 in
      record {
        mirrors = refl;
        others = λ x h d. ⊎_elim
            (λ (e : advanced m k ≡ x). absurd (d (sym (ap provider e) ∙ on)))
            (λ (old : Has s.components x). old)
            (put_or provider (advanced m k) s.components x h);
        own = λ x h e.
            let is : k ≡ x = one provider s.components state.components_in_order k x f.0 h
            (on ∙ sym e) in (
              holding m (reach m k) k.disk,
              subst (λ (z : Component). Has (put provider (advanced m k) s.components)
                  (record z { disk = holding m (reach m k) k.disk })) is
                  (put_there provider (advanced m k) s.components),
            );
      }

  -- an advance makes such records
  filled_after : (x : Seen) (n : List ℕ) → IsFilled s (after x (Advance n p) s) p
  filled_after x n = found_filled (mirror_of s n) _ (λ m e.
      found_filled (component_of s p) _ (λ k at. put_filled m k at))

-- and so do several in turn
filled_in_turn : (u w : World) (n p : List ℕ) (ks : List Keyed) → Sound u
    → InTurn u (Advance n p) ks w → IsFilled u.state w.state p
filled_in_turn u w n p [] sound t =
    subst (λ (x : World). IsFilled u.state x.state p) (sym t) (filled_same u.state p)
filled_in_turn u w n p (k ∷ ks) sound t =
    filled_on u.state t.1.state w.state p
    (subst (λ (s : Records). IsFilled u.state s p) (sym t.3.records)
    (filled_after u.state sound.state p (seen_of u) n)) (filled_in_turn t.1 w n p ks t.2 t.4)

-- ---- no component is new

-- each is on a provider that one was on before
old_in_turn : (u w : World) (n p : List ℕ) (ks : List Keyed) → InTurn u (Advance n p) ks w
    → (k : Component) → Has w.state.components k → IsOld u.state k.provider
old_in_turn u w n p [] t k h = record {
  component = k;
  there = subst (λ (x : World). Has x.state.components k) t h;
  on = refl;
}
old_in_turn u w n p (j ∷ ks) t k h =
    let old = old_in_turn t.1 w n p ks t.4 k h in
    ⊎_elim
    (λ (was : IsOld u.state old.component.provider). subst (IsOld u.state) old.on was)
    (λ (taken : IsTakenIn (seen_of u) (Advance n p) old.component). absurd taken)
    (old_or_taken_in u.state (seen_of u) (Advance n p) old.component
    (subst (λ (s : Records). Has s.components old.component) t.3.records old.there))

-- so none is on one that none was on
pub none_is_new : (u w : World) (c : Command) (n p : List ℕ) (ks : List Keyed) → c ≡ Advance n p
    → InTurn u c ks w → (k : Component) → Has w.state.components k
    → component_of u.state k.provider ≡ None → ⊥
none_is_new u w c n p ks is t k h none =
    let old = old_in_turn u w n p ks (subst (λ (d : Command). InTurn u d ks w) is t) k h in
    not_both (same_label old.component.provider k.provider)
    (same_from old.component.provider k.provider old.on)
    (found_none (λ (x : Component). same_label x.provider k.provider) u.state.components none
    old.component old.there)

-- ---- what is copied

-- what the first of them says of both worlds holds after them all
on_and_on : (u v w : World) (target : List ℕ) (first : ℕ) → IsAdvance u v target first
    → IsFilled v.state w.state target → IsAdvance u w target first
on_and_on u v w target first a filled =
    let k : Component = a.after in
    let in_v = member v.state a.mirror.name k a.is_after.component in
    let on : k.provider ≡ target = sym (ap provider a.was) ∙ a.provider in
    let own = filled.own k in_v.0 on in
    record {
      mirror = a.mirror;
      before = a.before;
      after = record k { disk = own.0 };
      is_before = a.is_before;
      is_after = record {
        mirror = subst (λ (ms : List Mirror). Has ms a.mirror) (sym filled.mirrors)
            a.is_after.mirror;
        component = filter-Has (λ (c : Component). same_label c.mirror a.mirror.name)
            w.state.components (record k { disk = own.0 }) own.1
            (same_from k.mirror a.mirror.name in_v.1);
      };
      provider = a.provider;
      forced = a.forced;
      was = a.was;
      others = λ x h d. a.others x (filled.others x h d) d;
      mirrors = filled.mirrors ∙ a.mirrors;
    }

-- advances in turn, as the stretch that the first one copies tells
advances_copy : (u w : World) (n p : List ℕ) (ks : List Keyed) → Sound u
    → IsSeries (Advance n p) ks → InTurn u (Advance n p) ks w → (f t : List ℕ) (a b : ℕ)
    → Has (intents_of (Advance n p) u.state w.state) (Copy f t a b) → IsAdvance u w t a
advances_copy u w n p [] sound series turns f t a b h = absurd series
advances_copy u w n p (k ∷ ks) sound series turns f t a b h =
    let v = turns.1 in
    on_and_on u v w t a
    (advanced_copy u v k.key (Advance n p) k.reply sound turns.2 turns.3 f t a b h)
    (subst (λ (q : List ℕ). IsFilled v.state w.state q)
    (sym (copies_to n p u.state w.state f t a b h))
    (filled_in_turn v w n p ks turns.2 turns.4))

-- the command of a series, as a stretch that it copies tells
pub copied_in_turn : (u w : World) (c : Command) (ks : List Keyed) → Sound u → IsSeries c ks
    → InTurn u c ks w → (f t : List ℕ) (a b : ℕ)
    → Has (intents_of c u.state w.state) (Copy f t a b) → IsAdvance u w t a
copied_in_turn u w c ks sound series turns f t a b h =
    let o = only_of_advance u w c (Copy f t a b) h refl in
    subst (λ (d : Command). IsSeries d ks → InTurn u d ks w
    → Has (intents_of d u.state w.state) (Copy f t a b) → IsAdvance u w t a) (sym o.2)
    (λ series turns h. advances_copy u w o.0 o.1 ks sound series turns f t a b h)
    series turns h

-- ---- a series

-- the step by a command
pub record IsStep (u w : World) (c : Command) : Type 0 where
  pub key : List ℕ
  pub reply : Reply
  pub step : Step u key c w reply

-- it is one step, or the command is an advance
pub one_or_advance : (u w : World) (c : Command) (ks : List Keyed) → IsSeries c ks
    → InTurn u c ks w
    → IsStep u w c ⊎ ((n : List ℕ) × (p : List ℕ) × (c ≡ Advance n p))
one_or_advance u w c [] series turns = absurd series
one_or_advance u w c (k ∷ []) series turns = inl (record {
  key = k.key;
  reply = k.reply;
  step = subst (λ (x : World). Step u k.key c x k.reply) (sym turns.4) turns.3;
})
one_or_advance u w c (k ∷ (l ∷ ks)) series turns = inr series
