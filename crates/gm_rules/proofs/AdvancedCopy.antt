-- What a step says of both worlds if a stretch is copied: it is one of `advance`.
use Rattle.gm_rules.proofs.Common.{◌≡◌, ◌≢◌, ◌∙◌, ◌⊎◌, inl, inr, ⊎_elim, ℕ, ◌+◌, Bool, true, false, refl, sym, ap, subst, List, [], ◌∷◌, Option, Some, None, flat_map, length, list_any, same_label, Command, Advance, Intent, Copy, Meta, Mirror, Component, Disk, Copying, Has, put, put_or, put_there, filter-Has, none_any, not_both, same_from, Records, members, provider, mirror_of, component_of, source_of, held_of, is_copy, IsOf, World, Sound, named, advanced, active_of, clears_of, intents_of, metas, patching, reach, Step}
use Rattle.gm_commands.specs.declared.command.Command.TheVariants as commands
use Rattle.gm_state.specs.declared.intents.Reply.{Reply}
use Rattle.gm_state.proofs.FoundRecords.{home_of}
use Rattle.gm_lists.proofs.Finding.{found}
use Rattle.gm_refusals.specs.declared.refusals.Refusal.TheVariants as refusals
use Rattle.gm_changes.specs.After.{on_found}
use Rattle.gm_changes.proofs.LendingComponent.{is_copying}
use Rattle.gm_rules.proofs.GrownRecords.{is_good}

-- what the copy of a step by `advance` says of both worlds
pub record IsAdvance (u w : World) (target : List ℕ) (first : ℕ) : Type 0 where
  pub mirror : Mirror
  pub before : Component
  pub after : Component
  pub is_before : IsOf u.state mirror before
  pub is_after : IsOf w.state mirror after
  pub provider : before.provider ≡ target
  pub forced : Bool
  pub was : before ≡ record after { disk = Copying forced first }
  pub others : (x : Component) → Has w.state.components x → x.provider ≢ target
      → Has u.state.components x
  pub mirrors : w.state.mirrors ≡ u.state.mirrors

-- ---- the other commands copy nothing

-- none of Meta, of Clear and of what lays sectors is a copy
metas_copy : (ks : List Component) → list_any is_copy (metas ks) ≡ false
metas_copy [] = refl
metas_copy (k ∷ ks) = metas_copy ks

clears_copy : (ks : List Component) → list_any is_copy (clears_of ks) ≡ false
clears_copy [] = refl
clears_copy (k ∷ ks) = clears_copy ks

patches_copy : (first end : ℕ) (ks : List Component)
    → list_any is_copy (flat_map (patching first end) ks) ≡ false
patches_copy first end [] = refl
patches_copy first end (k ∷ ks) = patches_copy first end ks

-- the command is advance
abbrev IsOfAdvance : Command → Type 0
IsOfAdvance c = (name provider : List ℕ) × (c ≡ Advance name provider)

-- a command's intents copy nothing, or it is advance
copies_by : (c : Command) (s s' : Records) → (list_any is_copy (intents_of c s s') ≡ false)
    ⊎ IsOfAdvance c
copies_by (commands.Label new) s s' = inl refl
copies_by (commands.Insert new) s s' = inl (metas_copy (members s'.components new.name))
copies_by (commands.Remove n p) s s' = inl (metas_copy (members s'.components n))
copies_by (commands.Deactivate n p) s s' = inl (metas_copy (members s'.components n))
copies_by (commands.Activate n p) s s' = inl refl
copies_by (commands.Forget n) s s' = inl (metas_copy (members s'.components n))
copies_by (commands.Rebuild n p) s s' = inl refl
copies_by (commands.Configure n settings) s s' = inl (metas_copy (members s'.components n))
copies_by (commands.Clear p) s s' = inl refl
copies_by (commands.Destroy n) s s' = inl (clears_copy (members s.components n))
copies_by (commands.Lost n ps) s s' = inl (metas_copy (members s'.components n))
copies_by (commands.Advance n p) s s' = inr (n, p, refl)
copies_by (commands.Adopt n ps) s s' = inl (metas_copy (members s'.components n))
copies_by (commands.Patch n first sectors) s s' =
    inl (patches_copy first (first + length sectors) (active_of (members s'.components n)))

-- only advance copies
pub only_of_advance : (u w : World) (c : Command) (t : Intent)
    → Has (intents_of c u.state w.state) t → is_copy t ≡ true
    → (name provider : List ℕ) × (c ≡ Advance name provider)
only_of_advance u w c t h e = ⊎_elim
    (λ (none : list_any is_copy (intents_of c u.state w.state) ≡ false).
    not_both (is_copy t) e (none_any is_copy (intents_of c u.state w.state) none t h))
    (λ (of : IsOfAdvance c). of) (copies_by c u.state w.state)

-- ---- what advance copies

-- what is made by way of what is found is there because that is found
found_has : {X Y : Type 0} (o : Option X) (f : X → List Y) (y : Y) → Has (on_found o [] f) y
    → (x : X) × (o ≡ Some x) × Has (f x) y
found_has None f y h = absurd h
found_has (Some x) f y h = (x, refl, h)

module _ (u w : World) (key : List ℕ) (r : Reply) (sound : Sound u) (n p : List ℕ)
    (step : Step u key (Advance n p) w r) where
  abbrev s : Records
  s = u.state

  -- component k of mirror m, to which the stretch is copied
  module _ (m : Mirror) (k : Component) (at_name : mirror_of s n ≡ Some m)
      (at : component_of s p ≡ Some k) (source t f : List ℕ) (a b : ℕ)
      (copy : Copy source k.provider (held_of k.disk) (reach m k) ≡ Copy f t a b) where
    -- it is registered
    in_all : Has s.components k
    in_all = (found (λ (c : Component). same_label c.provider p) s.components k at).0

    -- it is one of the mirror
    home : k.mirror ≡ m.name
    home = home_of s n p sound.state k at
        (is_good u w key (Advance n p) r step refusals.NotMember refl)
        ∙ sym (named s n m at_name).1

    -- it is SYNCHRONIZING
    filled : (forced : Bool) × (held : ℕ) × (k.disk ≡ Copying forced held)
    filled = is_copying s n p sound.state m k at_name at (home ∙ (named s n m at_name).1)
        (is_good u w key (Advance n p) r step refusals.NotSynchronizing refl)

    -- what it holds is what the stretch begins at
    disk : k.disk ≡ Copying filled.0 a
    disk =
        let first : held_of k.disk ≡ a = cc in
        let same : held_of k.disk ≡ filled.1 = ap held_of filled.2 in
        filled.2 ∙ ap (Copying filled.0) (sym same ∙ first)

    -- a registered component of the mirror
    of_is : (x : Records) (c : Component) → Has x.mirrors m → Has x.components c
        → c.mirror ≡ m.name → IsOf x m c
    of_is x c here h e = record {
      mirror = here;
      component = filter-Has (λ (j : Component). same_label j.mirror m.name) x.components c h
          (same_from c.mirror m.name e);
    }

    -- the records differ in the component alone
    records_are : w.state
        ≡ record { mirrors = s.mirrors; components = put provider (advanced m k) s.components }
    records_are = rw (at_name, at) at step.records

    of_copy : IsAdvance u w t a
    of_copy = record {
      mirror = m;
      before = k;
      after = advanced m k;
      is_before = of_is s k (named s n m at_name).0 in_all home;
      is_after = rw records_are (of_is _ (advanced m k) (named s n m at_name).0
          (put_there provider (advanced m k) s.components) home);
      provider = cc;
      forced = filled.0;
      was = ap (λ (d : Disk). record k { disk = d }) disk;
      others = λ x h d. ⊎_elim
          (λ (e : advanced m k ≡ x). absurd (d (sym (ap provider e) ∙ cc)))
          (λ (old : Has s.components x). old)
          (put_or provider (advanced m k) s.components x
          (subst (λ (z : Records). Has z.components x) records_are h));
      mirrors = ap (λ (z : Records). z.mirrors) records_are;
    }

  of_advance : (f t : List ℕ) (a b : ℕ)
      → Has (intents_of (Advance n p) u.state w.state) (Copy f t a b) → IsAdvance u w t a
  of_advance f t a b h =
      let x = found_has (mirror_of s n) _ (Copy f t a b) h in
      let y = found_has (component_of s p) _ (Copy f t a b) x.2 in
      let z = found_has (source_of s p) _ (Copy f t a b) y.2 in
      ⊎_elim
      (λ (e : Copy z.0 y.0.provider (held_of y.0.disk) (reach x.0 y.0) ≡ Copy f t a b).
      of_copy x.0 y.0 x.1 y.1 z.0 t f a b e)
      (λ (o : Has (Meta y.0.provider ∷ []) (Copy f t a b)).
      not_both (is_copy (Copy f t a b)) refl
      (none_any is_copy (Meta y.0.provider ∷ []) refl (Copy f t a b) o)) z.2

-- the step by advance, as the stretch that it copies tells
pub advanced_copy : (u w : World) (key : List ℕ) (c : Command) (r : Reply) → Sound u → Sound w
    → Step u key c w r → (f t : List ℕ) (a b : ℕ)
    → Has (intents_of c u.state w.state) (Copy f t a b) → IsAdvance u w t a
advanced_copy u w key c r sound later step f t a b h =
    let o = only_of_advance u w c (Copy f t a b) h refl in
    subst (λ (d : Command). Step u key d w r → Has (intents_of d u.state w.state) (Copy f t a b)
    → IsAdvance u w t a) (sym o.2)
    (λ step h. of_advance u w key r sound o.0 o.1 step f t a b h) step h
