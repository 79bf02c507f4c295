-- The plan of label.
use Rattle.gm_rules.proofs.Common.{◌≡◌, ◌≢◌, inl, ⊎_elim, ◌<◌, ◌≤◌, ◌+◌, refl, ap, subst, arith, [], ◌∷◌, Some, None, Label, Mirror, Component, Inactive, Has, Records, IsMirror, ComponentFits, held_by, held_of, component_of, World, Below, present, new_mirror, first_component, seen_of, none_any, not_at}
use Rattle.gm_commands.specs.declared.command.NewMirror.{NewMirror}
use Rattle.gm_refusals.specs.declared.refusals.Refusal.TheVariants as refusals
use Rattle.gm_rules.proofs.EnrolledMirror.{enrolls_plan}
use Rattle.gm_rules.proofs.PlanOf.{Allowed, PlanOf}
use Rattle.gm_rules.proofs.RuledOut.{IsFree, is_free, no_namesake, one_more_mirror, put_bare}

module _ (u : World) (new : NewMirror) (may : Allowed u (Label new)) where
  free : IsFree u.state (seen_of u) new.provider
  free = is_free u.state (seen_of u) (Label new) may.good refl refl refl refl new.provider
      (inl refl)

  abbrev m : Mirror
  m = new_mirror new free.sectors

  abbrev k : Component
  k = first_component new free.sectors

  only : (P : Component → Type 0) → P k → (j : Component) → Has (k ∷ []) j → P j
  only P first j i = ⊎_elim (λ (e : k ≡ j). subst P e first) (λ (o : ⊥). absurd o) i

  some : 2 ≤ free.sectors
  some = free.some

  rules : IsMirror m (k ∷ [])
  rules = record {
    fits = record {
      name = may.fits.0;
      mid = may.fits.2;
      genid = omega arith;
      syncid = omega arith;
      slice = may.fits.5;
    };
    members_fit = only ComponentFits
        (record { provider = may.fits.1; did = may.fits.3; priority = omega arith });
    some = omega (arith, some);
    all = omega arith;
    room = omega arith;
    active = (k, inl refl, refl);
    sizes = only (λ j. m.data_sectors + 1 ≤ j.sectors) (omega (arith, some));
    limits = only (λ j. j.sectors ≤ 1048576) free.limit;
    held = only (λ j. held_of j.disk < m.data_sectors) (omega (arith, some));
    dids = only (λ i. (j : Component) → Has (k ∷ []) j → i.did ≡ j.did → i ≡ j)
        (only (λ j. new.did ≡ j.did → k ≡ j) (λ e. refl));
    syncids = only (λ j. j.syncid ≤ m.syncid) (omega arith);
    current = only (λ j. j.disk ≢ Inactive → j.syncid ≡ m.syncid) (λ x. refl);
  }

  pub label_plan : PlanOf u (Label new)
  label_plan = enrolls_plan u (Label new) m (k ∷ []) (u.shelf new.provider) may.sound (record {
    names = no_namesake u.state new.name (may.good refusals.NameTaken refl);
    mids = λ a i. not_at a.mid new.mid
        (none_any _ u.state.mirrors (may.good refusals.MidTaken refl) a i);
    room = one_more_mirror u.state may.sound.state (may.good refusals.TooManyMirrors refl);
    rules = rules;
    ordered = (λ j i. absurd i, tt);
    own = only (λ j. j.mirror ≡ new.name) refl;
    fresh = only (λ j. component_of u.state j.provider ≡ None) free.none;
    there = only (λ j. present u j.provider ≡ Some j.sectors) free.size;
    below = only (λ j. Below u.shelf (u.shelf new.provider) j.provider
        (held_by j.disk m.data_sectors)) (λ i l. refl);
    after_is = rw free.size refl;
    intents = λ mine. refl;
    named = refl;
    bytes = refl;
    reply = tt;
    new = λ w e i l. e i;
    bare = λ w e. put_bare u k free.size (omega (arith, some))
        (may.good refusals.CarriesMetadata refl) w (ap (λ (r : Records). r.components) e);
    filled = λ q j. refl;
    all_gone = λ q. refl;
  })
