-- The plans of deactivate, activate, forget, rebuild and configure, which keep the components of
-- their mirror.
use Rattle.gm_rules.proofs.Common.{◌≡◌, ◌∙◌, inl, inr, ℕ, ◌<◌, ◌≤◌, ◌+◌, ◌^◌, refl, sym, subst, arith, List, Option, Some, None, length, map, unwrap_or, cases_Bool, same_label, Deactivate, Activate, Forget, Rebuild, Configure, Mirror, Component, Disk, PreferenceFits, SliceFits, Has, put_all, IsMirror, held_by, members, provider, World, differ, map_id, activated, configured, configured_mirror, deactivated, priority_by, rebuilt, one_more_sync, keeps_configured, keeps_deactivated, keeps_id, put_mapped, where_of, is_member}
use Rattle.gm_commands.specs.declared.command.Preference.{Preference}
use Rattle.gm_commands.specs.declared.command.Settings.{Settings}
use Rattle.gm_refusals.specs.declared.refusals.Refusal.TheVariants as refusals
use Rattle.gm_rules.proofs.MappedMirror.{Obeys, fresh_disk, obeys_freshened, obeys_still, restarts_plan, rewrites_plan}
use Rattle.gm_rules.proofs.PlanOf.{Allowed, PlanOf}
use Rattle.gm_rules.proofs.RuledOut.{CanTouch, by_name, component_at, in_use, other_active, other_in_use}

-- ---- activate

pub activate_plan : (u : World) (n p : List ℕ) → Allowed u (Activate n p) → PlanOf u (Activate n p)
activate_plan u n p may =
    by_name u (λ a. Activate a p) n may (λ a. refl) (λ a. refl) (λ a. refl) (λ m of.
    let ks : List Component = members u.state.components m.name in
    let good = of.may.good in
    let can : CanTouch u m p = record {
      member = is_member ks p (good refusals.NotMember refl);
      active = other_in_use ks p (good refusals.NotInactive refl) of.rules.active;
    } in
    restarts_plan u (Activate m.name p) m p (activated m) of can (record {
      keeps =
          record { provider = λ k. refl; mirror = λ k. refl; did = λ k. refl; sectors = λ k. refl };
      waits = λ k. refl;
      obeys = record {
        priority = (of.rules.members_fit can.member.0 can.member.1).priority;
        held = of.rules.some;
        syncid = omega arith;
        current = λ d. refl;
      };
      holds = refl;
      after_is = rw (of.found, component_at u m p of.may.sound.state can) refl;
      intents = λ s. refl;
      none = λ q. refl;
      takes_nothing = (λ q j. refl, tt, λ w. tt, λ w. tt, refl);
    }))

-- ---- rebuild

pub rebuild_plan : (u : World) (n p : List ℕ) → Allowed u (Rebuild n p) → PlanOf u (Rebuild n p)
rebuild_plan u n p may =
    by_name u (λ a. Rebuild a p) n may (λ a. refl) (λ a. refl) (λ a. refl) (λ m of.
    let ks : List Component = members u.state.components m.name in
    let good = of.may.good in
    let can : CanTouch u m p = record {
      member = is_member ks p (good refusals.NotMember refl);
      active = other_active ks p (good refusals.LastActive refl);
    } in
    let k = can.member in
    let used = in_use ks p (good refusals.Inactive refl) k.0 k.1 k.2 in
    restarts_plan u (Rebuild m.name p) m p rebuilt of can (record {
      keeps =
          record { provider = λ k. refl; mirror = λ k. refl; did = λ k. refl; sectors = λ k. refl };
      waits = λ k. refl;
      obeys = record {
        priority = (of.rules.members_fit k.0 k.1).priority;
        held = of.rules.some;
        syncid = of.rules.syncids k.0 k.1;
        current = λ d. of.rules.current k.0 k.1 used;
      };
      holds = refl;
      after_is = rw (component_at u m p of.may.sound.state can) refl;
      intents = λ s. refl;
      none = λ q. refl;
      takes_nothing = (λ q j. refl, tt, λ w. tt, λ w. tt, refl);
    }))

-- ---- forget

pub forget_plan : (u : World) (n : List ℕ) → Allowed u (Forget n) → PlanOf u (Forget n)
forget_plan u n may =
    by_name u (λ a. Forget a) n may (λ a. refl) (λ a. refl) (λ a. refl) (λ m of.
    let ks : List Component = members u.state.components m.name in
    let rules : IsMirror m ks = of.rules in
    let m' : Mirror = record m { all = length ks } in
    let id : Component → Component = λ k. k in
    let still : put_all provider (map id ks) u.state.components ≡ u.state.components =
    put_mapped m.name id keeps_id u.state.components of.may.sound.state.components_in_order
    ∙ map_id (where_of m.name id) u.state.components
    (λ k h. elim (cases_Bool (same_label k.mirror m.name)) [
      | inl e ↦ rw e refl
      | inr e ↦ rw e refl
    ]) in
    rewrites_plan u (Forget m.name) m m' id of (record {
      shape = record {
        same = record {
          name = refl;
          mid = refl;
          sectors = refl;
          counts = (rules.fits.genid, rules.fits.syncid, rules.fits.slice);
          all = (let a : length ks ≤ m.all = rules.room in let b : m.all ≤ 16 = rules.all in
              omega arith);
        };
        keeps = keeps_id;
        room = omega arith;
        active = rules.active;
        each = λ k h. obeys_still m m' ks k rules h refl;
      };
      waits = λ k. refl;
      holds = λ k h. omega arith;
      after_is = rw (of.found, still) refl;
      intents = λ s. refl;
      none = λ q. refl;
      takes_nothing = (λ q j. refl, tt, λ w. tt, λ w. tt, refl);
    }))

-- ---- deactivate

module _ (m m' : Mirror) (ks : List Component) (p : List ℕ) (rules : IsMirror m ks)
    (e : m'.syncid ≡ m.syncid + 1) where
  abbrev g : Component → Component
  g = deactivated (m.syncid + 1) p

  -- the one on p keeps what it has
  obeys_deactivated : (k : Component) → Has ks k → Obeys m m' (g k)
  obeys_deactivated k h =
      let priority : k.priority < 2 ^ 8 = (rules.members_fit k h).priority in
      let behind : k.syncid ≤ m.syncid = rules.syncids k h in
      elim (cases_Bool (same_label k.provider p)) [
        | inl on ↦ rw on (record {
          priority = priority;
          held = rules.some;
          syncid = omega (arith, e);
          current = λ d. absurd (d refl);
        })
        | inr on ↦ rw on (obeys_freshened m m' ks k rules h e)
      ]

  holds_deactivated : (k : Component) → held_by (g k).disk m.data_sectors
      ≤ held_by k.disk m.data_sectors
  holds_deactivated k =
      elim (cases_Bool (same_label k.provider p)) [
        | inl on ↦ rw on (omega arith)
        | inr on ↦ rw on (subst (λ (d : Disk). held_by d m.data_sectors
            ≤ held_by k.disk m.data_sectors) (sym (fresh_disk (m.syncid + 1) k)) (omega arith))
      ]

pub deactivate_plan : (u : World) (n p : List ℕ) → Allowed u (Deactivate n p)
    → PlanOf u (Deactivate n p)
deactivate_plan u n p may =
    by_name u (λ a. Deactivate a p) n may (λ a. refl) (λ a. refl) (λ a. refl) (λ m of.
    let ks : List Component = members u.state.components m.name in
    let rules : IsMirror m ks = of.rules in
    let m' : Mirror = record m { syncid = m.syncid + 1 } in
    let active = other_active ks p (of.may.good refusals.LastActive refl) in
    let small : m.syncid < 4294967295 = one_more_sync u.state m.name m of.may.sound.state of.found
    (of.may.good refusals.LastSyncid refl) in
    rewrites_plan u (Deactivate m.name p) m m' (deactivated (m.syncid + 1) p) of (record {
      shape = record {
        same = record {
          name = refl;
          mid = refl;
          sectors = refl;
          counts = (rules.fits.genid, omega arith, rules.fits.slice);
          all = rules.all;
        };
        keeps = keeps_deactivated (m.syncid + 1) p;
        room = rules.room;
        active = (
          active.0,
          active.1,
          rw (differ active.0.provider p active.3, active.2) refl,
        );
        each = obeys_deactivated m m' ks p rules refl;
      };
      waits = λ k. refl;
      holds = λ k h. holds_deactivated m m' ks p rules refl k;
      after_is = rw of.found refl;
      intents = λ s. refl;
      none = λ q. refl;
      takes_nothing = (λ q j. refl, tt, λ w. tt, λ w. tt, refl);
    }))

-- ---- configure

slice_fits : (o : Option ℕ) (n : ℕ) → SliceFits o → n < 2 ^ 32 → unwrap_or o n < 2 ^ 32
slice_fits None n given old = old
slice_fits (Some a) n given old = given.1

priority_fits : (o : Option Preference) (k : Component) → PreferenceFits o → k.priority < 2 ^ 8
    → priority_by o k < 2 ^ 8
priority_fits None k given old = old
priority_fits (Some p) k given old =
    elim (cases_Bool (same_label k.provider p.provider)) [ inl e ↦ rw e given.1 | inr e ↦ rw e old ]

pub configure_plan : (u : World) (n : List ℕ) (settings : Settings)
    → Allowed u (Configure n settings) → PlanOf u (Configure n settings)
configure_plan u n settings may =
    by_name u (λ a. Configure a settings) n may (λ a. refl) (λ a. refl) (λ a. refl) (λ m of.
    let ks : List Component = members u.state.components m.name in
    let rules : IsMirror m ks = of.rules in
    let m' : Mirror = configured_mirror settings m in
    rewrites_plan u (Configure m.name settings) m m' (configured settings) of (record {
      shape = record {
        same = record {
          name = refl;
          mid = refl;
          sectors = refl;
          counts = (
            rules.fits.genid,
            rules.fits.syncid,
            slice_fits settings.slice m.slice of.may.fits.1 rules.fits.slice,
          );
          all = rules.all;
        };
        keeps = keeps_configured settings;
        room = rules.room;
        active = rules.active;
        each = λ k h. record {
          priority = priority_fits settings.preference k of.may.fits.2
              (rules.members_fit k h).priority;
          held = rules.held k h;
          syncid = rules.syncids k h;
          current = rules.current k h;
        };
      };
      waits = λ k. refl;
      holds = λ k h. omega arith;
      after_is = rw of.found refl;
      intents = λ s. refl;
      none = λ q. refl;
      takes_nothing = (λ q j. refl, tt, λ w. tt, λ w. tt, refl);
    }))
