-- A series of an advance ends when the component is filled: another advance of it is refused.
use Rattle.gm_rules.proofs.Common.{◌≡◌, ℕ, ◌<◌, ◌&&◌, false, not, Some, refl, sym, ap, subst, arith, List, [], ◌∷◌, any_from, Advance, Mirror, Component, Disk, InSync, Inactive, Copying, Has, IsMirror, held_of, members, mirror_of, World, Sound, is_on_any, on_one, Bad}
use Rattle.gm_state.specs.States.{state_by}
use Rattle.gm_state.proofs.FoundRecords.{rules_of}
use Rattle.gm_refusals.specs.Applies.{is_synchronizing}
use Rattle.gm_refusals.specs.declared.refusals.Refusal.TheVariants.{NotSynchronizing}
use Rattle.gm_refusals.proofs.NothingApplies.{few_data}
use Rattle.gm_changes.specs.Decides.{Changed}
use Rattle.gm_changes.specs.Stretches.{IsUnfilled}
use Rattle.gm_rules.specs.Series.{SeriesPlan}
use Rattle.gm_rules.proofs.FilledFurther.{IsFurther, after_on, member_after, mirror_after}
use Rattle.gm_rules.proofs.SeriesGoesOn.{filled_by_series, first_good, puts_it}

-- If the change puts one component alone, and that isn't unfilled, the next advance is refused.
pub filled_refused : (u w : World) (key n p : List ℕ) (ch : Changed) (k : Component) → Sound u
    → SeriesPlan u key (Advance n p) ch w → ch.components ≡ k ∷ []
    → (IsUnfilled ch k → ⊥) → Bad w (Advance n p) NotSynchronizing
filled_refused u w key n p ch k sound series alone filled =
    let it = filled_by_series u w key n p ch sound series in
    let m : Mirror = it.0 in
    let is : it.2 ≡ k = sym (puts_it u w key n p ch sound series m it.1 it.2 k it.3 it.4 alone) in
    let far : IsFurther u w m it.1 k = subst (λ (c : Component). IsFurther u w m it.1 c) is it.4 in
    let at : mirror_of w.state n ≡ Some m =
    mirror_after u w n p m it.1 k it.3 far series.sound.state in
    let mine : Has (members w.state.components n) k =
    member_after u w n p m it.1 k it.3 far sound.state series.sound.state
    (first_good u w key n p ch sound series) in
    let full : (d : Disk) → k.disk ≡ d → is_synchronizing (state_by m.flags d) ≡ false =
    done m at mine in
    record {
      listed = refl;
      met = rw at (any_from (λ i. is_on_any (p ∷ []) i && not
          (is_synchronizing (state_by m.flags i.disk))) (members w.state.components n) k mine
          (rw (
            on_one k p (after_on u w n p m it.1 k it.3 far series.sound.state),
            full k.disk refl,
          ) refl));
    }
  where
    -- what isn't unfilled isn't SYNCHRONIZING
    done : (m : Mirror) → mirror_of w.state n ≡ Some m → Has (members w.state.components n) k
        → (d : Disk) → k.disk ≡ d → is_synchronizing (state_by m.flags d) ≡ false
    done m at mine InSync e = refl
    done m at mine Inactive e = refl
    done m at mine (Copying forced held) e =
        let rules : IsMirror m (members w.state.components n) =
        rules_of w.state n m series.sound.state at in
        let l : held_of k.disk < m.data_sectors = rules.held k mine in
        let same : held_of k.disk ≡ held = ap held_of e in
        let few : m.data_sectors < 1048576 = few_data w.state n m series.sound.state at in
        absurd (filled (record {
          alone = alone;
          forced = forced;
          held = held;
          copying = e;
          few = omega arith;
        }))
