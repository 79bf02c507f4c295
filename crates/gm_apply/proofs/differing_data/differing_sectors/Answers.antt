use Rattle.gm_apply.proofs.Common.{◌≡◌, ℕ, length, take, rules, subst, arith, only_then, IsDifference, IsWithin, sectors_from}
use Rattle.gm_apply.proofs.DifferingSectors.{difference_seen, difference_then, within_then}
use Rattle.gm_apply.proofs.differing_data.differing_sectors.Goals as goal

pub loop-place-preserved : goal.loop-place-preserved
loop-place-preserved g c =
    let inv = c.loop-place.invariant in
    let old = (g.H.Shelf.view c.args.shelf.now).seen in
    let mid = (g.H.Shelf.view c.loop-place.shelf).seen in
    let source = c.args.source in
    let provider = c.args.provider in
    let place = c.loop-place.place in
    let sectors : ℕ = c.min-length.result in
    let run = c.in_ok-run.run' in
    let long : length (take sectors c.loop-place.wanted) ≡ sectors = search rules in
    let few : IsWithin sectors run =
    subst (λ (n : ℕ). IsWithin n run) long c.in_ok-run.ensures.within in
    let then = c.then-found.ensures in
    record {
      within = omega arith;
      few = record {
        sectors = omega (arith, then.sectors, inv.few.sectors, few.sectors);
        first = within_then place sectors c.loop-place.found.first run.first
            c.then-found.result.first inv.few.first few.first then.before then.behind;
      };
      only = only_then g.H.Shelf _ _ _ inv.only c.compare_run.ensures.only;
      told = λ h.
          difference_then (old source) (old provider) place sectors c.loop-place.found run
          c.then-found.result (inv.told h) inv.few
          (difference_seen old mid source provider place sectors run (inv.only.reads h).quiet.seen
          few
          (subst (λ (n : ℕ). IsDifference (sectors_from mid source place)
          (sectors_from mid provider place) n run) long
          (c.in_ok-run.ensures.told (inv.only.keeps.honest h))))
          then.sectors then.before then.behind;
    }
