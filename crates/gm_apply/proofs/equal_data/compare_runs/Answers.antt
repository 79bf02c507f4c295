use Rattle.gm_apply.proofs.Common.{◌≡◌, ◌+◌, ℕ, arith, rules, subst, only_then}
use Rattle.gm_apply.proofs.EqualSectors.{AreEqualBelow, counted, equal_part, part_counted, same_part}
use Rattle.gm_apply.proofs.equal_data.compare_runs.Goals as goal

pub returns-then-equal-sectors : goal.returns-then-equal-sectors
returns-then-equal-sectors g c =
    let inv = c.loop-place.invariant in
    let old = (g.H.Shelf.view c.args.shelf.now).seen in
    let mid = (g.H.Shelf.view c.loop-place.shelf).seen in
    let source = c.args.source in
    let provider = c.args.provider in
    let place = c.loop-place.place in
    let sectors = c.min-sectors.result in
    let equal = c.in_ok-equal.equal in
    record {
      told = λ h.
          part_counted old source provider place sectors equal (inv.equal h)
          (same_part old mid source provider place sectors equal (inv.only.reads h).quiet.seen
          (c.in_ok-equal.ensures.told (inv.only.keeps.honest h)))
          c.args.reach c.if-equal-sectors.true;
      within = search rules;
      fails = search rules;
      only = search rules;
    }

pub loop-place-preserved : goal.loop-place-preserved
loop-place-preserved g c =
    let inv = c.loop-place.invariant in
    let old = (g.H.Shelf.view c.args.shelf.now).seen in
    let mid = (g.H.Shelf.view c.loop-place.shelf).seen in
    let source = c.args.source in
    let provider = c.args.provider in
    let place = c.loop-place.place in
    let sectors = c.min-sectors.result in
    let equal = c.in_ok-equal.equal in
    let whole : equal ≡ sectors = omega (
      arith,
      c.in_ok-equal.ensures.within,
      c.if-equal-sectors.false,
    ) in
    record {
      within = omega arith;
      only = only_then g.H.Shelf _ _ _ inv.only c.compare_run.ensures.only;
      equal = λ h.
          subst (λ (n : ℕ). AreEqualBelow old source provider (place + n)) whole
          (equal_part old source provider place sectors equal (inv.equal h)
          (same_part old mid source provider place sectors equal (inv.only.reads h).quiet.seen
          (c.in_ok-equal.ensures.told (inv.only.keeps.honest h))));
    }

pub returns : goal.returns
returns g c =
    let inv = c.loop-place.invariant in
    record {
      told = λ h.
          counted (g.H.Shelf.view c.args.shelf.now).seen c.args.source c.args.provider c.args.reach
          c.loop-place.place (inv.equal h)
          (λ few. absurd (omega (arith, few, c.loop-place-test.false)));
      within = inv.within;
      fails = search rules;
      only = inv.only;
    }
