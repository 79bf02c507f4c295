use Rattle.gm_apply.proofs.Common.{◌≤◌, ◌+◌, inl, arith, rules, keeps_then}
use Rattle.gm_apply.proofs.Sectors.{run_gone, run_seen}
use Rattle.gm_apply.proofs.copy.copy_runs.Goals as goal

pub returns-in_err-copy_run : goal.returns-in_err-copy_run
returns-in_err-copy_run g c =
    let shelf = g.H.Shelf in
    let inv = c.loop-place.invariant in
    let fits : c.loop-place.place + c.min-sectors.result ≤ c.args.end = search rules in
    record {
      done = search rules;
      under_way = λ h.
          run_gone c.args.source c.args.target c.args.first c.args.end c.loop-place.place
          c.min-sectors.result inv.low (shelf.view c.args.shelf.now) (shelf.view c.loop-place.shelf)
          (inv.seen h) fits (shelf.view c.copy_run.new.shelf) (inv.going h)
          (c.copy_run.ensures.under_way (inv.keeps.honest h));
      fails = search rules;
      keeps = search rules;
    }

pub loop-place-preserved : goal.loop-place-preserved
loop-place-preserved g c =
    let shelf = g.H.Shelf in
    let inv = c.loop-place.invariant in
    let old = shelf.view c.args.shelf.now in
    let mid = shelf.view c.loop-place.shelf in
    let place = c.loop-place.place in
    let n = c.min-sectors.result in
    let fits : place + n ≤ c.args.end = search rules in
    record {
      low = omega (arith, inv.low);
      reach = inl fits;
      keeps = keeps_then shelf _ _ _ inv.keeps c.copy_run.ensures.keeps;
      going = λ h.
          run_gone c.args.source c.args.target c.args.first c.args.end place n inv.low old mid
          (inv.seen h) fits (shelf.view c.copy_run.new.shelf) (inv.going h)
          (c.copy_run.ensures.under_way (inv.keeps.honest h));
      seen = λ h.
          run_seen c.args.source c.args.target c.args.first c.args.end place n inv.low old mid
          (inv.seen h) (shelf.view c.copy_run.new.shelf).seen
          (c.in_ok-copy_run.ensures.done (inv.keeps.honest h) tt);
    }
