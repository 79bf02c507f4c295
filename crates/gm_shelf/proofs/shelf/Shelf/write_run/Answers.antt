use Rattle.gm_shelf.proofs.Common.{◌∙◌, arith, rules}
use Rattle.gm_shelf.proofs.Runs.{run_then, put_more}
use Rattle.gm_shelf.proofs.shelf.Shelf.write_run.Goals as goal

pub returns-in_err-write-clause-law : goal.returns-in_err-write-clause-law
returns-in_err-write-clause-law g c h =
    let view = g.Self.Shelf.view in
    let inv = c.loop-index.invariant in
    run_then c.args.provider c.args.first c.args.sectors.now (view c.args.self.now)
    (view c.loop-index.self) (view c.write.new.self) c.loop-index.index c.loop-index-test.true
    (inv.law h) (c.write.ensures.law (inv.honest h))

pub loop-index-preserved : goal.loop-index-preserved
loop-index-preserved g c =
    let view = g.Self.Shelf.view in
    let inv = c.loop-index.invariant in
    record {
      untouched = λ e. absurd (omega (arith, e));
      counted = search rules;
      size = c.write.ensures.size ∙ inv.size;
      honest = λ h. c.write.ensures.honest (inv.honest h);
      law = λ h. run_then c.args.provider c.args.first c.args.sectors.now (view c.args.self.now)
          (view c.loop-index.self) (view c.write.new.self) c.loop-index.index c.loop-index-test.true
          (inv.law h) (c.write.ensures.law (inv.honest h));
      seen = λ h. put_more c.args.provider c.args.first c.args.sectors.now
          (view c.args.self.now).seen (view c.loop-index.self).seen
          (view c.write.new.self).seen c.loop-index.index (inv.seen h)
          (c.in_ok-write.ensures.written (inv.honest h));
    }
