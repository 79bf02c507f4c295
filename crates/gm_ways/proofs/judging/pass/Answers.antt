use Rattle.std.proofs.Common.{sym, subst, IfOk}
use Rattle.gm_refusals.specs.Seen.{seen_in}
use Rattle.gm_ways.specs.Judged.{PassesOr}
use Rattle.gm_ways.specs.declared.step.Step.{Step}
use Rattle.gm_ways.proofs.judging.pass.Goals as goal

pub returns-in-Fill : goal.returns-in-Fill
returns-in-Fill c =
    subst (λ (step : Step). IfOk c.filled.result
    (PassesOr (seen_in c.args.facts.now) c.args.exchange.now c.args.did step c.args.state.now))
    (sym c.in-Fill.is) (c.filled.ensures c.args.did)
