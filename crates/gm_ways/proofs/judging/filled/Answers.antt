use Rattle.std.proofs.Common.{◌∙◌, ◌+◌, ℕ, Result, sym, ap, subst}
use Rattle.gm_commands.specs.declared.command.Command.TheVariants.{Advance}
use Rattle.gm_state.specs.Records.{Records}
use Rattle.gm_refusals.specs.declared.refusals.Refusal.{Refusal}
use Rattle.gm_refusals.specs.Seen.{seen_in}
use Rattle.gm_ways.specs.Judged.{FollowsOr}
use Rattle.gm_ways.proofs.Leading.{repeats_more}
use Rattle.gm_ways.proofs.judging.filled.Goals as goal

pub returns-in-Err : goal.returns-in-Err
returns-in-Err c did = (
  c.loop.counter,
  c.loop.passed.state,
  c.loop.invariant.leads,
  sym c.is_active.ensures ∙ c.if-is_active.false,
  subst (λ (r : Result Records Refusal). FollowsOr c.loop.passed.state (seen_in c.args.facts.now)
      (Advance c.args.exchange.now.mirror c.args.exchange.now.new) r) c.in-Err.is
      c.in_ok-refusal.ensures,
)

pub loop-preserved : goal.loop-preserved
loop-preserved c =
    let x = seen_in c.args.facts.now in
    let advance = Advance c.args.exchange.now.mirror c.args.exchange.now.new in
    let inv = c.loop.invariant in
    record {
      count = ap (λ (n : ℕ). n + 1) inv.count;
      leads = repeats_more x advance c.loop.counter c.args.state.now c.loop.passed.state
          c.in-Ok.state inv.leads
          (subst (λ (r : Result Records Refusal). FollowsOr c.loop.passed.state x advance r)
          c.in-Ok.is c.in_ok-refusal.ensures);
    }
