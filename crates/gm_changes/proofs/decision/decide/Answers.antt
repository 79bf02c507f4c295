use Rattle.gm_changes.proofs.Common.{◌∙◌, sym, ap, length, subst, Records, seen_in, IsGood, IsPartToDecide, whole_to_decide}
use Rattle.gm_changes.proofs.MadeOfPart.{on_err}
use Rattle.gm_changes.proofs.decision.decide.Goals as goal

pub returns-in_err-decide_part-clause-memory : goal.returns-in_err-decide_part-clause-memory
returns-in_err-decide_part-clause-memory c =
    on_err c.from_residual.result
    (IsGood c.args.state.now (seen_in c.args.facts.now) c.args.command.now)
    (c.in_err-decide_part.ensures.memory c.args.state.now
    (whole_to_decide c.args.state.now (seen_in c.args.facts.now) c.args.command.now
    c.mirrors.ensures.state) (ap length c.mirrors.ensures.value))

pub returns-clause-facts : goal.returns-clause-facts
returns-clause-facts c =
    c.in_ok-decide_part.ensures.facts c.args.state.now
    (whole_to_decide c.args.state.now (seen_in c.args.facts.now) c.args.command.now
    c.mirrors.ensures.state) (ap length c.mirrors.ensures.value)

pub returns-clause-world : goal.returns-clause-world
returns-clause-world c u e are =
    let to : IsPartToDecide c.args.state.now (seen_in c.args.facts.now) c.args.command.now u.state
    = subst (λ (s : Records). IsPartToDecide c.args.state.now
    (seen_in c.args.facts.now) c.args.command.now s) (sym e)
    (whole_to_decide c.args.state.now (seen_in c.args.facts.now) c.args.command.now
    c.mirrors.ensures.state) in
    c.in_ok-decide_part.ensures.world u to
    (ap length (c.mirrors.ensures.value ∙ sym (ap (λ (s : Records). s.mirrors) e))) are
