use Rattle.gm_state.proofs.Common.{rules, ◌∙◌, sym, ap, option_map, Component}
use Rattle.gm_state.proofs.FoundSource.{source_some, source_value}
use Rattle.gm_state.proofs.copy_source.source.Goals as goal

pub returns-clause-best : goal.returns-clause-best
returns-clause-best c =
    source_some c.args.state.now c.args.target c.in_ok-target.target c.name_of.result
    (sym c.in_ok-target.ensures.value) c.components.ensures.state
    (c.name_of.ensures ∙ ap (option_map (λ (k : Component). k.provider)) (search rules))

pub returns-clause-value : goal.returns-clause-value
returns-clause-value c =
    source_value c.args.state.now c.args.target c.in_ok-target.target c.name_of.result
    (sym c.in_ok-target.ensures.value) c.components.ensures.state
    (c.name_of.ensures ∙ ap (option_map (λ (k : Component). k.provider)) (search rules))
