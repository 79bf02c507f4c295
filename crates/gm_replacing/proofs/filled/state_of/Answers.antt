use Rattle.std.proofs.Common.{◌∙◌, ap}
use Rattle.gm_state.specs.States.{component_state}
use Rattle.gm_replacing.proofs.filled.state_of.Goals as goal

pub returns-clause-state : goal.returns-clause-state
returns-clause-state g c kept t s has are =
    c.component_state.ensures
    ∙ ap (λ r. component_state r c.args.image) (c.in_ok-state.ensures.shows kept t s has are)
