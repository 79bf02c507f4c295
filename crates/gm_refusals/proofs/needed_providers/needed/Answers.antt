use Rattle.gm_refusals.proofs.Common.{◌∙◌}
use Rattle.gm_refusals.proofs.PartAgrees.{needed_on}
use Rattle.gm_refusals.proofs.needed_providers.needed.Goals as goal

pub returns-clause-whole : goal.returns-clause-whole
returns-clause-whole c s of =
    c.in_ok-all_needed.ensures ∙ needed_on c.args.state.now s c.args.command.now of
