use Rattle.gm_json.proofs.Common.{◌∙◌, ap, component_state_name}
use Rattle.gm_json.proofs.mirrors.state_of.Goals as goal

pub returns : goal.returns
returns c = c.name.ensures ∙ ap component_state_name c.state_by.ensures
