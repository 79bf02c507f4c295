use Rattle.gm_json.proofs.Common.{◌∙◌, ap, has_float}
use Rattle.gm_json.proofs.NoFloats.{status_none}
use Rattle.gm_json.proofs.mirrors.status_json.Goals as goal

pub text_of-requires : goal.text_of-requires
text_of-requires c = ap has_float c.in_ok-value.ensures ∙ status_none c.args.state.now
