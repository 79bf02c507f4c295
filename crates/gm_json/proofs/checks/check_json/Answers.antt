use Rattle.gm_json.proofs.Common.{◌∙◌, ap, has_float}
use Rattle.gm_json.proofs.NoFloats.{check_none}
use Rattle.gm_json.proofs.checks.check_json.Goals as goal

pub text_of-requires : goal.text_of-requires
text_of-requires c = ap has_float c.in_ok-value.ensures ∙ check_none c.args.found.now
