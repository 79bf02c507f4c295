use Rattle.gm_json.proofs.Common.{◌∙◌, ap, has_float}
use Rattle.gm_json.proofs.NoFloats.{not_renewed_none}
use Rattle.gm_json.proofs.renewals.not_renewed_json.Goals as goal

pub text_of-requires : goal.text_of-requires
text_of-requires c =
    ap has_float c.in_ok-value.ensures ∙ not_renewed_none c.args.list.now
