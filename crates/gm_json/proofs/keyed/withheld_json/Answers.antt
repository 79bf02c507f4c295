use Rattle.gm_json.proofs.Common.{◌∙◌, ap, has_float}
use Rattle.gm_json.proofs.NoFloats.{withheld_none}
use Rattle.gm_json.proofs.keyed.withheld_json.Goals as goal

pub text_of-requires : goal.text_of-requires
text_of-requires c =
    ap has_float c.in_ok-value.ensures ∙ withheld_none c.args.key.now c.args.list.now
