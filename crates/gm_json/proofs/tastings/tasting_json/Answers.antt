use Rattle.gm_json.proofs.Common.{◌∙◌, ap, has_float}
use Rattle.gm_json.proofs.NoFloats.{tasting_none}
use Rattle.gm_json.proofs.tastings.tasting_json.Goals as goal

pub text_of-requires : goal.text_of-requires
text_of-requires c =
    ap has_float c.in_ok-value.ensures ∙ tasting_none c.args.tasted.now c.args.passed.now
