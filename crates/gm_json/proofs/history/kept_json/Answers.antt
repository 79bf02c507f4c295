use Rattle.gm_json.proofs.Common.{◌∙◌, ap, has_float}
use Rattle.gm_json.proofs.KeptCommands.{kept_none}
use Rattle.gm_json.specs.History.{texts}
use Rattle.gm_json.proofs.history.kept_json.Goals as goal

pub text_of-requires : goal.text_of-requires
text_of-requires c =
    ap has_float c.in_ok-value.ensures
    ∙ kept_none c.args.key.now c.args.number (texts c.args.words.now) c.args.reply
