use Rattle.gm_words.proofs.Common.{◌∙◌, found_of, first_value-rows}
use Rattle.gm_words.proofs.ParsedTable.{found_as}
use Rattle.gm_words.proofs.command_words.text_at.Goals as goal

pub returns : goal.returns
returns c = found_as _ _ (c.get_str.ensures ∙ first_value-rows
    (found_of c.args.matches.now) c.args.id.now)
