use Rattle.gm_words.proofs.Common.{◌∙◌}
use Rattle.gm_words.proofs.ReadValues.{parsed_below}
use Rattle.gm_words.proofs.command_words.priority.Goals as goal

pub returns : goal.returns
returns c = c.ok.ensures.value ∙ parsed_below 8 _ _ c.parse.ensures.value.0
