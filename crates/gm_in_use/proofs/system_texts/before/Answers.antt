use Rattle.gm_in_use.proofs.Ends.{before_is}
use Rattle.gm_in_use.proofs.system_texts.before.Goals as goal

pub returns : goal.returns
returns c = before_is _ _ _ c.strip_suffix.ensures.cases
