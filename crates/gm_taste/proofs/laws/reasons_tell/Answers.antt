use Rattle.gm_taste.proofs.MagicField.{reason_tells}
use Rattle.gm_taste.proofs.laws.reasons_tell.Goals as goal

pub returns : goal.returns
returns c = reason_tells
