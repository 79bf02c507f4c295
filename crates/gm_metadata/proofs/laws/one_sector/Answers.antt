use Rattle.gm_metadata.proofs.Laid.{named, encoded_is_full, full_once, length-encoded}
use Rattle.gm_metadata.proofs.laws.one_sector.Goals as goal

pub returns-clause-is_full : goal.returns-clause-is_full
returns-clause-is_full c m ok = encoded_is_full m (named m ok)

pub returns-clause-no_other : goal.returns-clause-no_other
returns-clause-no_other c = full_once

pub returns-clause-length_is : goal.returns-clause-length_is
returns-clause-length_is c m ok = length-encoded m (named m ok)
