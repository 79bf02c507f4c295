use Rattle.gm_metadata.proofs.Common.{◌∙◌}
use Rattle.gm_metadata.proofs.Read.{found_in, only}
use Rattle.gm_metadata.proofs.Causes.{cause_in, only_cause}
use Rattle.gm_metadata.proofs.decoding.decode.Goals as goal

pub returns-clause-found : goal.returns-clause-found
returns-clause-found c = found_in _ _ c.told-sector c.fits-sector c.said.ensures

pub returns-clause-only : goal.returns-clause-only
returns-clause-only c m ok bears = c.said.ensures ∙ only _ m c.told-sector ok bears

pub returns-clause-fault : goal.returns-clause-fault
returns-clause-fault c = cause_in _ _ c.told-sector c.said.ensures

pub returns-clause-only_fault : goal.returns-clause-only_fault
returns-clause-only_fault c = only_cause _ _ c.told-sector c.said.ensures
