use Rattle.gm_metadata.proofs.Common.{◌∙◌}
use Rattle.gm_metadata.proofs.Read.{found_by_reading, only_read}
use Rattle.gm_metadata.proofs.decoding.read_sector.Goals as goal

pub returns-clause-found : goal.returns-clause-found
returns-clause-found c = found_by_reading _ _ c.told-sector c.fits-sector c.read_as_named.ensures

pub returns-clause-only : goal.returns-clause-only
returns-clause-only c r ok bears =
    c.read_as_named.ensures ∙ only_read _ r.version r.metadata c.told-sector ok bears
