use Rattle.gm_metadata.proofs.Common.{◌∙◌, ap, sym, version_read}
use Rattle.gm_metadata.proofs.Read.{said_in_version, only_read}
use Rattle.gm_metadata.proofs.decoding.version_of.Goals as goal

pub returns-clause-found : goal.returns-clause-found
returns-clause-found c n is =
    said_in_version _ n c.told-sector c.fits-sector (sym c.version_read.ensures ∙ is)

pub returns-clause-only : goal.returns-clause-only
returns-clause-only c v m ok bears =
    c.version_read.ensures ∙ ap version_read (only_read _ v m c.told-sector ok bears)
