use Rattle.gm_looks.proofs.AuditAgrees.{agree}
use Rattle.gm_looks.proofs.laws.clean_audit_law.Goals as goal

pub returns : goal.returns
returns c s size seen ps t state clean of tasted =
    agree s state (λ m k o. c.metadata_fits.ensures s m k state o) size seen clean ps of t tasted
