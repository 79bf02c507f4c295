use Rattle.gm_http.proofs.Parts.{before_is}
use Rattle.gm_http.proofs.routes.before.Goals as goal

pub returns : goal.returns
returns c = before_is _ _ _ c.strip_suffix.ensures.cases
