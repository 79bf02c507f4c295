use Rattle.gm_http.proofs.Parts.{behind_is}
use Rattle.gm_http.proofs.routes.behind.Goals as goal

pub returns : goal.returns
returns c = behind_is _ _ _ c.strip_prefix.ensures.cases
