use Rattle.gm_http.proofs.Asking.{asks_one}
use Rattle.gm_http.proofs.laws.one_request.Goals as goal

pub returns : goal.returns
returns c = asks_one
