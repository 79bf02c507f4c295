use Rattle.gm_registry.proofs.CallsLeave.{saved}
use Rattle.gm_registry.proofs.laws.tables_are_saved.Goals as goal

pub returns : goal.returns
returns g c = saved g.S.Store g.met.S.Store.settled
