use Rattle.gm_registry.proofs.Held.{read_held}
use Rattle.gm_registry.proofs.laws.what_is_read_is_held.Goals as goal

pub returns : goal.returns
returns g c = read_held g.S.Store
