use Rattle.gm_registry.proofs.RisingRowids.{rising}
use Rattle.gm_registry.proofs.laws.unbroken_rowids_rise.Goals as goal

pub returns : goal.returns
returns g c = rising g.S.Store g.met.S.Store.ordered g.met.S.Alter.listed
