use Rattle.gm_registry.proofs.OneReading.{one_reading}
use Rattle.gm_registry.proofs.laws.one_reading.Goals as goal

pub returns : goal.returns
returns c = one_reading c.one_row.ensures.mirror c.one_row.ensures.component
