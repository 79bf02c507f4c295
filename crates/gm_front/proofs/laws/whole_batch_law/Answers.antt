use Rattle.gm_front.proofs.BatchRuns.{batch_leaves}
use Rattle.gm_front.proofs.laws.whole_batch_law.Goals as goal

pub returns : goal.returns
returns g c all r h away acc ack input before now s k ended rest b =
    batch_leaves all g.S.Store g.H.Shelf r h away acc ack input before now s k ended rest b
