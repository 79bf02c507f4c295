use Rattle.gm_front.proofs.ServedRuns.{served_unless_page}
use Rattle.gm_front.proofs.laws.unless_page_law.Goals as goal

pub returns : goal.returns
returns g c all r s h k away acc ack input before now end fault rest it =
    served_unless_page g.S.Store g.H.Shelf all r s h k away acc ack rest input
    before now end fault it
