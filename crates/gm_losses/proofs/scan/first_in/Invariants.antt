use Rattle.gm_losses.proofs.Common.{sector_of, AreBlank}
use Rattle.gm_losses.proofs.scan.first_in.Given as goal

abbrev pub invariant-loop-index : goal.invariant-loop-index
invariant-loop-index l = AreBlank (sector_of l.run) l.index
