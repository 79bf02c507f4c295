use Rattle.gm_shelf.proofs.Common.{reverse}
use Rattle.gm_shelf.proofs.SoFar.{IsSoFar}
use Rattle.gm_shelf.proofs.mem_shelf.MemShelf.crash_image.Given as goal

abbrev pub invariant-loop-name : goal.invariant-loop-name
invariant-loop-name l =
    IsSoFar (reverse l.self.log.items) (reverse l.image.log.items) l.name-items l.pick l.name-index
    l.taken
