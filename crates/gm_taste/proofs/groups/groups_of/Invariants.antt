use Rattle.gm_taste.proofs.Common.{length}
use Rattle.gm_taste.proofs.Grouping.{SoFar}
use Rattle.gm_taste.proofs.groups.groups_of.Given as goal

abbrev pub invariant-loop-first : goal.invariant-loop-first
invariant-loop-first l = SoFar l.fn.taken.items l.rest l.groups.items

abbrev pub decreases-loop-first : goal.decreases-loop-first
decreases-loop-first l = length l.rest
