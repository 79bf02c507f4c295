use Rattle.gm_looks.proofs.Common.{◌≡◌, map, take}
use Rattle.gm_looks.proofs.UnlikeSoFar.{on}
use Rattle.gm_looks.proofs.audit.names_of.Given as goal

abbrev pub invariant-loop-unlike : goal.invariant-loop-unlike
invariant-loop-unlike l = l.names.items ≡ map on (take l.unlike-index l.list)
