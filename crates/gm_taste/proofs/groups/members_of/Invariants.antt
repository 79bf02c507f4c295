use Rattle.gm_taste.proofs.Common.{◌≡◌, take, map, member}
use Rattle.gm_taste.proofs.groups.members_of.Given as goal

abbrev pub invariant-loop-t : goal.invariant-loop-t
invariant-loop-t l = l.members.items ≡ map (member l.genid l.syncid) (take l.t-index l.own)
