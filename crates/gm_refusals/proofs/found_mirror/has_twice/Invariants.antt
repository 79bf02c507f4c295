use Rattle.gm_refusals.proofs.Common.{◌≡◌, drop, has_twice}
use Rattle.gm_refusals.proofs.found_mirror.has_twice.Given as goal

abbrev pub invariant-loop-i : goal.invariant-loop-i
invariant-loop-i l = has_twice l.providers ≡ has_twice (drop l.i l.providers)
