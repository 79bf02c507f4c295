use Rattle.gm_refusals.proofs.Common.{◌≡◌, drop, seen_in, tells_did_twice}
use Rattle.gm_refusals.proofs.found_mirror.tells_did_twice.Given as goal

abbrev pub invariant-loop-i : goal.invariant-loop-i
invariant-loop-i l = tells_did_twice (seen_in l.facts) l.providers
    ≡ tells_did_twice (seen_in l.facts) (drop l.i l.providers)
