use Rattle.gm_refusals.proofs.Common.{◌≡◌, drop, map, None, member, first_from, seen_in, all_taken}
use Rattle.gm_refusals.proofs.found_mirror.first_of.Given as goal

abbrev pub invariant-loop-provider : goal.invariant-loop-provider
invariant-loop-provider l =
    first_from l.first (map (member l.genid l.syncid)
    (all_taken (seen_in l.facts) (drop l.provider-index l.providers)))
    ≡ first_from None (map (member l.genid l.syncid) (all_taken (seen_in l.facts) l.providers))
