use Rattle.gm_refusals.proofs.Common.{◌≡◌, drop, true, raised, seen_in, all_taken, genid_of}
use Rattle.gm_refusals.proofs.found_mirror.genid_of.Given as goal

abbrev pub invariant-loop-provider : goal.invariant-loop-provider
invariant-loop-provider l =
    raised (λ t. true) (λ t. t.metadata.genid) l.genid
    (all_taken (seen_in l.facts) (drop l.provider-index l.providers))
    ≡ genid_of (seen_in l.facts) l.providers
