use Rattle.gm_refusals.proofs.Common.{◌≡◌, drop, ◌==◌, raised, seen_in, all_taken, syncid_of}
use Rattle.gm_refusals.proofs.found_mirror.syncid_of.Given as goal

abbrev pub invariant-loop-provider : goal.invariant-loop-provider
invariant-loop-provider l =
    raised (λ t. t.metadata.genid == l.genid) (λ t. t.metadata.syncid) l.syncid
    (all_taken (seen_in l.facts) (drop l.provider-index l.providers))
    ≡ syncid_of (seen_in l.facts) l.providers
