use Rattle.gm_taste.proofs.Common.{◌≡◌, true, drop, raised, genid_in}
use Rattle.gm_taste.proofs.groups.genid_in.Given as goal

abbrev pub invariant-loop-t : goal.invariant-loop-t
invariant-loop-t l = raised (λ t. true) (λ t. t.metadata.genid) l.genid (drop l.t-index l.own)
    ≡ genid_in l.own
