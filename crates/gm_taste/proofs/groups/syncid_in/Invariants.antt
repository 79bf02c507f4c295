use Rattle.gm_taste.proofs.Common.{◌≡◌, ◌==◌, drop, raised, syncid_in}
use Rattle.gm_taste.proofs.groups.syncid_in.Given as goal

abbrev pub invariant-loop-t : goal.invariant-loop-t
invariant-loop-t l =
    raised (λ t. t.metadata.genid == l.genid) (λ t. t.metadata.syncid) l.syncid
    (drop l.t-index l.own) ≡ syncid_in l.genid l.own
