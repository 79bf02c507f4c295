use Rattle.gm_bench.proofs.Common.{◌≡◌, drop, first_absent}
use Rattle.gm_bench.proofs.presence.first_absent.Given as goal

abbrev pub invariant-loop-intent : goal.invariant-loop-intent
invariant-loop-intent g l = first_absent l.fn.state (g.H.Shelf.size l.fn.shelf) l.intents
    ≡ first_absent l.fn.state (g.H.Shelf.size l.fn.shelf) (drop l.intent-index l.intents)
