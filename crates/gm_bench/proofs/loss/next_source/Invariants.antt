use Rattle.gm_bench.proofs.Common.{◌≡◌, drop, next_of}
use Rattle.gm_bench.proofs.loss.next_source.Given as goal

abbrev pub invariant-loop-intent : goal.invariant-loop-intent
invariant-loop-intent l =
    next_of l.after l.provider l.intents
    ≡ next_of l.after l.provider (drop l.intent-index l.intents)
