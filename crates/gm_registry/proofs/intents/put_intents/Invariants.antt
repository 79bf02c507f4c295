use Rattle.gm_registry.proofs.Common.{◌≡◌, take, intent_rows, with_intents}
use Rattle.gm_registry.proofs.InsideCalls.{Did}
use Rattle.gm_registry.proofs.intents.put_intents.Given as goal

abbrev pub invariant-puts : goal.invariant-puts
invariant-puts g l =
    (l.ord ≡ l.intent-index)
    × Did g.S.Store l.fn.tx l.tx (with_intents (intent_rows 1 (take l.intent-index l.intents))) 0
