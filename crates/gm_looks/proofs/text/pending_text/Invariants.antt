use Rattle.gm_looks.proofs.Common.{◌≡◌, flat_map, take, string_bytes, intent_line}
use Rattle.gm_looks.proofs.text.pending_text.Given as goal

abbrev pub invariant-loop-intent : goal.invariant-loop-intent
invariant-loop-intent l = string_bytes l.text ≡ flat_map intent_line (take l.intent-index l.intents)
