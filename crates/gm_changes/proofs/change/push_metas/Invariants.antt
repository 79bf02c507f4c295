use Rattle.gm_changes.proofs.Common.{◌≡◌, ◌++◌, take, metas}
use Rattle.gm_changes.proofs.change.push_metas.Given as goal

abbrev pub invariant-loop-k : goal.invariant-loop-k
invariant-loop-k l = l.intents.items ≡ l.fn.intents.items ++ metas (take l.k-index l.components)
