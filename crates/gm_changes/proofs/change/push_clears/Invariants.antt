use Rattle.gm_changes.proofs.Common.{◌≡◌, ◌++◌, take, clears_of}
use Rattle.gm_changes.proofs.change.push_clears.Given as goal

abbrev pub invariant-loop-k : goal.invariant-loop-k
invariant-loop-k l = l.intents.items ≡ l.fn.intents.items ++ clears_of (take l.k-index l.components)
