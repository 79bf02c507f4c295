use Rattle.std.proofs.Common.{◌≡◌, length}
use Rattle.gm_mending.proofs.doubts.sentences_of.Given as goal

-- a sentence for each doubt until now
abbrev pub invariant-loop-doubt : goal.invariant-loop-doubt
invariant-loop-doubt l = length l.sentences.items ≡ l.doubt-index
