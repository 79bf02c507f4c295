use Rattle.std.proofs.Common.{◌≡◌, IsTrue}
use Rattle.gm_handing_in.proofs.insistence.is_wanted.Given as goal

-- what has been printed took nothing from the input
abbrev pub invariant-loop-sentence : goal.invariant-loop-sentence
invariant-loop-sentence g l = IsTrue l.asks → l.streams.input ≡ l.fn.streams.input
