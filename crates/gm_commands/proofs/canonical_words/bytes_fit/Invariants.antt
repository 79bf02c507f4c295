use Rattle.gm_commands.proofs.Common.{take, IsTrue, is_bytes}
use Rattle.gm_commands.proofs.canonical_words.bytes_fit.Given as goal

abbrev pub invariant-loop-byte : goal.invariant-loop-byte
invariant-loop-byte l = IsTrue (is_bytes (take l.byte-index l.fn.bytes))
