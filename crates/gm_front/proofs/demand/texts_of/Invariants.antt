use Rattle.gm_front.proofs.Common.{◌≡◌, map, take, texts}
use Rattle.std.specs.String.{string_bytes}
use Rattle.gm_front.proofs.demand.texts_of.Given as goal

-- the texts of the words so far
abbrev pub invariant-loop-word : goal.invariant-loop-word
invariant-loop-word l = texts l.found.items ≡ map string_bytes (take l.word-index l.words)
