use Rattle.std.proofs.Common.{◌≡◌, ◌∷◌, take}
use Rattle.gm_words.specs.Lines.{texts}
use Rattle.gm_handing_in.proofs.single.pieces.Given as goal

-- the key, and the words so far
abbrev pub invariant-loop-word : goal.invariant-loop-word
invariant-loop-word l = texts l.pieces.items ≡ l.key ∷ texts (take l.word-index l.words)
