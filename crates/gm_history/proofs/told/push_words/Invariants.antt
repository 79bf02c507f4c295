use Rattle.std.specs.Prelude.{◌≡◌, ◌++◌, take}
use Rattle.std.specs.String.{string_bytes}
use Rattle.gm_history.specs.Told.{told_words}
use Rattle.gm_history.proofs.told.push_words.Given as goal

abbrev pub invariant-loop-word : goal.invariant-loop-word
invariant-loop-word l =
    string_bytes l.text ≡ string_bytes l.fn.text ++ told_words (take l.word-index l.fn.words)
