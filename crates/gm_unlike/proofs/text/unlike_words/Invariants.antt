use Rattle.std.proofs.Common.{◌≡◌, flat_map, take}
use Rattle.std.specs.String.{string_bytes}
use Rattle.gm_unlike.specs.Texts.{unlike_word}
use Rattle.gm_unlike.proofs.text.unlike_words.Given as goal

abbrev pub invariant-loop-unlike : goal.invariant-loop-unlike
invariant-loop-unlike l = string_bytes l.text ≡ flat_map unlike_word (take l.unlike-index l.list)
