use Rattle.gm_words.proofs.Common.{◌≡◌, ◌++◌, codes, flat_map, take, string_bytes, line, left_line}
use Rattle.gm_words.proofs.tasted.push_left.Given as goal

abbrev pub invariant-loop-x : goal.invariant-loop-x
invariant-loop-x l = string_bytes l.text ≡ (string_bytes l.fn.text ++ line (codes "left out:"))
    ++ flat_map left_line (take l.x-index l.left)
