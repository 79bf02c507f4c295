use Rattle.std.proofs.Common.{◌≡◌, flat_map, take}
use Rattle.std.specs.String.{string_bytes}
use Rattle.gm_unlike.specs.Texts.{unlike_line}
use Rattle.gm_unlike.proofs.text.unlike_lines.Given as goal

abbrev pub invariant-loop-unlike : goal.invariant-loop-unlike
invariant-loop-unlike l = string_bytes l.text ≡ flat_map unlike_line (take l.unlike-index l.list)
