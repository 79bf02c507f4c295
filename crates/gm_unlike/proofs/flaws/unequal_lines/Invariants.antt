use Rattle.std.proofs.Common.{◌≡◌, flat_map, take}
use Rattle.std.specs.String.{string_bytes}
use Rattle.gm_unlike.specs.Flaws.{unequal_line}
use Rattle.gm_unlike.proofs.flaws.unequal_lines.Given as goal

abbrev pub invariant-loop-told : goal.invariant-loop-told
invariant-loop-told l =
    string_bytes l.text ≡ flat_map (unequal_line l.list) (take l.told-index l.list)
