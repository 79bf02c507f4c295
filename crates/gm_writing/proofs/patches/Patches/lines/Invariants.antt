use Rattle.std.proofs.Common.{◌≡◌, ◌<◌, ◌-◌, ◌^◌}
use Rattle.std.specs.String.{string_bytes}
use Rattle.gm_writing.specs.Patches.{lines_of}
use Rattle.gm_writing.proofs.patches.Patches.lines.Given as goal

-- the text has the lines of the commands before this one
abbrev pub invariant-loop-index : goal.invariant-loop-index
invariant-loop-index l =
    l.fn.end < 2 ^ 32 → string_bytes l.text ≡ lines_of l.fn.self l.fn.begin (l.index - l.fn.begin)
