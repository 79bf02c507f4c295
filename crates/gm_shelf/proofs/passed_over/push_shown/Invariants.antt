use Rattle.gm_shelf.proofs.Common.{◌≡◌, ◌++◌, map, take, visible}
use Rattle.std.specs.String.{string_bytes}
use Rattle.gm_shelf.proofs.passed_over.push_shown.Given as goal

abbrev pub invariant-loop-byte : goal.invariant-loop-byte
invariant-loop-byte l =
    string_bytes l.text ≡ string_bytes l.fn.text ++ map visible (take l.byte-index l.fn.bytes)
