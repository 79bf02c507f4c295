use Rattle.std.proofs.Common.{◌≡◌, ◌++◌, codes, flat_map, take}
use Rattle.std.specs.String.{string_bytes}
use Rattle.gm_words.specs.Lines.{line}
use Rattle.gm_reports.specs.PassedOver.{passed_line}
use Rattle.gm_reports.proofs.passed_over.push_passed.Given as goal

abbrev pub invariant-loop-x : goal.invariant-loop-x
invariant-loop-x l =
    string_bytes l.text ≡ (string_bytes l.fn.text ++ line (codes "passed over:"))
    ++ flat_map passed_line (take l.x-index l.passed)
