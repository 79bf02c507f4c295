use Rattle.std.proofs.Common.{◌≡◌, flat_map, take}
use Rattle.std.specs.String.{string_bytes}
use Rattle.gm_unlike.specs.Texts.{claim_line}
use Rattle.gm_unlike.proofs.text.claim_lines.Given as goal

abbrev pub invariant-loop-claim : goal.invariant-loop-claim
invariant-loop-claim l = string_bytes l.text ≡ flat_map claim_line (take l.claim-index l.list)
