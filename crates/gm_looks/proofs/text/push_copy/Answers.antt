use Rattle.gm_looks.proofs.Common.{codes, decimal, string_bytes}
use Rattle.gm_looks.proofs.CopyText.{added_as, eight_pieces}
use Rattle.gm_looks.proofs.text.push_copy.Goals as goal

pub returns : goal.returns
returns c =
    added_as c.write.result (string_bytes c.write.new.self) _ _
    (eight_pieces (string_bytes c.args.text.now) (codes "copy ") (decimal c.args.sectors)
    (codes " sectors of ") c.args.source (codes " to ") c.args.target (codes " from ")
    (decimal c.args.first)) c.write.ensures.bytes
