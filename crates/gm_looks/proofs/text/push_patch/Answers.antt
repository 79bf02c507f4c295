use Rattle.gm_looks.proofs.Common.{codes, decimal, string_bytes}
use Rattle.gm_looks.proofs.CopyText.{added_as, six_pieces}
use Rattle.gm_looks.proofs.text.push_patch.Goals as goal

pub returns : goal.returns
returns c =
    added_as c.write.result (string_bytes c.write.new.self) _ _
    (six_pieces (string_bytes c.args.text.now) (codes "patch ") (decimal c.args.sectors)
    (codes " sectors of ") c.args.provider (codes " from ") (decimal c.args.first))
    c.write.ensures.bytes
