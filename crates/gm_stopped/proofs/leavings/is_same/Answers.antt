use Rattle.std.specs.Str.{bytes_eq}
use Rattle.gm_stopped.proofs.Common.{same_from, same_is}
use Rattle.gm_stopped.proofs.Truth.{told_by}
use Rattle.gm_stopped.proofs.leavings.is_same.Goals as goal

pub returns : goal.returns
returns c =
    told_by c.same.result (bytes_eq c.args.one.now c.args.other.now)
    (λ t. same_from c.args.one.now c.args.other.now (c.same.ensures.0 t))
    (λ e. c.same.ensures.1 (same_is c.args.one.now c.args.other.now e))
