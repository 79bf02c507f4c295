use Rattle.gm_losses.proofs.Common.{zeros, same_from, same_is, is_blank}
use Rattle.gm_losses.proofs.Listed.{told_by}
use Rattle.gm_losses.proofs.free_image.is_blank.Goals as goal

pub returns : goal.returns
returns c =
    told_by c.same.result (is_blank c.args.sector.now)
    (λ t. same_from c.args.sector.now zeros (c.same.ensures.0 t))
    (λ e. c.same.ensures.1 (same_is c.args.sector.now zeros e))
