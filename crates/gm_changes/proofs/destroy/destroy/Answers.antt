use Rattle.gm_changes.proofs.Common.{◌∙◌, sym, seen_in}
use Rattle.gm_changes.proofs.MadeOfPart.{destroy_made}
use Rattle.gm_changes.proofs.destroy.destroy.Goals as goal

pub returns : goal.returns
returns c =
    destroy_made c.args.part.now (seen_in c.args.facts.now) c.args.name _ _
    (sym (c.deref.ensures.value ∙ c.in_ok-members.ensures.value)) c.in_ok-destroyed.ensures
