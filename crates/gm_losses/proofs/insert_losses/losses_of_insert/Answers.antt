use Rattle.gm_losses.proofs.Common.{◌∙◌, List, Option, IsSome, not, sym, ap, subst, is_some, mirror_of, TellsFree, AreLosses, FreeImage, Loss}
use Rattle.gm_commands.specs.declared.command.Command.TheVariants as command
use Rattle.gm_losses.proofs.FreeLost.{inserted, lost_same}
use Rattle.gm_losses.proofs.Listed.{given}
use Rattle.gm_losses.proofs.insert_losses.losses_of_insert.Goals as goal

pub returns-clause-losses : goal.returns-clause-losses
returns-clause-losses g c h =
    let s = c.args.state.now in
    let size = g.H.Shelf.size c.args.shelf.now in
    let seen = (g.H.Shelf.view c.args.shelf.now).seen in
    let mid = (g.H.Shelf.view c.free_image.new.shelf).seen in
    let new = c.args.new.now in
    let p = new.provider in
    let image = c.in-Some.image in
    let lost = c.in_ok-lost.lost in
    let only = c.free_image.ensures.looks.only in
    let there : IsSome (mirror_of s new.name) =
    ap is_some (sym c.mirror.ensures.value)
    ∙ (c.is_none.ensures ∙ ap not c.if-is_none.false) in
    let free = subst (λ (o : Option FreeImage). TellsFree s size seen p o) c.in-Some.is
    (c.in_ok-image.ensures.free h) in
    let tells = lost_same p (mid p) (seen p) image lost (λ i. (only.reads h).quiet.seen p i)
    (c.in_ok-lost.ensures.lost (only.keeps.honest h)) in
    subst (λ (l : List Loss). AreLosses s size seen (command.Insert new) l)
    (sym c.in_ok-list_of.ensures)
    (given _ _ _ there (inserted s size seen p image free lost tells))
