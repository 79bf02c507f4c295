use Rattle.gm_losses.proofs.Common.{◌≡◌, ◌∙◌, List, Option, None, sym, ap, subst, is_some, mirror_of, TellsFree, AreLosses, FreeImage, Loss}
use Rattle.gm_commands.specs.declared.command.Command.TheVariants as command
use Rattle.gm_losses.proofs.FreeLost.{labelled}
use Rattle.gm_losses.proofs.Listed.{given, is_gone}
use Rattle.gm_losses.proofs.label_losses.losses_of_label.Goals as goal

pub returns-in_ok-lost_of-in-Some-clause-losses : goal.returns-in_ok-lost_of-in-Some-clause-losses
returns-in_ok-lost_of-in-Some-clause-losses g c h =
    let s = c.args.state.now in
    let size = g.H.Shelf.size c.args.shelf.now in
    let seen = (g.H.Shelf.view c.args.shelf.now).seen in
    let new = c.args.new.now in
    let gone : mirror_of s new.name ≡ None = is_gone (mirror_of s new.name)
    (ap is_some (sym c.mirror.ensures.value) ∙ (sym c.is_some.ensures ∙ c.if-is_some.false)) in
    let free = subst (λ (o : Option FreeImage). TellsFree s size seen new.provider o) c.in-Some.is
    (c.in_ok-free_image.ensures.free h) in
    subst (λ (l : List Loss). AreLosses s size seen (command.Label new) l)
    (sym c.in_ok-lost_of-in-Some.ensures)
    (given _ _ _ gone (labelled s size seen new.provider c.in-Some.image free))
