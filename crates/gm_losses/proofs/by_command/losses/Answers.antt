use Rattle.gm_losses.proofs.Common.{IfOk, inl, inr, sym, subst, AreLosses}
use Rattle.gm_commands.specs.declared.command.Command.{Command}
use Rattle.gm_losses.proofs.by_command.losses.Goals as goal

pub returns-in_ok-losses_of_destroy-in-Destroy-clause-losses :
    goal.returns-in_ok-losses_of_destroy-in-Destroy-clause-losses
returns-in_ok-losses_of_destroy-in-Destroy-clause-losses g c h =
    let size = g.H.Shelf.size c.args.shelf.now in
    let seen = (g.H.Shelf.view c.args.shelf.now).seen in
    subst (λ (k : Command). AreLosses c.args.state.now size seen k
    c.in_ok-losses_of_destroy-in-Destroy.field-0.items) (sym c.in-Destroy.is)
    (c.in_ok-losses_of_destroy-in-Destroy.ensures size seen)

pub returns-in_ok-losses_of_leaving-in-Remove-clause-losses :
    goal.returns-in_ok-losses_of_leaving-in-Remove-clause-losses
returns-in_ok-losses_of_leaving-in-Remove-clause-losses g c h =
    let size = g.H.Shelf.size c.args.shelf.now in
    let seen = (g.H.Shelf.view c.args.shelf.now).seen in
    let list = c.in_ok-losses_of_leaving-in-Remove in
    elim c.in-Remove.is [
      | inl e ↦ subst (λ (k : Command). AreLosses c.args.state.now size seen k list.field-0.items)
          (sym e) (list.ensures.remove size seen)
      | inr e ↦ subst (λ (k : Command). AreLosses c.args.state.now size seen k list.field-0.items)
          (sym e) (list.ensures.deactivate size seen)
    ]

pub returns-in-Adopt-clause-losses : goal.returns-in-Adopt-clause-losses
returns-in-Adopt-clause-losses g c h =
    let size = g.H.Shelf.size c.args.shelf.now in
    let seen = (g.H.Shelf.view c.args.shelf.now).seen in
    subst (λ (k : Command). IfOk c.losses_of_adopt.result
    (λ list. AreLosses c.args.state.now size seen k list.items)) (sym c.in-Adopt.is)
    (c.losses_of_adopt.ensures.losses h)
