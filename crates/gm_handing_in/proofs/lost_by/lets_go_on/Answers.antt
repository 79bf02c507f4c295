use Rattle.std.proofs.Common.{◌≡◌, List, length, inl, inr, subst, rules}
use Rattle.gm_losses.specs.Losses.{AreLosses}
use Rattle.gm_losses.specs.declared.loss.Loss.{Loss}
use Rattle.gm_handing_in.proofs.UntoldLosses.{none_untold}
use Rattle.gm_handing_in.proofs.lost_by.lets_go_on.Goals as goal

pub returns-then-is_empty-clause-goes : goal.returns-then-is_empty-clause-goes
returns-then-is_empty-clause-goes g c honest goes =
    let state = c.args.state.now in
    let command = c.args.command.now in
    let size = g.H.Shelf.size c.args.shelf.now in
    let seen = (g.H.Shelf.view c.args.shelf.now).seen in
    let none : 0 ≡ length c.in_ok-sentences.sentences.items = search rules in
    elim (c.in_ok-sentences.ensures.told honest) [
      | inl t ↦ inl (subst (λ (l : List Loss). AreLosses state size seen command l)
          (none_untold state size seen command t.0 t.1 (search (rules, none, t.2))) t.1)
      | inr u ↦ inr (inl u.0)
    ]
