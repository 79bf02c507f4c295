use Rattle.gm_stopped.proofs.Common.{◌∙◌, ◌+◌, ◌≤◌, subst, sym}
use Rattle.gm_stopped.proofs.Missing.{both_of}
use Rattle.gm_stopped.specs.Strange.{missing}
use Rattle.gm_stopped.specs.declared.strange.Need.{Need}
use Rattle.gm_stopped.proofs.strange.add_strange_of.Goals as goal

pub returns-in_ok-add_if_strange-2-clause-missed :
    goal.returns-in_ok-add_if_strange-2-clause-missed
returns-in_ok-add_if_strange-2-clause-missed g c honest =
    let H = g.H.Shelf in
    let looked = c.in_ok-add_if_strange.ensures.looks.only in
    let mid = c.add_if_strange.new.shelf in
    both_of c.args.state.now c.args.stopped.now (H.size c.args.shelf.now)
    (H.view c.args.shelf.now).seen (H.size mid) (H.view mid).seen looked.keeps.size
    (looked.reads honest).quiet.seen c.args.intent.now c.in-Some.need
    (sym c.second_need.ensures ∙ c.in-Some.is) c.add_if_strange.new.names.items
    c.add_if_strange-in-Some.new.names.items (H.view c.args.shelf.now).faults
    (H.view mid).faults (H.view c.add_if_strange-in-Some.new.shelf).faults
    c.in_ok-add_if_strange-2.ensures.kept
    (subst (λ (need : Need). missing c.args.state.now c.args.stopped.now (H.size c.args.shelf.now)
    (H.view c.args.shelf.now).seen c.add_if_strange.new.names.items need
    + (H.view c.args.shelf.now).faults ≤ (H.view mid).faults) c.first_need.ensures
    (c.in_ok-add_if_strange.ensures.missed honest))
    (c.in_ok-add_if_strange-2.ensures.missed (looked.keeps.honest honest))
