use Rattle.gm_looks.proofs.Common.{◌∙◌, sym}
use Rattle.gm_looks.proofs.StandingsFound.{named_component, named_stranger}
use Rattle.gm_looks.proofs.standings.standing_of_named.Goals as goal

pub returns-in_ok-standing-in-Some-clause-stands : goal.returns-in_ok-standing-in-Some-clause-stands
returns-in_ok-standing-in-Some-clause-stands g c h =
    named_component c.args.state.now (g.H.Shelf.size c.args.shelf.now)
    (g.H.Shelf.view c.args.shelf.now).seen c.args.provider c.component_and_mirror.ensures.state
    c.in-Some.mirror c.in-Some.component c.in_ok-standing-in-Some.standing
    (sym c.component_and_mirror.ensures.value ∙ c.in-Some.is)
    (c.in_ok-standing-in-Some.ensures.stands h)

pub returns-in_ok-standing-in-None-clause-stands : goal.returns-in_ok-standing-in-None-clause-stands
returns-in_ok-standing-in-None-clause-stands g c h =
    named_stranger c.args.state.now (g.H.Shelf.size c.args.shelf.now)
    (g.H.Shelf.view c.args.shelf.now).seen c.args.provider c.component_and_mirror.ensures.state
    c.in_ok-standing-in-None.standing c.without_zero.result
    (sym c.component_and_mirror.ensures.value ∙ c.in-None.is)
    (c.in_ok-standing-in-None.ensures.stands h) c.without_zero.ensures
