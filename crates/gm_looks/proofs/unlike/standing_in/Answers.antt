use Rattle.gm_looks.proofs.Common.{◌≡◌, ◌∙◌, None, Some, sym, subst, Mirror, IsOfComponent}
use Rattle.gm_looks.proofs.Listed.{home_found, some_other}
use Rattle.gm_looks.proofs.unlike.standing_in.Goals as goal

pub returns-in_default-clause-stands : goal.returns-in_default-clause-stands
returns-in_default-clause-stands g c h state m o =
    absurd (let both : Some m ≡ None = sym (home_found c.args.state.now state m
    c.args.component.now o) ∙ (sym c.mirror.ensures.value ∙ c.in_default.is) in cc)

pub returns-clause-stands : goal.returns-clause-stands
returns-clause-stands g c h state m o =
    let s = c.args.state.now in
    let k = c.args.component.now in
    let size = g.H.Shelf.size c.args.shelf.now in
    let seen = (g.H.Shelf.view c.args.shelf.now).seen in
    let same : c.in-Some.mirror ≡ m =
    some_other _ c.in-Some.mirror m (sym c.mirror.ensures.value ∙ c.in-Some.is)
    (home_found s state m k o) in
    subst (λ (n : Mirror). IsOfComponent size seen n k c.in_ok-standing.standing) same
    (c.in_ok-standing.ensures.stands h)
