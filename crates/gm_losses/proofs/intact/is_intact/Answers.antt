use Rattle.gm_losses.proofs.Common.{◌≡◌, ◌∙◌, None, Some, sym, subst, Mirror, IsOfComponent, home_found, some_other, some_sectors}
use Rattle.gm_looks.proofs.StandingTells.{tells_registered}
use Rattle.gm_losses.proofs.intact.is_intact.Goals as goal

pub returns-in_default-clause-intact : goal.returns-in_default-clause-intact
returns-in_default-clause-intact g c h m o =
    absurd (let both : Some m ≡ None = sym (home_found c.args.state.now c.mirror.ensures.state m
    c.args.component.now o) ∙ (sym c.mirror.ensures.value ∙ c.in_default.is) in cc)

pub returns-clause-intact : goal.returns-clause-intact
returns-clause-intact g c h m o =
    let s = c.args.state.now in
    let k = c.args.component.now in
    let size = g.H.Shelf.size c.args.shelf.now in
    let seen = (g.H.Shelf.view c.args.shelf.now).seen in
    let standing = c.in_ok-standing.standing in
    let same : c.in-Some.mirror ≡ m =
    some_other _ c.in-Some.mirror m (sym c.mirror.ensures.value ∙ c.in-Some.is)
    (home_found s c.mirror.ensures.state m k o) in
    let some = some_sectors s c.mirror.ensures.state m k o in
    let tells = tells_registered size seen m k some standing
    (subst (λ (n : Mirror). IsOfComponent size seen n k standing) same
    (c.in_ok-standing.ensures.stands h)) in
    (λ t. tells.0 (c.is_as_registered.ensures.0 t), λ i. c.is_as_registered.ensures.1 (tells.1 i))
