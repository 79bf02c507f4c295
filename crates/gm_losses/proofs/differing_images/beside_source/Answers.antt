use Rattle.gm_losses.proofs.Common.{◌∙◌, ℕ, sym, subst, same_is, reach_of, data_of, IsDifference}
use Rattle.gm_losses.proofs.DifferingFound.{beside_itself, told_as}
use Rattle.gm_losses.proofs.differing_images.beside_source.Goals as goal

pub returns-then-eq-clause-told : goal.returns-then-eq-clause-told
returns-then-eq-clause-told g c h =
    let b = c.args.source.now in
    let x = c.args.member.now in
    sym (beside_itself (g.H.Shelf.size c.args.shelf.now) (g.H.Shelf.view c.args.shelf.now).seen b x
    (same_is b.provider x.provider (sym c.eq.ensures ∙ c.if-eq.true)))

pub returns-clause-told : goal.returns-clause-told
returns-clause-told g c h =
    let seen = (g.H.Shelf.view c.args.shelf.now).seen in
    let b = c.args.source.now in
    let x = c.args.member.now in
    let n = reach_of (g.H.Shelf.size c.args.shelf.now) b.provider x.provider
    (data_of b.metadata) in
    let is : IsDifference (seen b.provider) (seen x.provider) n c.in_ok-found.found =
    subst (λ (k : ℕ). IsDifference (seen b.provider) (seen x.provider) k c.in_ok-found.found)
    c.reach_of-sectors.ensures (c.in_ok-found.ensures.told h) in
    c.difference_as.ensures ∙ told_as (seen b.provider) (seen x.provider) x.provider n
    c.in_ok-found.found is
