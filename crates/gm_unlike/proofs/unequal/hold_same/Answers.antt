use Rattle.std.proofs.Common.{eqb-true, eq-eqb}
use Rattle.gm_unlike.proofs.EqualImages.{counted_same, same_counted}
use Rattle.gm_unlike.proofs.unequal.hold_same.Goals as goal

pub returns-clause-same : goal.returns-clause-same
returns-clause-same g c h =
    let size = g.H.Shelf.size c.args.shelf.now in
    let seen = (g.H.Shelf.view c.args.shelf.now).seen in
    let n = c.in_ok-equal.equal in
    let counts = c.in_ok-equal.ensures.equal h in
    let within = c.in_ok-equal.ensures.within in (
      λ same. counted_same size seen c.args.one c.args.other c.args.sectors n counts within
          (eqb-true n c.args.sectors same),
      λ hold. eq-eqb n c.args.sectors
          (same_counted size seen c.args.one c.args.other c.args.sectors n counts within hold),
    )
