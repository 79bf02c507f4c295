use Rattle.std.proofs.Common.{◌≡◌, List, None, map, subst}
use mathlib.Core.Path.{fun_ext}
use Rattle.gm_metadata.specs.Images.{Image, Sizes}
use Rattle.gm_shelf.proofs.Keeping.{only_then}
use Rattle.gm_looks.specs.Scrubs.{IsScrub}
use Rattle.gm_unlike.specs.Claims.{AreClaims}
use Rattle.gm_unlike.specs.Unequals.{AreUnequal, scrubbed}
use Rattle.gm_unlike.proofs.checkup.amiss_shelf.Goals as goal

-- looks at the images leave them as they were

pub returns-clause-claims : goal.returns-clause-claims
returns-clause-claims g c h =
    let H = g.H.Shelf in
    let only = c.in_ok-unlike.ensures.looks.only in
    let claims = c.in_ok-claims.claims.items in
    let seen = fun_ext (λ p. fun_ext (λ i. (only.reads h).quiet.seen p i)) in
    subst (λ (z : Sizes). AreClaims c.args.state.now z (H.view c.args.shelf.now).seen claims)
    only.keeps.size
    (subst (λ (x : Image). AreClaims c.args.state.now (H.size c.unlike_shelf.new.shelf) x claims)
    seen (c.in_ok-claims.ensures.claims (only.keeps.honest h)))

pub returns-clause-scrub : goal.returns-clause-scrub
returns-clause-scrub g c h compares =
    let H = g.H.Shelf in
    let only = only_then H _ _ _ c.in_ok-unlike.ensures.looks.only
    c.in_ok-claims.ensures.looks.only in
    let flaws = map scrubbed c.in_ok-flaws.flaws.items in
    let seen = fun_ext (λ p. fun_ext (λ i. (only.reads h).quiet.seen p i)) in
    subst (λ (z : Sizes). IsScrub c.args.state.now z (H.view c.args.shelf.now).seen None flaws)
    only.keeps.size
    (subst (λ (x : Image). IsScrub c.args.state.now (H.size c.claims_shelf.new.shelf) x None flaws)
    seen (c.in_ok-flaws.ensures.scrub (only.keeps.honest h) compares))

pub returns-clause-beside : goal.returns-clause-beside
returns-clause-beside g c h compares =
    let H = g.H.Shelf in
    let only = only_then H _ _ _ c.in_ok-unlike.ensures.looks.only
    c.in_ok-claims.ensures.looks.only in
    let seen = fun_ext (λ p. fun_ext (λ i. (only.reads h).quiet.seen p i)) in
    subst (λ (x : Image). AreUnequal c.args.state.now x c.in_ok-flaws.flaws.items) seen
    (c.in_ok-flaws.ensures.beside (only.keeps.honest h) compares)
