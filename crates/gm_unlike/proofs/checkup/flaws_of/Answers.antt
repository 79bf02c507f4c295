use Rattle.std.proofs.Common.{◌≡◌, List, None, IfOk, subst, sym}
use mathlib.Core.Path.{fun_ext}
use Rattle.gm_metadata.specs.Images.{Image, Sizes}
use Rattle.gm_looks.specs.Scrubs.{IsScrub}
use Rattle.gm_looks.specs.declared.scrub.Scrubbed.{Scrubbed}
use Rattle.gm_unlike.specs.Unequals.{AreUnequal}
use Rattle.gm_unlike.proofs.checkup.flaws_of.Goals as goal

-- a comparison leaves the images as they were
pub returns-clause-beside : goal.returns-clause-beside
returns-clause-beside g c h compares =
    let H = g.H.Shelf in
    let s = c.args.state.now in
    let only = c.in_ok-found.ensures.looks.only in
    let found = c.in_ok-found.found.items in
    let old = (H.view c.args.shelf.now).seen in
    let new = (H.view c.scrub_shelf.new.shelf).seen in
    let seen : new ≡ old = fun_ext (λ p. fun_ext (λ i. (only.reads h).quiet.seen p i)) in
    let later : IsScrub s (H.size c.scrub_shelf.new.shelf) new None found =
    subst (λ (z : Sizes). IsScrub s z new None found) (sym only.keeps.size)
    (subst (λ (x : Image). IsScrub s (H.size c.args.shelf.now) x None found) (sym seen)
    (c.in_ok-found.ensures.scrub h)) in
    subst (λ (x : Image). IfOk c.unequal_shelf.result (λ v. AreUnequal s x v.items)) seen
    (c.unequal_shelf.ensures.told (only.keeps.honest h) None
    (subst (λ (l : List Scrubbed). IsScrub s (H.size c.scrub_shelf.new.shelf) new None l)
    (sym c.deref.ensures.value) later))
