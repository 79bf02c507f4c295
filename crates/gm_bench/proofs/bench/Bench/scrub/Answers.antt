use Rattle.gm_bench.proofs.Common.{◌∙◌, refl, sym, ap, subst, Err, rules, Records, IsScrub, shelf_of}
use Rattle.gm_bench.proofs.Looks.{looks_at_both, shelf_disk}
use Rattle.gm_bench.proofs.bench.Bench.scrub.Goals as goal

pub returns-in-Ok-clause-scrubs : goal.returns-in-Ok-clause-scrubs
returns-in-Ok-clause-scrubs g c h clean t s has are =
    let j = g.H.Shelf in
    let shelf = shelf_of c.args.self.now in
    let here : g.H.Shelf.honest (shelf_of c.view.new.self) =
    subst g.H.Shelf.honest (sym c.in_ok-state.ensures.shelf) h in
    subst (λ (x : Records). IsScrub x (j.size shelf) (j.view shelf).seen c.args.mirror
    c.in-Ok.list.items)
    (c.in_ok-state.ensures.shows clean t s has are)
    (subst (λ (x : g.row.H.Denot). IsScrub c.in_ok-state.state (j.size x) (j.view x).seen
    c.args.mirror c.in-Ok.list.items)
    c.in_ok-state.ensures.shelf (c.in-Ok.ensures.scrub here))

pub returns-in-Ok-clause-looks : goal.returns-in-Ok-clause-looks
returns-in-Ok-clause-looks g c =
    looks_at_both g.S.Store g.H.Shelf g.met.S.Store.settled c.args.self.now _ _
    (λ h. g.met.H.Shelf.lawful _ h) c.view.new.self c.in_ok-state.state
    c.in_ok-state.ensures.looks refl refl c.in-Ok.ensures.looks.only (search rules)

pub returns-clause-looks : goal.returns-clause-looks
returns-clause-looks g c =
    looks_at_both g.S.Store g.H.Shelf g.met.S.Store.settled c.args.self.now _ _
    (λ h. g.met.H.Shelf.lawful _ h) c.view.new.self c.in_ok-state.state
    c.in_ok-state.ensures.looks (search rules) (search rules)
    (rw c.close_on.ensures.media c.in-Err.ensures.looks.only)
    (rw c.close_on.ensures.media
    (shelf_disk g.H.Shelf _ _ c.scrub_shelf.result _ c.in-Err.fault c.in-Err.is
    (ap Err (c.close_on.ensures.fault ∙ c.of_shelf.ensures.value)) c.scrub_shelf.ensures.looks))
