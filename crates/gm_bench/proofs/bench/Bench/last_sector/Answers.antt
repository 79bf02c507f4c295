use Rattle.gm_bench.proofs.Common.{◌∙◌, refl, ap, Err, rules}
use Rattle.gm_bench.proofs.Looks.{closed_looks, looks_at_shelf, shelf_disk}
use Rattle.gm_bench.proofs.bench.Bench.last_sector.Goals as goal

pub returns-in_err-check_open-clause-looks : goal.returns-in_err-check_open-clause-looks
returns-in_err-check_open-clause-looks g c =
    closed_looks g.S.Store g.H.Shelf g.met.S.Store.settled c.args.self.now _ (search rules)
    (λ h. g.met.H.Shelf.lawful _ h)

pub returns-in-Ok-clause-looks : goal.returns-in-Ok-clause-looks
returns-in-Ok-clause-looks g c =
    looks_at_shelf g.S.Store g.H.Shelf g.met.S.Store.settled c.args.self.now _ _
    (λ h. g.met.H.Shelf.lawful _ h) refl refl c.in-Ok.ensures.looks.only (search rules)

pub returns-in-Err-clause-looks : goal.returns-in-Err-clause-looks
returns-in-Err-clause-looks g c =
    looks_at_shelf g.S.Store g.H.Shelf g.met.S.Store.settled c.args.self.now _ _
    (λ h. g.met.H.Shelf.lawful _ h) (search rules) (search rules)
    (rw c.close_on.ensures.media c.in-Err.ensures.looks.only)
    (rw c.close_on.ensures.media
    (shelf_disk g.H.Shelf _ _ c.read_last.result _ c.in-Err.fault c.in-Err.is
    (ap Err (c.close_on.ensures.fault ∙ c.of_shelf.ensures.value)) c.read_last.ensures.looks))
