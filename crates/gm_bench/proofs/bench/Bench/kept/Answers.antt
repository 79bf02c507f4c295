use Rattle.gm_bench.proofs.Common.{refl, rules}
use Rattle.gm_bench.proofs.Looks.{closed_looks, looks_at_registry}
use Rattle.gm_bench.proofs.bench.Bench.kept.Goals as goal

pub returns-in_err-check_open-clause-looks : goal.returns-in_err-check_open-clause-looks
returns-in_err-check_open-clause-looks g c =
    closed_looks g.S.Store g.H.Shelf g.met.S.Store.settled c.args.self.now _ (search rules)
    (λ h. g.met.H.Shelf.lawful _ h)

pub returns-in-Ok-Some-clause-looks : goal.returns-in-Ok-Some-clause-looks
returns-in-Ok-Some-clause-looks g c =
    looks_at_registry g.S.Store g.H.Shelf g.met.S.Store.settled c.args.self.now _ _
    (λ h. g.met.H.Shelf.lawful _ h) refl c.reply_of.ensures.reads refl (search rules)
    (λ clean t has. (c.in-Ok-Some.ensures.found clean t has).1.tables)

pub returns-in-Ok-None-clause-looks : goal.returns-in-Ok-None-clause-looks
returns-in-Ok-None-clause-looks g c =
    looks_at_registry g.S.Store g.H.Shelf g.met.S.Store.settled c.args.self.now _ _
    (λ h. g.met.H.Shelf.lawful _ h) refl c.reply_of.ensures.reads refl (search rules)
    (λ clean t has. (c.in-Ok-None.ensures.found clean t has).1.tables)

pub returns-in-Err-clause-looks : goal.returns-in-Err-clause-looks
returns-in-Err-clause-looks g c =
    looks_at_registry g.S.Store g.H.Shelf g.met.S.Store.settled c.args.self.now _ _
    (λ h. g.met.H.Shelf.lawful _ h) (search rules) (search rules) (search rules) (search rules)
    (search rules)
