use Rattle.gm_front.proofs.Common.{rules, arith, ◌≡◌, inl, sym, subst, Result, Err, None, Vec, Global, is_about, IsUnlike, Unlike, DiskKept, sees_registry, registry_of, TellsKept, BenchFault, failed_behind, OnlyLooks}
use Rattle.gm_front.proofs.ManyLooks.{looks_then}
use Rattle.gm_front.proofs.guard.in_the_way.Goals as goal

pub returns-in_err-list-clause-readable : goal.returns-in_err-list-clause-readable
returns-in_err-list-clause-readable g c = λ honest kept is t s has are written.
    let first = c.in_ok-kept.ensures in
    let mid : DiskKept g.S.Store (registry_of c.kept.new.self) =
    omega (arith, c.in_err-list.ensures.looks.store.clean, kept) in
    c.in_err-list.ensures.records.unreadable kept (search rules) t s
    ((first.looks.does honest mid).tables t has) are

pub returns-in_err-list-clause-store : goal.returns-in_err-list-clause-store
returns-in_err-list-clause-store g c = λ honest kept is t has.
    let first = c.in_ok-kept.ensures in
    let mid : DiskKept g.S.Store (registry_of c.kept.new.self) =
    omega (arith, c.in_err-list.ensures.looks.store.clean, kept) in
    let there = (first.looks.does honest mid).tables t has in
    let before = first.looks.store.left t has in
    failed_behind g.S.Store (registry_of c.args.bench.now) (registry_of c.kept.new.self)
    before.counts before.limit (registry_of c.unlike.new.self)
    (c.in_err-list.ensures.records.store kept (search rules) (sees_registry _ t there))

pub returns-in_err-list-clause-looks : goal.returns-in_err-list-clause-looks
returns-in_err-list-clause-looks g c =
    let is : c.from_residual-in_err-list.result ≡ Err c.in_err-list.field-0.0 = search rules in
    subst (λ (r : Result (Vec Unlike Global) BenchFault). OnlyLooks g.S.Store g.H.Shelf
    c.args.bench.now c.unlike.new.self r) (sym is)
    (looks_then g.S.Store g.H.Shelf g.met.S.Store.settled c.args.bench.now c.kept.new.self
    c.unlike.new.self (λ h. g.met.H.Shelf.lawful _ h) c.in_ok-kept.field-0
    (Err c.in_err-list.field-0.0) c.in_ok-kept.ensures.looks c.in_err-list.ensures.looks)

pub returns-clause-stood : goal.returns-clause-stood
returns-clause-stood g c = λ honest kept t s has are.
    let j = g.H.Shelf in
    let first = c.in_ok-kept.ensures in
    let second = c.in_ok-list.ensures in
    let mid : DiskKept g.S.Store (registry_of c.kept.new.self) =
    omega (arith, second.looks.store.clean, kept) in
    let none : c.in_ok-kept.field-0 ≡ None = search rules in
    let free = subst (λ found. TellsKept t c.args.key.now found) none (first.shows mid t has) in
    let there = subst (λ (x : g.row.H.Denot). g.H.Shelf.honest x) (sym first.shelf) honest in
    inl (
      free,
      subst (λ (x : g.row.H.Denot). IsUnlike (is_about c.args.command.now) s
          (j.size x) (j.view x).seen c.in_ok-list.list.items) first.shelf
          (second.unlike there kept t s ((first.looks.does honest mid).tables t has) are),
    )

pub returns-clause-looks : goal.returns-clause-looks
returns-clause-looks g c =
    looks_then g.S.Store g.H.Shelf g.met.S.Store.settled c.args.bench.now c.kept.new.self
    c.unlike.new.self (λ h. g.met.H.Shelf.lawful _ h) c.in_ok-kept.field-0 _
    c.in_ok-kept.ensures.looks c.in_ok-list.ensures.looks
