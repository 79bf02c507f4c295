use Rattle.gm_front.proofs.Common.{◌≡◌, refl, ap, Err, [], AreRecordsOf, AreTablesOf, honest_to_adopt, pending_none, mirror_json, status_json, mirror_told, told_as, sees_registry}
use Rattle.gm_http.specs.declared.status.Status.TheVariants as status
use Rattle.gm_front.proofs.Found.{look_fails, records_shown, stays_at_rest, store_of, tables_shown}
use Rattle.gm_front.proofs.finding.find.Goals as goal

pub returns-in-Ok-clause-comes : goal.returns-in-Ok-clause-comes
returns-in-Ok-clause-comes g c = λ honest kept away u at.
    let shelf = c.args.bench.now.media.shelf in
    let records = records_shown g.S.Store g.H.Shelf _ shelf away u at
    (g.met.H.Shelf.lawful shelf honest) in
    let is : c.in-Ok.state ≡ u.state =
    c.in-Ok.ensures.shows kept at.tables u.state at.has records in
    rw c.in-AllMirrors.is (record {
      world = u;
      responds = (refl, ap (λ s. told_as status.Ok (status_json s)) is);
      at = stays_at_rest g.S.Store g.H.Shelf c.args.bench.now c.view.new.self c.view.result
          c.view.ensures.looks honest kept away u at c.in-Ok.state c.in-Ok.is;
    })

pub returns-in-Ok-view-clause-comes : goal.returns-in-Ok-view-clause-comes
returns-in-Ok-view-clause-comes g c = λ honest kept away u at.
    let shelf = c.args.bench.now.media.shelf in
    let records = records_shown g.S.Store g.H.Shelf _ shelf away u at
    (g.met.H.Shelf.lawful shelf honest) in
    let is : c.in-Ok-view.state ≡ u.state =
    c.in-Ok-view.ensures.shows kept at.tables u.state at.has records in
    rw c.in-OneMirror.is (record {
      world = u;
      responds = (refl, ap (λ s. mirror_told (mirror_json s c.in-OneMirror.name)) is);
      at = stays_at_rest g.S.Store g.H.Shelf c.args.bench.now c.view-in-OneMirror.new.self
          c.view-in-OneMirror.result c.view-in-OneMirror.ensures.looks honest kept away u at
          c.in-Ok-view.state c.in-Ok-view.is;
    })

pub returns-in-Err-clause-comes : goal.returns-in-Err-clause-comes
returns-in-Err-clause-comes g c = λ honest kept away u at.
    let shelf = c.args.bench.now.media.shelf in
    let records = records_shown g.S.Store g.H.Shelf _ shelf away u at
    (g.met.H.Shelf.lawful shelf honest) in
    rw c.in-AllMirrors.is (look_fails g.S.Store g.H.Shelf c.args.bench.now c.view.new.self
    c.view.result c.view.ensures.looks honest kept away u at _ c.in-Err.fault (λ l. l) c.in-Err.is
    (λ e. c.in-Err.ensures.records.unreadable kept (ap Err e) at.tables u.state at.has
    records))

pub returns-in-Err-view-clause-comes : goal.returns-in-Err-view-clause-comes
returns-in-Err-view-clause-comes g c = λ honest kept away u at.
    let shelf = c.args.bench.now.media.shelf in
    let records = records_shown g.S.Store g.H.Shelf _ shelf away u at
    (g.met.H.Shelf.lawful shelf honest) in
    rw c.in-OneMirror.is (look_fails g.S.Store g.H.Shelf c.args.bench.now
    c.view-in-OneMirror.new.self c.view-in-OneMirror.result c.view-in-OneMirror.ensures.looks
    honest kept away u at _ c.in-Err-view.fault (λ l. l) c.in-Err-view.is
    (λ e. c.in-Err-view.ensures.records.unreadable kept (ap Err e) at.tables u.state at.has
    records))

pub returns-in-Err-last_sector-clause-comes : goal.returns-in-Err-last_sector-clause-comes
returns-in-Err-last_sector-clause-comes g c = λ honest kept away u at.
    rw c.in-LastSector.is (look_fails g.S.Store g.H.Shelf c.args.bench.now
    c.last_sector.new.self c.last_sector.result c.last_sector.ensures.looks honest kept away u at
    _ c.in-Err-last_sector.fault (λ l. l) c.in-Err-last_sector.is
    (λ e. c.in-Err-last_sector.ensures.unreadable (ap Err e)))

pub returns-in-Ok-run-clause-comes : goal.returns-in-Ok-run-clause-comes
returns-in-Ok-run-clause-comes g c = λ honest kept away u at.
    let run = c.in-Ok-run.ensures.answers honest kept away u at in
    rw (c.in-Carry.is, ← c.as_str.ensures.value) (record {
      world = run.world;
      responds = (_, run.calls, refl);
      at = run.at;
    })

pub returns-in-Err-run-clause-comes : goal.returns-in-Err-run-clause-comes
returns-in-Err-run-clause-comes g c = λ honest kept away u at.
    let shelf = c.args.bench.now.media.shelf in
    let lawful = g.met.H.Shelf.lawful shelf honest in
    let records : AreRecordsOf at.tables u.state =
    records_shown g.S.Store g.H.Shelf _ shelf away u at lawful in
    rw (c.in-Carry.is, ← c.as_str.ensures.value) (record {
      left = c.in-Err-run.ensures.leaves honest kept away u at;
      disk = λ is. c.in-Err-run.ensures.runs.disk kept at.tables u.state at.has records
          (ap Err is);
      readable = λ is found written.
          let all : AreTablesOf found.tables u.state [] [] = tables_shown g.S.Store g.H.Shelf
          _ shelf away u found lawful in
          c.in-Err-run.ensures.readable kept (ap Err is) found.tables u.state found.has
          (records_shown g.S.Store g.H.Shelf _ shelf away u found lawful)
          all.count written (honest_to_adopt g.H.Shelf shelf honest c.in-Carry.command);
    })

pub returns-in-Err-clause-store : goal.returns-in-Err-clause-store
returns-in-Err-clause-store g c = λ honest kept away u at is room.
    c.in-Err.ensures.records.store kept (store_of _ is) (sees_registry _ at.tables at.has)

pub returns-in-Err-view-clause-store : goal.returns-in-Err-view-clause-store
returns-in-Err-view-clause-store g c = λ honest kept away u at is room.
    c.in-Err-view.ensures.records.store kept (store_of _ is) (sees_registry _ at.tables at.has)

pub returns-in-Err-last_sector-clause-store : goal.returns-in-Err-last_sector-clause-store
returns-in-Err-last_sector-clause-store g c = λ honest kept away u at is room.
    absurd (c.in-Err-last_sector.ensures.not_store (store_of _ is))

pub returns-in-Err-run-clause-store : goal.returns-in-Err-run-clause-store
returns-in-Err-run-clause-store g c = λ honest kept away u at is room.
    let shelf = c.args.bench.now.media.shelf in
    let lawful = g.met.H.Shelf.lawful shelf honest in
    c.in-Err-run.ensures.store kept (store_of _ is) at.tables u.state at.has
    (records_shown g.S.Store g.H.Shelf _ shelf away u at lawful)
    (pending_none at.tables u.state (tables_shown g.S.Store g.H.Shelf _ shelf away u at lawful))
    room (honest_to_adopt g.H.Shelf shelf honest c.in-Carry.command)
