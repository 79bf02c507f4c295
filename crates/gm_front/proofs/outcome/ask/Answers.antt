use Rattle.gm_front.proofs.Common.{ap, Err, [], AreRecordsOf, AreTablesOf, whole, honest_to_adopt, pending_none, tables_of, asked_of}
use Rattle.gm_front.proofs.outcome.ask.Goals as goal

pub returns-in-Err-clause-comes : goal.returns-in-Err-clause-comes
returns-in-Err-clause-comes g c = λ honest kept away u at. (
    let shelf = c.args.bench.now.media.shelf in
    let seen = (g.H.Shelf.view shelf).seen in
    let tables : AreTablesOf at.tables u.state [] [] =
    tables_of at.tables [] [] (whole (g.H.Shelf.size shelf) away seen) u
    (at.leads seen (g.met.H.Shelf.lawful shelf honest).holds_now).0 in
    let records : AreRecordsOf at.tables u.state = record {
      state = tables.state;
      rows = record { mirrors = tables.mirrors; components = tables.components };
    } in (
      c.in-Call.command,
      ap asked_of c.in-Call.is,
      record {
        left = c.in-Err.ensures.leaves honest kept away u at;
        disk = λ is. c.in-Err.ensures.runs.disk kept at.tables u.state at.has records (ap Err is);
        store = λ is room. c.in-Err.ensures.store kept (ap Err is) at.tables u.state at.has records
            (pending_none at.tables u.state tables) room
            (honest_to_adopt g.H.Shelf shelf honest c.in-Call.command);
        readable = λ is found written.
            (let all : AreTablesOf found.tables u.state [] [] =
            tables_of found.tables [] [] (whole (g.H.Shelf.size shelf) away seen) u
            (found.leads seen (g.met.H.Shelf.lawful shelf honest).holds_now).0 in
            c.in-Err.ensures.readable kept (ap Err is) found.tables u.state found.has
            (record {
              state = all.state;
              rows = record { mirrors = all.mirrors; components = all.components };
            }) all.count written
            (honest_to_adopt g.H.Shelf shelf honest c.in-Call.command));
      },
    )
    )
