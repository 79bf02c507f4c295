use Rattle.gm_front.proofs.Common.{Err, inl, ap, arith, DiskKept, phase_of, honest_to_adopt, carried_records, carried_so, carried_tables, else_none, failed_behind}
use Rattle.gm_front.proofs.NextLines.{kept_waiting, passed_on, settled_next, unsettled_next}
use Rattle.gm_front.proofs.next.hand_in.Goals as goal

pub returns-then-follows-clause-answers : goal.returns-then-follows-clause-answers
returns-then-follows-clause-answers g c h clean away v u stands =
    kept_waiting g.S.Store g.H.Shelf c.hand_in.new.self.progress
    c.args.bench.now.media.registry c.hand_in.new.self.media.registry
    c.args.bench.now.media.shelf c.hand_in.new.self.media.shelf away v u c.args.key.now
    c.args.command.now c.in_ok-answer.answer
    (c.in_ok-answer.ensures.answers h clean away v u stands)

pub returns-clause-answers : goal.returns-clause-answers
returns-clause-answers g c h clean away v u stands =
    let mid : DiskKept g.S.Store c.hand_in.new.self.media.registry =
    omega (arith, clean, c.settle_waiting.ensures.settles.clean) in
    settled_next g.S.Store g.H.Shelf c.hand_in.new.self.progress
    c.args.bench.now.media.registry c.hand_in.new.self.media.registry
    c.args.bench.now.media.shelf c.hand_in.new.self.media.shelf away v u c.args.key.now
    c.args.command.now c.settle_waiting.new.self.progress
    c.settle_waiting.new.self.media.registry c.settle_waiting.new.self.media.shelf
    c.in_ok-answer.answer (c.in_ok-answer.ensures.answers h mid away v u stands)
    (inl (ap phase_of c.in_ok-settle_waiting.ensures.phase))
    (c.in_ok-settle_waiting.ensures.does (c.hand_in.ensures.runs.keep.shelf.honest h) clean away)

pub returns-in_err-answer-clause-fails : goal.returns-in_err-answer-clause-fails
returns-in_err-answer-clause-fails g c h clean =
    passed_on _ c.from_residual.result _ c.from_residual.ensures.1 (λ away v u stands. (
    let shelf = c.args.bench.now.media.shelf in
    let lawful = g.met.H.Shelf.lawful shelf h in
    let was = carried_so g.S.Store g.H.Shelf c.args.bench.now.progress
    c.args.bench.now.media.registry shelf away v u stands in
    let are = carried_tables g.S.Store g.H.Shelf
    c.args.bench.now.media.registry shelf away was.intents was.bytes v u was.at lawful in
    let records = carried_records was.at.tables u.state
    was.intents was.bytes are in
    record {
      left = inl (c.in_err-answer.ensures.leaves h clean away v u stands);
      disk = λ is. c.in_err-answer.ensures.runs.disk clean was.at.tables u.state was.at.has
          records (ap Err is);
      store = λ is room. c.in_err-answer.ensures.rows.store clean (ap Err is) was.at.tables
          u.state was.at.has records (else_none c.args.bench.now.progress
          was.at.tables u.state was.intents was.bytes was.waits are) room
          (honest_to_adopt g.H.Shelf shelf h c.args.command.now);
      readable = λ is ts bytes at written.
          (let all = carried_tables g.S.Store g.H.Shelf
          c.args.bench.now.media.registry shelf away ts bytes v u at lawful in
          c.in_err-answer.ensures.rows.readable clean (ap Err is) at.tables u.state at.has
          (carried_records at.tables u.state ts bytes
          all) all.count written (honest_to_adopt g.H.Shelf shelf h c.args.command.now));
    }
    ))

pub returns-in_err-settle_waiting-clause-fails : goal.returns-in_err-settle_waiting-clause-fails
returns-in_err-settle_waiting-clause-fails g c h clean =
    passed_on _ c.from_residual-in_err-settle_waiting.result _
    c.from_residual-in_err-settle_waiting.ensures.1 (λ away v u stands. (
    let mid : DiskKept g.S.Store c.hand_in.new.self.media.registry =
    omega (arith, clean, c.settle_waiting.ensures.settles.clean) in
    let shelf = c.args.bench.now.media.shelf in
    let lawful = g.met.H.Shelf.lawful shelf h in
    let was = carried_so g.S.Store g.H.Shelf c.args.bench.now.progress
    c.args.bench.now.media.registry shelf away v u stands in
    let are = carried_tables g.S.Store g.H.Shelf
    c.args.bench.now.media.registry shelf away was.intents was.bytes v u was.at lawful in
    let goes = c.in_ok-answer.ensures.rows.goes_on mid was.at.tables u.state was.at.has
    (carried_records was.at.tables u.state
    was.intents was.bytes are) in
    record {
      left = unsettled_next g.S.Store g.H.Shelf
          c.hand_in.new.self.progress c.args.bench.now.media.registry
          c.hand_in.new.self.media.registry shelf c.hand_in.new.self.media.shelf away v u
          c.args.key.now c.args.command.now c.settle_waiting.new.self.media.registry
          c.settle_waiting.new.self.media.shelf c.in_ok-answer.answer
          (c.in_ok-answer.ensures.answers h mid away v u stands)
          c.hand_in.ensures.runs.keep.shelf.size c.settle_waiting.ensures.settles.shelf
          (c.settle_waiting.ensures.leaves (c.hand_in.ensures.runs.keep.shelf.honest h) clean
          away);
      disk = λ is. absurd (c.in_err-settle_waiting.ensures.settles.disk (ap Err is));
      store = λ is room. failed_behind g.S.Store c.args.bench.now.media.registry
          c.hand_in.new.self.media.registry goes.counts goes.limit
          c.settle_waiting.new.self.media.registry
          (c.in_err-settle_waiting.ensures.settles.store clean (ap Err is) goes.tables goes.has);
      readable = λ is ts bytes at written.
          absurd (c.in_err-settle_waiting.ensures.settles.unreadable (ap Err is));
    }
    ))
