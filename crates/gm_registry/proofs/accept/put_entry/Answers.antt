use Rattle.gm_registry.proofs.FittingFurther.{takes_further}
use Rattle.gm_registry.proofs.FittingInTurn.{records_fit, takes_behind, takes_bytes, takes_last}
use Rattle.gm_registry.proofs.InsideCalls.{and_did, did, no_call, then_does, then_fails}
use Rattle.gm_registry.proofs.StepsInTurn.{less_room}
use Rattle.gm_registry.proofs.Common.{FitsEntry, rows_in, with_entry, seen, intent_rows, length, arith}
use Rattle.gm_registry.proofs.accept.put_entry.Goals as goal

pub returns-in_err-put_records : goal.returns-in_err-put_records
returns-in_err-put_records g c =
    let e = c.args.entry.now in
    then_fails g.S.Store c.from_residual.result _ _ _ (no_call g.S.Store c.args.tx.now)
    c.in_err-put_records.ensures (λ t fits room. (
      records_fit e.change.now e.intents.now e.bytes.now t fits.0.records,
      less_room _ _ (seen g.S.Store c.args.tx.now.conn.now) (omega arith) fits.2,
    )) c.from_residual.ensures.1

pub returns-in_err-put_intents : goal.returns-in_err-put_intents
returns-in_err-put_intents g c =
    let e = c.args.entry.now in
    then_fails g.S.Store c.from_residual-in_err-put_intents.result _ _ _
    (did g.S.Store c.in_ok-put_records.ensures) c.in_err-put_intents.ensures
    (λ t fits room. takes_behind e.change.now (length e.intents.now) t fits.0.intents)
    c.from_residual-in_err-put_intents.ensures.1

pub returns-in_err-put_bytes : goal.returns-in_err-put_bytes
returns-in_err-put_bytes g c =
    let e = c.args.entry.now in
    then_fails g.S.Store c.from_residual-in_err-put_bytes.result _ _ _
    (and_did g.S.Store (did g.S.Store c.in_ok-put_records.ensures) c.in_ok-put_intents.ensures)
    c.in_err-put_bytes.ensures
    (λ t fits room. takes_bytes e.change.now (intent_rows 1 e.intents.now)
    e.bytes.now t fits.0.bytes) c.from_residual-in_err-put_bytes.ensures.1

pub returns-in_err-put_command : goal.returns-in_err-put_command
returns-in_err-put_command g c =
    let e = c.args.entry.now in
    then_fails g.S.Store c.from_residual-in_err-put_command.result _ _ _
    (and_did g.S.Store (and_did g.S.Store (did g.S.Store c.in_ok-put_records.ensures)
    c.in_ok-put_intents.ensures) c.in_ok-put_bytes.ensures) c.in_err-put_command.ensures
    (λ t fits room. takes_last e.change.now e.intents.now e.bytes.now e.key.now e.words.now
    c.args.number (seen g.S.Store c.put_bytes.new.tx.conn.now) t fits.0
    (fits.1.free c.args.number (omega arith) (omega arith))
    (room 1 (less_room _ _ (seen g.S.Store c.args.tx.now.conn.now) (omega arith) fits.2)))
    c.from_residual-in_err-put_command.ensures.1

pub returns : goal.returns
returns g c =
    let e = c.args.entry.now in
    let n = c.args.number in
    then_does g.S.Store c.put_further.result (with_entry e n) (FitsEntry e n) (rows_in e)
    (and_did g.S.Store (and_did g.S.Store (and_did g.S.Store
    (did g.S.Store c.in_ok-put_records.ensures) c.in_ok-put_intents.ensures)
    c.in_ok-put_bytes.ensures) c.in_ok-put_command.ensures) c.put_further.ensures
    (λ first t is. rw (c.reply.ensures, c.further.ensures) at is)
    (λ t fits room. rw (c.reply.ensures, c.further.ensures) (takes_further e.change.now
    e.intents.now e.bytes.now e.key.now e.words.now n (seen g.S.Store c.put_command.new.tx.conn.now)
    t fits.0 fits.1 (room (length e.change.now.further) (less_room _ _
    (seen g.S.Store c.args.tx.now.conn.now) (omega arith) fits.2))))
    (rw c.further.ensures (omega arith))
