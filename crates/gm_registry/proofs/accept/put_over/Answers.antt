use Rattle.gm_registry.proofs.InsideCalls.{did, no_call, then_does, then_fails}
use Rattle.gm_registry.proofs.StepsInTurn.{less_room}
use Rattle.gm_registry.proofs.Common.{rows_in, seen, arith}
use Rattle.gm_registry.proofs.accept.put_over.Goals as goal

pub returns-in_err-drop_pending : goal.returns-in_err-drop_pending
returns-in_err-drop_pending g c =
    then_fails g.S.Store c.from_residual.result _ _ _ (no_call g.S.Store c.args.tx.now)
    c.in_err-drop_pending.ensures (λ t fits room. tt) c.from_residual.ensures.1

pub returns : goal.returns
returns g c =
    then_does g.S.Store c.put_entry.result _ _ _ (did g.S.Store c.in_ok-drop_pending.ensures)
    c.put_entry.ensures (λ first t is. is) (λ t fits room. (
      fits.0,
      fits.1,
      room (rows_in c.args.entry.now)
          (less_room _ _ (seen g.S.Store c.args.tx.now.conn.now) (omega arith) fits.2),
    )) (omega arith)
