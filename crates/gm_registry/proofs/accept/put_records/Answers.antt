use Rattle.gm_registry.proofs.FittingInTurn.{takes_some}
use Rattle.gm_registry.proofs.InsideCalls.{and_did, did, no_call, then_does, then_fails}
use Rattle.gm_registry.proofs.StepsInTurn.{less_room}
use Rattle.gm_registry.proofs.Common.{seen, arith, length}
use Rattle.gm_registry.proofs.accept.put_records.Goals as goal

pub returns-in_err-drop_components : goal.returns-in_err-drop_components
returns-in_err-drop_components g c =
    then_fails g.S.Store c.from_residual.result _ _ _ (no_call g.S.Store c.args.tx.now)
    c.in_err-drop_components.ensures (λ t fits room. tt) c.from_residual.ensures.1

pub returns-in_err-drop_some_mirror : goal.returns-in_err-drop_some_mirror
returns-in_err-drop_some_mirror g c =
    then_fails g.S.Store c.from_residual-in_err-drop_some_mirror.result _ _ _
    (did g.S.Store c.in_ok-drop_components.ensures) c.in_err-drop_some_mirror.ensures
    (λ t fits room. rw (c.gone_components.ensures, c.gone_mirror.ensures) (fits.0.gone))
    c.from_residual-in_err-drop_some_mirror.ensures.1

pub returns-in_err-put_some_mirror : goal.returns-in_err-put_some_mirror
returns-in_err-put_some_mirror g c =
    then_fails g.S.Store c.from_residual-in_err-put_some_mirror.result _ _ _
    (and_did g.S.Store (did g.S.Store c.in_ok-drop_components.ensures)
    c.in_ok-drop_some_mirror.ensures) c.in_err-put_some_mirror.ensures
    (λ t fits room. rw (c.gone_components.ensures, c.gone_mirror.ensures, c.mirror.ensures)
    (takes_some c.args.change.now.mirror (seen g.S.Store c.drop_some_mirror.new.tx.conn.now) _
    fits.0.put (room 1 (less_room _ _ (seen g.S.Store c.args.tx.now.conn.now) (omega arith)
    fits.1)))) c.from_residual-in_err-put_some_mirror.ensures.1

pub returns : goal.returns
returns g c =
    then_does g.S.Store c.put_components.result _ _ _ (and_did g.S.Store (and_did g.S.Store
    (did g.S.Store c.in_ok-drop_components.ensures) c.in_ok-drop_some_mirror.ensures)
    c.in_ok-put_some_mirror.ensures) c.put_components.ensures
    (λ first t is. rw (
      c.gone_components.ensures,
      c.gone_mirror.ensures,
      c.mirror.ensures,
      c.components.ensures,
    ) at is)
    (λ t fits room. rw (
      c.gone_components.ensures,
      c.gone_mirror.ensures,
      c.mirror.ensures,
      c.components.ensures,
    ) (fits.0.placed, room (length c.args.change.now.components) fits.1))
    (rw c.components.ensures (omega arith))
