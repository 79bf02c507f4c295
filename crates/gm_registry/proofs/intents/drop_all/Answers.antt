use Rattle.gm_registry.proofs.InsideCalls.{all_done, and_did, did, no_call, then_fails}
use Rattle.gm_registry.proofs.Common.{arith}
use Rattle.gm_registry.proofs.intents.drop_all.Goals as goal

pub returns-in_err-drop_intents : goal.returns-in_err-drop_intents
returns-in_err-drop_intents g c =
    then_fails g.S.Store c.from_residual.result _ _ _ (no_call g.S.Store c.args.tx.now)
    c.in_err-drop_intents.ensures (λ t fits room. tt) c.from_residual.ensures.1

pub returns-in_err-drop_bytes : goal.returns-in_err-drop_bytes
returns-in_err-drop_bytes g c =
    then_fails g.S.Store c.from_residual-in_err-drop_bytes.result _ _ _
    (did g.S.Store c.in_ok-drop_intents.ensures) c.in_err-drop_bytes.ensures (λ t fits room. tt)
    c.from_residual-in_err-drop_bytes.ensures.1

pub returns : goal.returns
returns g c =
    all_done g.S.Store _ _ _ (and_did g.S.Store (did g.S.Store c.in_ok-drop_intents.ensures)
    c.in_ok-drop_bytes.ensures) (λ first t is. is) (omega arith)
