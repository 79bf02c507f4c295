use Rattle.gm_registry.proofs.InsideCalls.{all_done, did, no_call, then_fails}
use Rattle.gm_registry.proofs.Common.{arith}
use Rattle.gm_registry.proofs.accept.put_some_mirror.Goals as goal

pub returns-in_ok-put_mirror : goal.returns-in_ok-put_mirror
returns-in_ok-put_mirror g c =
    rw (c.in-Some.is) (all_done g.S.Store _ _ _ (did g.S.Store c.in_ok-put_mirror.ensures)
    (λ first t is. is) (omega arith))

pub returns-in_err-put_mirror : goal.returns-in_err-put_mirror
returns-in_err-put_mirror g c =
    rw (c.in-Some.is) (then_fails g.S.Store c.from_residual.result _ _ _
    (no_call g.S.Store c.args.tx.now) c.in_err-put_mirror.ensures (λ t fits room. fits)
    c.from_residual.ensures.1)
