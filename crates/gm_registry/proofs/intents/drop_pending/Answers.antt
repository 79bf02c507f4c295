use Rattle.gm_registry.proofs.InsideCalls.{all_done, no_call}
use Rattle.gm_registry.proofs.Common.{arith}
use Rattle.gm_registry.proofs.intents.drop_pending.Goals as goal

pub returns-in-Stays : goal.returns-in-Stays
returns-in-Stays g c =
    rw (c.in-Stays.is) (all_done g.S.Store _ _ _ (no_call g.S.Store c.args.tx.now)
    (λ first t is. is) (omega arith))

pub returns-in-Goes : goal.returns-in-Goes
returns-in-Goes g c = rw (c.in-Goes.is) c.drop_all.ensures
