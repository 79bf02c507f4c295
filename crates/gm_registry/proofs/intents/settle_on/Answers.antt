use Rattle.gm_registry.proofs.Common.{if_err, map_ok, settled}
use Rattle.gm_registry.proofs.CallsLeave.{writes}
use Rattle.gm_registry.proofs.intents.settle_on.Goals as goal

pub returns : goal.returns
returns g c =
    let it = c.write_settled.ensures in
    let result = c.write_settled.result in
    record {
      store = λ clean. if_err result _ _ (λ e fails is t was. fails is t was tt tt) (it.store
          clean);
      writes = writes g.S.Store g.met.S.Store.settled c.args.conn.now c.write_settled.new.conn
          result settled (λ clean. map_ok result _ _ (λ done t was. done t was tt) (it.done clean))
          (λ clean. if_err result _ _ (λ e still t was. still t was tt) (it.refused clean))
          (λ t was. it.left t was tt) it.survives.clean;
    }
