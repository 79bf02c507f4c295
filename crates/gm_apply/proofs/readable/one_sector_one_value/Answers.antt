use Rattle.gm_apply.proofs.Values.{same_value}
use Rattle.gm_apply.proofs.readable.one_sector_one_value.Goals as goal

pub returns : goal.returns
returns c = λ t r o q j may one other.
    same_value t.state t.bytes t.size t.intents may.state may.readable may.there r o q j
    one.has other.has one.named other.named
