use Rattle.gm_apply.proofs.Values.{lead_somewhere}
use Rattle.gm_apply.proofs.readable.readable_intents_lead_somewhere.Goals as goal

pub returns : goal.returns
returns c = λ t x may.
    lead_somewhere t.state t.bytes t.size t.intents may.state may.readable may.there x
