use Rattle.gm_apply.proofs.LeadsOn.{leads_on, ends_there}
use Rattle.gm_apply.proofs.laws.every_image_leads_on.Goals as goal

pub returns : goal.returns
returns c = λ t d w leads. record {
  part = λ x partly. leads_on t.state t.bytes t.size t.intents w d x leads partly;
  end = λ x same. ends_there t.state t.bytes t.size t.intents w d x leads same;
}
