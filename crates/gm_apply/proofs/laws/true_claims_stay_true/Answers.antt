use Rattle.gm_apply.proofs.LeadsOn.{claims_kept, new_claims_kept}
use Rattle.gm_apply.proofs.laws.true_claims_stay_true.Goals as goal

pub returns-clause-old : goal.returns-clause-old
returns-clause-old c = λ u w ts d x goes order agrees claims partly.
    claims_kept u w ts d x goes order agrees claims partly

pub returns-clause-new : goal.returns-clause-new
returns-clause-new c = λ u w ts d x goes order agrees claims partly.
    new_claims_kept u w ts d x goes order agrees claims partly
