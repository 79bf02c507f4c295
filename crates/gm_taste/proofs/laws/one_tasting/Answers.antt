use Rattle.gm_taste.proofs.OneTasting.{same_groups, same_left}
use Rattle.gm_taste.proofs.laws.one_tasting.Goals as goal

pub returns-clause-groups : goal.returns-clause-groups
returns-clause-groups c = same_groups

pub returns-clause-left : goal.returns-clause-left
returns-clause-left c = same_left
