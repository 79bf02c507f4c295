use Rattle.gm_rules.proofs.EveryPlan.{every_plan}
use Rattle.gm_rules.proofs.laws.every_command_has_a_plan.Goals as goal

pub returns : goal.returns
returns c = every_plan
