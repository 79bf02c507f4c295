-- Each command that nothing refuses has a plan.
use Rattle.gm_rules.proofs.Common.{ℕ, List, Command, Label, Insert, Remove, Deactivate, Activate, Forget, Rebuild, Configure, Destroy, Lost, Advance, Adopt, World, Sound, IsGood, CanAnswer, HasPlan, seen_of}
use Rattle.gm_commands.specs.declared.command.Command.TheVariants.{Clear, Patch}
use Rattle.gm_rules.proofs.PlanOf.{Allowed, PlanOf}
use Rattle.gm_rules.proofs.PlanOfStep.{has_plan}
use Rattle.gm_rules.proofs.PlanLabel.{label_plan}
use Rattle.gm_rules.proofs.PlanInsert.{insert_plan}
use Rattle.gm_rules.proofs.PlansDropping.{lost_plan, remove_plan}
use Rattle.gm_rules.proofs.PlansKeeping.{deactivate_plan, activate_plan, forget_plan, rebuild_plan, configure_plan}
use Rattle.gm_rules.proofs.PlanAdvance.{advance_plan}
use Rattle.gm_rules.proofs.PlanClear.{clear_plan}
use Rattle.gm_rules.proofs.PlanDestroy.{destroy_plan}
use Rattle.gm_rules.proofs.PlanAdopt.{adopt_plan}
use Rattle.gm_rules.proofs.PlanPatch.{patch_plan}

plan_of : (u : World) (c : Command) → Allowed u c → PlanOf u c
plan_of u (Label new) may = label_plan u new may
plan_of u (Insert new) may = insert_plan u new may
plan_of u (Remove n p) may = remove_plan u n p may
plan_of u (Deactivate n p) may = deactivate_plan u n p may
plan_of u (Activate n p) may = activate_plan u n p may
plan_of u (Forget n) may = forget_plan u n may
plan_of u (Rebuild n p) may = rebuild_plan u n p may
plan_of u (Configure n settings) may = configure_plan u n settings may
plan_of u (Clear p) may = clear_plan u p may
plan_of u (Destroy n) may = destroy_plan u n may
plan_of u (Lost n ps) may = lost_plan u n ps may
plan_of u (Advance n p) may = advance_plan u n p may
plan_of u (Adopt n ps) may = adopt_plan u n ps may
plan_of u (Patch n first sectors) may = patch_plan u n first sectors may

pub every_plan : (u : World) (key : List ℕ) (c : Command) → Sound u → CanAnswer u key c
    → IsGood u.state (seen_of u) c → HasPlan u key c
every_plan u key c sound can good =
    has_plan u key c sound can good
    (plan_of u c (record { sound = sound; fits = can.fits; good = good }))
