use Rattle.gm_refusals.proofs.PartAgrees.{is_state}
use Rattle.gm_refusals.proofs.asked_mirrors.a_part_is_a_state.Goals as goal

pub returns : goal.returns
returns c = is_state
