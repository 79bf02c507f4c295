use Rattle.gm_state.proofs.MadeState.{same_state}
use Rattle.gm_state.proofs.state.one_state.Goals as goal

pub returns : goal.returns
returns c = same_state
