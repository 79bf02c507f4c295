use Rattle.gm_state.proofs.SameRows.{same_reply}
use Rattle.gm_state.proofs.laws.one_reply.Goals as goal

pub returns : goal.returns
returns c = same_reply
