use Rattle.gm_state.proofs.SameRows.{same_answer}
use Rattle.gm_state.proofs.laws.one_row.Goals as goal

pub returns-clause-answer : goal.returns-clause-answer
returns-clause-answer c = same_answer
