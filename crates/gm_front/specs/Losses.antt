-- How a loss is told with which a bench is opened.
use Rattle.std.specs.Prelude.{ℕ, List, Result, Ok, Err}
use Rattle.gm_bench.specs.declared.answer.Answer.{Answer}
use Rattle.gm_bench.specs.declared.loss.LossRefusal.{LossRefusal}
use Rattle.gm_bench.specs.Running.{answer_of}
use Rattle.gm_bench.specs.Without.{number_of_loss}
use Rattle.gm_lines.specs.Asked.{shown}
use Rattle.gm_front.specs.Told.{answer_line, refusal_line}

-- the line for its answer, or for its refusal
abbrev pub loss_line : List ℕ → Result Answer LossRefusal → List ℕ
loss_line key (Ok answer) = answer_line key (answer_of answer)
loss_line key (Err why) = refusal_line (shown key) (number_of_loss why)
