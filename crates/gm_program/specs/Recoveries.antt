-- What is told of a recovery.
use Rattle.std.specs.Prelude.{ℕ, ◌++◌, ◌∷◌, List, [], Ok, Err, codes}
use Rattle.std.specs.Fmt.{decimal}
use Rattle.gm_refusals.specs.Refusals.{number_of_call}
use Rattle.gm_bench.specs.declared.answer.Answer.{Answer}
use Rattle.gm_bench.specs.declared.answer.Answer.TheVariants as answer
use Rattle.gm_bench.specs.declared.loss.LossRefusal.{LossRefusal}
use Rattle.gm_bench.specs.Without.{number_of_loss}
use Rattle.gm_lines.specs.Asked.{shown}
use Rattle.gm_front.specs.Losses.{loss_line}
use Rattle.gm_json.specs.declared.keyed.Acceptance.TheVariants.{Now, Before}
use Rattle.gm_json.specs.Keyed.{keyed_refused_json, recovered_without_json}

-- the line of a recovery
abbrev pub recovered_text : ℕ → List ℕ
recovered_text redone = codes "recovered " ++ decimal redone ++ 10 ∷ []

-- the lines of a recovery without a provider: what its loss is answered, and the recovery's own
abbrev pub without_text : List ℕ → Answer → ℕ → List ℕ
without_text key answer redone = loss_line key (Ok answer) ++ recovered_text redone

-- the line of one that is refused
abbrev pub refused_text : List ℕ → LossRefusal → List ℕ
refused_text key why = loss_line key (Err why)

-- the same as JSON
abbrev pub without_json : List ℕ → Answer → ℕ → List ℕ
without_json key (answer.Done n reply) redone =
    recovered_without_json Now (shown key) redone n
without_json key (answer.Repeated n reply) redone =
    recovered_without_json Before (shown key) redone n
without_json key (answer.Refused why) redone =
    keyed_refused_json (shown key) (number_of_call why)

abbrev pub refused_json : List ℕ → LossRefusal → List ℕ
refused_json key why = keyed_refused_json (shown key) (number_of_loss why)
