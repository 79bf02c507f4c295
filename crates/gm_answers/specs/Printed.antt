-- What is printed of one command.
use Rattle.std.specs.Prelude.{ℕ, ◌++◌, List, [], codes}
use Rattle.gm_bench.specs.Faults.{fault_number}
use Rattle.gm_bench.specs.declared.answer.Answer.{Answer}
use Rattle.gm_bench.specs.declared.answer.Answer.TheVariants.{Done, Repeated, Refused}
use Rattle.gm_command_line.specs.declared.job.Form.{Form}
use Rattle.gm_command_line.specs.declared.job.Form.TheVariants.{Text, Json}
use Rattle.gm_front.specs.Guards.{withheld_text}
use Rattle.gm_front.specs.Outcomes.{text_of}
use Rattle.gm_front.specs.declared.outcome.Outcome.{Outcome}
use Rattle.gm_front.specs.declared.outcome.Outcome.TheVariants as outcome
use Rattle.gm_json.specs.Keyed.{keyed_done_json, keyed_fault_json, keyed_refused_json, keyed_repeated_json, not_done_json, withheld_json}
use Rattle.gm_lines.specs.Asked.{shown}
use Rattle.gm_looks.specs.declared.unlike.Unlike.{Unlike}
use Rattle.gm_refusals.specs.Refusals.{number_of_call}
use Rattle.gm_words.specs.Lines.{line}

-- an answer under a key, as JSON
abbrev pub answer_json : List ℕ → Answer → List ℕ
answer_json key (Done n reply) = keyed_done_json key n reply
answer_json key (Repeated n reply) = keyed_repeated_json key n
answer_json key (Refused why) = keyed_refused_json key (number_of_call why)

-- what a command came to as a line of JSON; nothing if nothing was asked
abbrev pub outcome_line : Outcome → List ℕ
outcome_line outcome.Nothing = []
outcome_line (outcome.Wrong key) = line (keyed_refused_json key.now 1)
outcome_line (outcome.Answered key answer) = line (answer_json (shown key.now) answer)
outcome_line (outcome.Failed key fault) =
    line (keyed_fault_json (shown key.now) (fault_number fault))

-- the same in a form
abbrev pub outcome_form : Outcome → Form → List ℕ
outcome_form it Text = text_of it
outcome_form it Json = outcome_line it

-- the command isn't done, because these images stand in its way
abbrev pub withheld_form : List ℕ → List Unlike → Form → List ℕ
withheld_form key list Text = withheld_text key list
withheld_form key list Json = line (withheld_json (shown key) list)

-- it isn't done
abbrev pub not_done_line : List ℕ → List ℕ
not_done_line key = line (key ++ codes " not done")

-- it isn't done, because data would be lost
abbrev pub not_done_form : List ℕ → Form → List ℕ
not_done_form key Text = not_done_line key
not_done_form key Json = line (not_done_json key)
