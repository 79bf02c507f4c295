-- How a line of a batch is answered.
use Rattle.std.specs.Prelude.{ℕ, Bool, true, false, List, ◌++◌, codes}
use Rattle.std.specs.Fmt.{decimal}
use Rattle.gm_state.specs.declared.intents.Reply.{Reply}
use Rattle.gm_state.specs.declared.intents.Reply.TheVariants.{Plain, Copied}
use Rattle.gm_refusals.specs.Refusals.{number_of_call}
use Rattle.gm_rules.specs.AbstractCalls as run
use Rattle.gm_bench.specs.declared.fault.BenchFault.{BenchFault}
use Rattle.gm_bench.specs.Faults.{fault_number}
use Rattle.gm_lines.specs.Asked.{shown}
use Rattle.gm_words.specs.Lines.{line}

-- an answer line: the key, a word and a number
abbrev pub numbered : List ℕ → List ℕ → ℕ → List ℕ
numbered key word n = line (key ++ codes " " ++ word ++ codes " " ++ decimal n)

-- that of a command that was done, with how far a copy is
abbrev pub done_line : List ℕ → ℕ → Reply → List ℕ
done_line key n Plain = numbered key (codes "ok") n
done_line key n (Copied held total) =
    line (key ++ codes " ok " ++ decimal n ++ codes " copied " ++ decimal held ++ codes " of "
    ++ decimal total)

abbrev pub refusal_line : List ℕ → ℕ → List ℕ
refusal_line key n = numbered key (codes "refused") n

abbrev pub fault_line : List ℕ → BenchFault → List ℕ
fault_line key fault = numbered (shown key) (codes "fault") (fault_number fault)

-- the answer to a command under a key that is shown so
abbrev pub shown_answer : List ℕ → run.Answer → List ℕ
shown_answer key (run.Done n reply) = done_line key n reply
shown_answer key (run.Repeated n reply) = numbered key (codes "repeated") n
shown_answer key (run.Refused why) = refusal_line key (number_of_call why)

abbrev pub answer_line : List ℕ → run.Answer → List ℕ
answer_line key answer = shown_answer (shown key) answer

abbrev pub is_refusal : run.Answer → Bool
is_refusal (run.Done n reply) = false
is_refusal (run.Repeated n reply) = false
is_refusal (run.Refused why) = true
