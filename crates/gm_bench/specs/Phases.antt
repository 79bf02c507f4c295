-- How far a bench is with a command, and what it may be asked then.
use Rattle.std.specs.Prelude.{◌≡◌, ◌⊎◌, ℕ, List, length}
use Rattle.gm_rules.specs.AbstractCalls.{Call}
use Rattle.gm_bench.specs.declared.answer.SeriesAnswer.{SeriesAnswer}
use Rattle.gm_bench.specs.declared.answer.Accepted.{Accepted}
use Rattle.gm_bench.specs.declared.answer.Accepted.TheVariants as accepted
use Rattle.gm_bench.specs.declared.answer.Answer.{Answer}
use Rattle.gm_bench.specs.declared.answer.Answer.TheVariants.{Done, Repeated, Refused}
use Rattle.gm_bench.specs.declared.phase.Phase.{Phase}
use Rattle.gm_bench.specs.declared.phase.Phase.TheVariants as phase
use Rattle.gm_bench.specs.declared.phase.Progress.{Progress}
use Rattle.gm_bench.specs.declared.phase.Progress.TheVariants.{Ready, Pending, Applied, Failed}
use Rattle.gm_bench.specs.declared.phase.Waiting.{Waiting}
use Rattle.gm_bench.specs.declared.phase.Waiting.TheVariants as waiting

-- the phase that a caller sees
abbrev pub phase_of : Progress → Phase
phase_of Ready = phase.Ready
phase_of (Pending work) = phase.Pending
phase_of (Applied work) = phase.Applied
phase_of Failed = phase.Failed

-- what a caller is answered
abbrev pub answer_of : Accepted → Answer
answer_of (accepted.Done n count reply work) = Done n reply
answer_of (accepted.Repeated n reply) = Repeated n reply
answer_of (accepted.Refused why) = Refused why

-- and how many commands were accepted
abbrev pub count_of : Accepted → ℕ
count_of (accepted.Done n count reply work) = count
count_of (accepted.Repeated n reply) = 0
count_of (accepted.Refused why) = 0

abbrev pub series_answer_of : Accepted → SeriesAnswer
series_answer_of a = record { answer = answer_of a; count = count_of a }

-- so many of these calls are done if they are answered so: all, or none
abbrev pub IsCountBy : List Call → Answer → ℕ → Type 0
IsCountBy calls (Done n reply) count = length calls ≡ count
IsCountBy calls (Repeated n reply) count = count ≡ 0
IsCountBy calls (Refused why) count = count ≡ 0

abbrev pub IsCountOf : List Call → SeriesAnswer → Type 0
IsCountOf calls a = IsCountBy calls a.answer a.count

-- how far a bench is after an answer that was so far before
abbrev pub progress_after : Progress → Accepted → Progress
progress_after before (accepted.Done n count reply work) = Pending work
progress_after before (accepted.Repeated n reply) = before
progress_after before (accepted.Refused why) = before

-- the phase that a caller sees then
abbrev pub phase_after : Phase → Answer → Phase
phase_after before (Done n reply) = phase.Pending
phase_after before (Repeated n reply) = before
phase_after before (Refused why) = before

-- the phase after it is carried out
abbrev pub phase_carried : Phase → Answer → Phase
phase_carried before (Done n reply) = phase.Applied
phase_carried before (Repeated n reply) = before
phase_carried before (Refused why) = before

-- Nothing was done: the command was repeated or refused.
abbrev pub IsUndone : Answer → Type 0
IsUndone a = phase_after phase.Ready a ≡ phase.Ready

-- what waits to be settled, of a bench that takes a command
abbrev pub waiting_of : Progress → Waiting
waiting_of (Applied work) = waiting.Done
waiting_of _ = waiting.Nothing

-- a command may be handed in
abbrev pub TakesCommands : Progress → Type 0
TakesCommands p = (phase_of p ≡ phase.Ready) ⊎ (phase_of p ≡ phase.Failed)

-- a command may be handed in that settles the last one as well
abbrev pub TakesNext : Progress → Type 0
TakesNext p = TakesCommands p ⊎ (phase_of p ≡ phase.Applied)

-- it may be asked to carry out what it accepted
abbrev pub HasWork : Progress → Type 0
HasWork p = (phase_of p ≡ phase.Pending) ⊎ (phase_of p ≡ phase.Failed)

-- it may be asked to settle what it carried out
abbrev pub HasDone : Progress → Type 0
HasDone p = (phase_of p ≡ phase.Applied) ⊎ (phase_of p ≡ phase.Failed)
