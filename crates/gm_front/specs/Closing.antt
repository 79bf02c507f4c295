-- Which fault of the bench a call tells, and what a call of a closed bench does.
use Rattle.std.specs.Prelude.{◌≡◌, ℕ, List, Option, Some, None, Result, Ok, Err}
use Rattle.gm_bench.specs.Benches.{progress_of, redone_of}
use Rattle.gm_bench.specs.declared.bench.Bench.{Bench}
use Rattle.gm_bench.specs.declared.fault.BenchFault.{BenchFault}
use Rattle.gm_bench.specs.declared.fault.BenchFault.TheVariants.{Absent, Closed}
use Rattle.gm_bench.specs.declared.phase.Progress.TheVariants.{Failed}
use Rattle.gm_front.specs.declared.answer_lines.BatchEnd.{BatchEnd}
use Rattle.gm_front.specs.declared.answer_lines.BatchEnd.TheVariants.{Ended, Stopped}
use Rattle.gm_front.specs.declared.answer_lines.FrontFault.{FrontFault}
use Rattle.gm_front.specs.declared.outcome.Outcome.{Outcome}
use Rattle.gm_front.specs.declared.outcome.Outcome.TheVariants as outcome

-- the fault of the bench that an outcome tells
abbrev pub outcome_fault : Outcome → Option BenchFault
outcome_fault outcome.Nothing = None
outcome_fault (outcome.Wrong key) = None
outcome_fault (outcome.Answered key answer) = None
outcome_fault (outcome.Failed key fault) = Some fault

-- the one at which a batch stopped
abbrev pub end_fault : Result BatchEnd FrontFault → Option BenchFault
end_fault (Ok (Ended refused)) = None
end_fault (Ok (Stopped fault)) = Some fault
end_fault (Err fault) = None

-- A call that asks a closed bench nothing: a fault `Closed` comes from that alone, and none says
-- that an image is absent.
pub record KeepsClosed {S H : Type 0} (old new : Bench S H)
    (fault : Option BenchFault) : Type 0 where
  pub closed : progress_of old ≡ Failed → new ≡ old
  pub reopen : fault ≡ Some Closed → progress_of old ≡ Failed
  pub absent : (p : List ℕ) → fault ≡ Some (Absent p) → ⊥
  pub redone : redone_of new ≡ redone_of old
