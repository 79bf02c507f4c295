use Rattle.gm_bench.specs.Benches.{progress_of}
use Rattle.gm_bench.specs.Phases.{TakesCommands}
use Rattle.gm_replacing.proofs.replacing.go.Given as goal

-- the bench may be asked
abbrev pub invariant-loop-step : goal.invariant-loop-step
invariant-loop-step g l = TakesCommands (progress_of l.bench)
