use Rattle.gm_bench.specs.Benches.{progress_of}
use Rattle.gm_bench.specs.Phases.{TakesCommands}
use Rattle.gm_renewing.proofs.carried.carry_over.Given as goal

-- the bench may be asked
abbrev pub invariant-loop-mirror : goal.invariant-loop-mirror
invariant-loop-mirror g l = TakesCommands (progress_of l.bench)
