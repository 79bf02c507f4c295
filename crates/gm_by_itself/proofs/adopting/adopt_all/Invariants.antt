use Rattle.gm_bench.specs.Benches.{progress_of}
use Rattle.gm_bench.specs.Phases.{TakesCommands}
use Rattle.gm_by_itself.proofs.adopting.adopt_all.Given as goal

-- the bench may be asked
abbrev pub invariant-loop-group : goal.invariant-loop-group
invariant-loop-group g l = TakesCommands (progress_of l.bench)
