use Rattle.gm_bench.specs.Benches.{progress_of}
use Rattle.gm_bench.specs.Phases.{TakesCommands}
use Rattle.gm_handing_in.proofs.serving.serve_connections.Given as goal

-- the bench may be asked
abbrev pub invariant-loop-taken : goal.invariant-loop-taken
invariant-loop-taken g l = TakesCommands (progress_of l.bench)
