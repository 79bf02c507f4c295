use Rattle.std.proofs.Common.{◌≡◌}
use Rattle.gm_bench.specs.Benches.{progress_of}
use Rattle.gm_writing.proofs.standing.standing_of.Given as goal

-- the bench is only looked at
abbrev pub invariant-loop-index : goal.invariant-loop-index
invariant-loop-index g l = progress_of l.bench ≡ progress_of l.fn.bench
