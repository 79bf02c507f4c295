use Rattle.std.proofs.Common.{◌≡◌}
use Rattle.gm_bench.specs.Benches.{progress_of}
use Rattle.gm_replacing.proofs.keys.left_of.Given as goal

-- the bench is only looked at
abbrev pub invariant-loop-step : goal.invariant-loop-step
invariant-loop-step g l = progress_of l.bench ≡ progress_of l.fn.bench
