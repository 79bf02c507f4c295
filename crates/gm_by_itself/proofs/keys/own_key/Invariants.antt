use Rattle.std.proofs.Common.{◌≡◌}
use Rattle.gm_bench.specs.Benches.{progress_of}
use Rattle.gm_by_itself.proofs.keys.own_key.Given as goal

-- the bench stays as it was
abbrev pub invariant-loop : goal.invariant-loop
invariant-loop g l = progress_of l.bench ≡ progress_of l.fn.bench
