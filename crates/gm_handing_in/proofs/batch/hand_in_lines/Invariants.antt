use Rattle.std.proofs.Common.{◌≡◌, length}
use Rattle.gm_bench.specs.Benches.{progress_of}
use Rattle.gm_bench.specs.Phases.{TakesCommands}
use Rattle.gm_handing_in.proofs.batch.hand_in_lines.Given as goal

-- the bench may be asked, and there is room for a line
abbrev pub invariant-loop : goal.invariant-loop
invariant-loop g l = record {
  phase : TakesCommands (progress_of l.bench);
  room : length l.room ≡ 131072;
}
