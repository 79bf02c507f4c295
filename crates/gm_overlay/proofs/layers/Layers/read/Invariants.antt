use Rattle.std.proofs.Common.{◌<◌, ◌≤◌, length}
use Rattle.gm_overlay.proofs.layers.Layers.read.Given as goal

abbrev pub invariant-loop : goal.invariant-loop
invariant-loop l = (0 < l.done) × (l.done ≤ length l.out)
