use Rattle.std.proofs.Common.{◌≡◌, drop}
use Rattle.gm_ways.specs.Ways.{first_command}
use Rattle.gm_ways.proofs.way.first_command.Given as goal

abbrev pub invariant-loop-step : goal.invariant-loop-step
invariant-loop-step l = first_command l.steps ≡ first_command (drop l.step-index l.steps)
