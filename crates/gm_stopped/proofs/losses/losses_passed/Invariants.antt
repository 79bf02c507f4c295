use Rattle.gm_stopped.proofs.Common.{◌≡◌, drop}
use Rattle.gm_stopped.specs.Losses.{stopped_after, stopped_by}
use Rattle.gm_stopped.proofs.losses.losses_passed.Given as goal

abbrev pub invariant-loop-command : goal.invariant-loop-command
invariant-loop-command l = record {
  counted : l.passed ≡ l.command-index;
  walked : stopped_by l.fn.state l.fn.intents l.commands
      ≡ stopped_after l.fn.state l.left l.passed (drop l.command-index l.commands);
}
