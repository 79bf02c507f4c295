use Rattle.std.proofs.Common.{◌≡◌}
use Rattle.gm_commands.specs.declared.command.Command.TheVariants.{Advance}
use Rattle.gm_refusals.specs.Seen.{seen_in}
use Rattle.gm_ways.specs.Judged.{Repeats}
use Rattle.gm_ways.proofs.judging.filled.Given as goal

abbrev pub invariant-loop : goal.invariant-loop
invariant-loop l = record {
  count : l.passed.commands ≡ l.counter;
  leads : Repeats (seen_in l.facts) (Advance l.exchange.mirror l.exchange.new) l.counter
      l.fn.state l.passed.state;
}
