use Rattle.std.proofs.Common.{◌≡◌, ◌<◌, ◌^◌, ℕ, length}
use Rattle.gm_refusals.specs.Seen.{seen_in}
use Rattle.gm_ways.specs.Judged.{Lead}
use Rattle.gm_ways.proofs.Leading.{AreFound}
use Rattle.gm_ways.proofs.judging.judge.Given as goal

abbrev pub invariant-loop-step : goal.invariant-loop-step
invariant-loop-step l = record {
  length_is : length l.found.items ≡ l.step-index;
  found : AreFound (seen_in l.facts) l.exchange l.did l.steps l.fn.state l.found.items;
  leads : (n : ℕ) × Lead (seen_in l.facts) l.exchange l.did l.steps l.fn.state l.step-index n
      l.state × (n < 2 ^ 64 → l.commands ≡ n);
}
