use Rattle.gm_metadata.proofs.Common.{◌≡◌, ◌≤◌, ◌-◌, ◌%◌, take}
use Rattle.gm_metadata.proofs.equality.same.Given as goal

abbrev pub invariant-loop-at : goal.invariant-loop-at
invariant-loop-at l = record {
  within : l.at ≤ 512;
  whole : l.at % 64 ≡ 0;
  same : take l.at l.a ≡ take l.at l.b;
}

abbrev pub decreases-loop-at : goal.decreases-loop-at
decreases-loop-at l = 512 - l.at
