use Rattle.gm_apply.proofs.Common.{◌≡◌, ◌≤◌, sector_of, count_differing}
use Rattle.gm_apply.proofs.differing_data.count_differing.Given as goal

abbrev pub invariant-loop-index : goal.invariant-loop-index
invariant-loop-index l = record {
  within : l.sectors ≤ l.index;
  count : l.sectors ≡ count_differing (sector_of l.a) (sector_of l.b) l.index;
}
