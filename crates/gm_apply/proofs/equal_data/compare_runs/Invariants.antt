use Rattle.gm_apply.proofs.Common.{◌≤◌, ◌-◌, ReadsOnly}
use Rattle.gm_apply.proofs.EqualSectors.{AreEqualBelow}
use Rattle.gm_apply.proofs.equal_data.compare_runs.Given as goal

abbrev pub invariant-loop-place : goal.invariant-loop-place
invariant-loop-place g l =
    let H = g.H.Shelf in
    let old = H.view l.fn.shelf in
    record {
      within : l.place ≤ l.reach;
      only : ReadsOnly H l.fn.shelf l.shelf;
      equal : H.honest l.fn.shelf → AreEqualBelow old.seen l.source l.provider l.place;
    }

abbrev pub decreases-loop-place : goal.decreases-loop-place
decreases-loop-place g l = l.reach - l.place
