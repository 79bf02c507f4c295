use Rattle.gm_apply.proofs.Common.{◌≤◌, ◌-◌, ReadsOnly, IsDifference, IsWithin}
use Rattle.gm_apply.proofs.differing_data.differing_sectors.Given as goal

abbrev pub invariant-loop-place : goal.invariant-loop-place
invariant-loop-place g l =
    let H = g.H.Shelf in
    let old = H.view l.fn.shelf in
    record {
      within : l.place ≤ l.sectors;
      few : IsWithin l.place l.found;
      only : ReadsOnly H l.fn.shelf l.shelf;
      told : H.honest l.fn.shelf
          → IsDifference (old.seen l.source) (old.seen l.provider) l.place l.found;
    }

abbrev pub decreases-loop-place : goal.decreases-loop-place
decreases-loop-place g l = l.sectors - l.place
