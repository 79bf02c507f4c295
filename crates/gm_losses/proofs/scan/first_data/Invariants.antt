use Rattle.gm_losses.proofs.Common.{◌≤◌, ◌-◌, ReadsOnly, AreBlank}
use Rattle.gm_losses.proofs.scan.first_data.Given as goal

abbrev pub invariant-loop-place : goal.invariant-loop-place
invariant-loop-place g l =
    let H = g.H.Shelf in
    let old = H.view l.fn.shelf in
    record {
      within : l.place ≤ l.sectors;
      only : ReadsOnly H l.fn.shelf l.shelf;
      blank : H.honest l.fn.shelf → AreBlank (old.seen l.provider) l.place;
    }

abbrev pub decreases-loop-place : goal.decreases-loop-place
decreases-loop-place g l = l.sectors - l.place
