use Rattle.gm_shelf.proofs.Common.{◌≤◌, reverse, take, IsWalked}
use Rattle.gm_shelf.proofs.crash_image.picked_sector.Given as goal

abbrev pub invariant-loop-event : goal.invariant-loop-event
invariant-loop-event l = record {
  slow : l.walk.written ≤ l.event-index;
  walked : IsWalked (reverse (take l.event-index l.log)) l.provider l.place l.pick l.walk;
}
