use Rattle.gm_losses.proofs.Common.{◌≡◌, drop, find, is_adopted}
use Rattle.gm_losses.proofs.left_images.adopted_among.Given as goal

abbrev pub invariant-loop-group : goal.invariant-loop-group
invariant-loop-group g l = record {
  same : l.shelf ≡ l.fn.shelf;
  found : find (is_adopted l.name l.providers) l.groups
      ≡ find (is_adopted l.name l.providers) (drop l.group-index l.groups);
}
