use Rattle.gm_losses.proofs.Common.{◌≡◌, take, filter_map, ReadsOnly}
use Rattle.gm_losses.proofs.IntactFound.{intact_as}
use Rattle.gm_losses.proofs.intact.losses_of_lost.Given as goal

abbrev pub invariant-loop-component : goal.invariant-loop-component
invariant-loop-component g l =
    let H = g.H.Shelf in
    let old = H.view l.fn.shelf in
    record {
      only : ReadsOnly H l.fn.shelf l.shelf;
      told : H.honest l.fn.shelf
          → l.list.items ≡ filter_map (intact_as l.fn.state (H.size l.fn.shelf) old.seen l.named)
          (take l.component-index l.component-items);
    }
