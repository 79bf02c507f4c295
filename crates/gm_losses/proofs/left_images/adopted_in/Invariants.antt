use Rattle.gm_losses.proofs.Common.{◌≡◌, take, filter_map, ReadsOnly, adopted_as}
use Rattle.gm_losses.proofs.left_images.adopted_in.Given as goal

abbrev pub invariant-loop-member : goal.invariant-loop-member
invariant-loop-member g l =
    let H = g.H.Shelf in
    let old = H.view l.fn.shelf in
    record {
      only : ReadsOnly H l.fn.shelf l.shelf;
      told : H.honest l.fn.shelf → l.list.items
          ≡ filter_map (adopted_as (H.size l.fn.shelf) old.seen l.members l.providers
          l.sources.items) (take l.member-index l.members);
    }
