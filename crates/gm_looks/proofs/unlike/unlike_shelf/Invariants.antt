use Rattle.gm_looks.proofs.Common.{take, ReadsOnly, is_meant}
use Rattle.gm_looks.proofs.UnlikeSoFar.{Listed}
use Rattle.gm_looks.proofs.unlike.unlike_shelf.Given as goal

abbrev pub invariant-loop-component : goal.invariant-loop-component
invariant-loop-component g l =
    let H = g.H.Shelf in
    let old = H.view l.fn.shelf in
    record {
      only : ReadsOnly H l.fn.shelf l.shelf;
      listed : H.honest l.fn.shelf
          → Listed (is_meant l.fn.meant) l.fn.state (H.size l.fn.shelf) old.seen
          (take l.component-index l.fn.state.components) l.list.items;
    }
