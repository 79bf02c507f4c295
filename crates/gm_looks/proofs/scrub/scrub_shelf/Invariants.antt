use Rattle.gm_looks.proofs.Common.{take, ReadsOnly}
use Rattle.gm_looks.proofs.ScrubbedSoFar.{ScrubbedSoFar}
use Rattle.gm_looks.proofs.scrub.scrub_shelf.Given as goal

abbrev pub invariant-loop-component : goal.invariant-loop-component
invariant-loop-component g l =
    let H = g.H.Shelf in
    let old = H.view l.fn.shelf in
    record {
      only : ReadsOnly H l.fn.shelf l.shelf;
      listed : H.honest l.fn.shelf
          → ScrubbedSoFar l.fn.state (H.size l.fn.shelf) old.seen l.fn.asked
          (take l.component-index l.fn.state.components) l.list.items;
    }
