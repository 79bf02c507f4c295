use Rattle.gm_looks.proofs.Common.{take, ReadsOnly}
use Rattle.gm_looks.proofs.ShownSoFar.{ShownSoFar}
use Rattle.gm_looks.proofs.tasting.providers_on.Given as goal

abbrev pub invariant-loop-name : goal.invariant-loop-name
invariant-loop-name g l =
    let H = g.H.Shelf in
    let old = H.view l.fn.shelf in
    record {
      only : ReadsOnly H l.fn.shelf l.shelf;
      shown : H.honest l.fn.shelf
          → ShownSoFar (H.size l.fn.shelf) old.seen (take l.name-index l.name-items)
          l.providers.items;
    }
