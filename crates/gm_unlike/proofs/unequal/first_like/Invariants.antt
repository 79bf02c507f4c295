use Rattle.std.proofs.Common.{take}
use Rattle.gm_lists.specs.Ordered.{Has}
use Rattle.gm_shelf.specs.Keeping.{ReadsOnly}
use Rattle.gm_unlike.specs.Unequals.{HoldSame, MayBeLike}
use Rattle.gm_unlike.specs.declared.unequal.Unequal.{Unequal}
use Rattle.gm_unlike.proofs.unequal.first_like.Given as goal

abbrev pub invariant-loop-known : goal.invariant-loop-known
invariant-loop-known g l =
    let H = g.H.Shelf in
    record {
      only : ReadsOnly H l.fn.shelf l.shelf;
      none : H.honest l.fn.shelf → (x : Unequal) → Has (take l.known-index l.list) x
          → MayBeLike x l.new
          → HoldSame (H.size l.fn.shelf) (H.view l.fn.shelf).seen l.sectors x.provider
          l.new.provider → ⊥;
    }
