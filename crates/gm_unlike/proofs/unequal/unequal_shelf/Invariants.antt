use Rattle.std.proofs.Common.{◌≡◌, map, take}
use Rattle.gm_lists.specs.Ordered.{Has}
use Rattle.gm_shelf.specs.Keeping.{ReadsOnly}
use Rattle.gm_state.specs.Records.{IsState}
use Rattle.gm_unlike.proofs.Grouped.{AreGrouped}
use Rattle.gm_unlike.specs.Unequals.{HoldSame, by_itself, scrubbed, sectors_in}
use Rattle.gm_unlike.specs.declared.unequal.Unequal.{Unequal}
use Rattle.gm_unlike.proofs.unequal.unequal_shelf.Given as goal

abbrev pub invariant-loop-found : goal.invariant-loop-found
invariant-loop-found g l =
    let H = g.H.Shelf in
    let size = H.size l.fn.shelf in
    let seen = (H.view l.fn.shelf).seen in
    record {
      only : ReadsOnly H l.fn.shelf l.shelf;
      state : (e : Unequal) → Has l.list.items e → IsState l.state;
      flaws : map scrubbed l.list.items ≡ take l.found-index l.flaws;
      each : (e : Unequal) → Has l.list.items e
          → e ≡ record (by_itself l.state (scrubbed e)) { like = e.like };
      grouped : H.honest l.fn.shelf
          → AreGrouped (λ m. HoldSame size seen (sectors_in l.state m)) l.list.items;
    }
