use Rattle.gm_lines.proofs.Common.{IfSome_then}
use Rattle.gm_lines.proofs.TakenLines.{next_known, piece_fed, piece_ended, piece_more}
use Rattle.gm_lines.proofs.lines.take_line.Goals as goal

pub returns-in-Nothing-clause-line : goal.returns-in-Nothing-clause-line
returns-in-Nothing-clause-line g c =
    let took = rw c.in-Nothing.is at c.in_ok-taken.ensures.piece in
    piece_ended _ _ _ _ _ _ _ c.loop.invariant took c.ended.ensures

pub returns-in-Feed-clause-line : goal.returns-in-Feed-clause-line
returns-in-Feed-clause-line g c =
    let took = rw c.in-Feed.is at c.in_ok-taken.ensures.piece in
    piece_fed _ _ _ _ _ _ _ c.loop.invariant took c.found.ensures

pub returns-in-Feed-clause-next : goal.returns-in-Feed-clause-next
returns-in-Feed-clause-next g c =
    IfSome_then c.in_ok-taken.taken.next c.in_ok-taken.ensures.next
    (λ it is. next_known _ _ _ _ it c.loop.invariant.consumed is)

pub loop-preserved : goal.loop-preserved
loop-preserved g c =
    let took = rw c.in-Bytes.is at c.in_ok-taken.ensures.piece in
    piece_more _ _ _ _ _ _ _ c.loop.invariant took
