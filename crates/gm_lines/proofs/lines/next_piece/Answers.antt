use Rattle.gm_lines.proofs.Common.{refl, [], append-nil, drop, le_of_eq, length-drop, subst, take, take_all, Consumes-nil, Consumes-kept, IfSome_then, FillKeeps, IsAheadIn}
use Rattle.std.proofs.BufReadLemmas.{Consumes_shown}
use Rattle.gm_lines.proofs.TakenLines.{nothing_ready, ended_where, shown_next}
use Rattle.gm_lines.proofs.lines.next_piece.Goals as goal

pub returns-in-Err-clause-piece : goal.returns-in-Err-clause-piece
returns-in-Err-clause-piece g c =
    let kept = c.fill_buf.follows.holds-at-none.0 in
    record {
      bytes = [];
      consumed = Consumes-kept _ _ _ [] (Consumes-nil _) kept;
      taken = (refl, λ seen copied. rw (append-nil seen) copied);
      end = tt;
    }

pub returns-clause-piece : goal.returns-clause-piece
returns-clause-piece g c =
    let length = c.piece_length-length in
    let ready = c.in-Ok.ready.now in
    let rested = c.fill_buf.follows.lender-at-none in
    let rests = FillKeeps _ (g.R.Read.remaining rested) (g.R.BufRead.consumable_len rested) in
    let filled = subst rests c.in-Ok.is c.fill_buf.follows.holds-at-none in
    let moved = Consumes_shown _ _ _ _ ready length.result length.ensures.bound
    c.in-Ok.ensures.front c.in-Ok.ensures.end filled.0 filled.1 c.consume.ensures.bytes in
    record {
      bytes = take length.result ready;
      consumed = moved.0;
      taken = c.taken-piece.ensures;
      end = ended_where _ _ _ _ _ _ c.taken-piece.ensures
          (λ none. moved.1 (nothing_ready ready length.result length.ensures.some none));
    }

pub returns-clause-next : goal.returns-clause-next
returns-clause-next g c =
    let length = c.piece_length-length in
    let ready = c.in-Ok.ready.now in
    let rested = c.fill_buf.follows.lender-at-none in
    let rests = FillKeeps _ (g.R.Read.remaining rested) (g.R.BufRead.consumable_len rested) in
    let filled = subst rests c.in-Ok.is c.fill_buf.follows.holds-at-none in
    let moved = Consumes_shown _ _ _ _ ready length.result length.ensures.bound
    c.in-Ok.ensures.front c.in-Ok.ensures.end filled.0 filled.1 c.consume.ensures.bytes in
    let behind = take_all _ (drop length.result ready)
    (le_of_eq (length-drop length.result ready)) in
    IfSome_then c.next_of-next.result c.next_of-next.ensures
    (λ it is. shown_next _ _ ready length.result it c.in-Ok.ensures.front moved.0
    (subst (λ xs. IsAheadIn xs it) behind is))
