use Rattle.gm_front.proofs.Common.{◌≡◌, ◌≢◌, Failed, TakesNext}
use Rattle.gm_front.proofs.Heard.{HeardSoFar}
use Rattle.gm_front.proofs.ReadAhead.{IsFollowed}
use Rattle.gm_front.proofs.Turns.{Going}
use Rattle.gm_front.proofs.answer_lines.answer_lines.Given as goal

abbrev pub invariant-loop : goal.invariant-loop
invariant-loop g l = record {
  going : Going g.S.Store g.H.Shelf g.H.Shelf.honest l.bench.progress
      (g.R.Read.remaining l.fn.reader) (g.R.Read.remaining l.reader)
      (g.W.Write.contents l.fn.writer) (g.W.Write.contents l.writer) l.fn.bench.media.registry
      l.bench.media.registry l.fn.bench.media.shelf l.bench.media.shelf l.refused;
  heard : HeardSoFar (g.R.Read.remaining l.fn.reader) (g.R.Read.remaining l.reader)
      (g.W.Write.contents l.fn.writer) (g.W.Write.contents l.writer)
      (g.L.Listener.heard l.fn.listener) (g.L.Listener.heard l.listener);
  takes : TakesNext l.bench.progress;
  goes_on : l.fn.bench.progress ≢ Failed → l.bench.progress ≢ Failed;
  redone : l.bench.redone ≡ l.fn.bench.redone;
  closed : l.fn.bench.progress ≡ Failed → l.bench ≡ l.fn.bench;
  followed : IsFollowed (g.R.Read.remaining l.fn.reader) (g.R.Read.remaining l.reader)
      l.bench.progress l.next;
}
