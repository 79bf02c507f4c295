use Rattle.gm_sync.proofs.Common.{progress_of, TakesNext, FillsByOn, FillsOn, GoesOnTo, IsAdvanceOf}
use Rattle.gm_sync.proofs.fill.fill_stretches.Given as goal

-- the bench may be asked, and was only filled, by a call in each turn or more,
-- as many as the number went on by
abbrev pub invariant-loop : goal.invariant-loop
invariant-loop g l = record {
  phase : TakesNext (progress_of l.bench);
  fills : FillsOn g.S.Store g.H.Shelf (IsAdvanceOf l.fn.component) l.fn.bench l.bench;
  many : FillsByOn g.S.Store g.H.Shelf (IsAdvanceOf l.fn.component) l.fn.bench l.bench l.counter;
  numbers : GoesOnTo g.S.Store g.H.Shelf (IsAdvanceOf l.fn.component) l.fn.bench l.bench
      l.fn.number l.number;
}
