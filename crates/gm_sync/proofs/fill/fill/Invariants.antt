use Rattle.gm_sync.proofs.Common.{progress_of, TakesCommands, Fills, FillsBy, IsAdvanceIn, IsStill}
use Rattle.gm_sync.proofs.fill.fill.Given as goal

-- the bench may be asked, and was only filled, by a call in each turn, and that only if something
-- was to be filled
abbrev pub invariant-loop : goal.invariant-loop
invariant-loop g l = record {
  phase : TakesCommands (progress_of l.bench);
  fills : Fills g.S.Store g.H.Shelf (IsAdvanceIn l.fn.due) l.fn.bench l.bench;
  many : FillsBy g.S.Store g.H.Shelf (IsAdvanceIn l.fn.due) l.fn.bench l.bench l.counter;
  still : IsStill g.S.Store g.H.Shelf l.fn.bench l.bench l.fn.due;
}
