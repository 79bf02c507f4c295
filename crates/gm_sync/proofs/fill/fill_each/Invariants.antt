use Rattle.gm_sync.proofs.Common.{◌≡◌, ◌⊎◌, ◌<◌, ℕ, Some, false, slice_get, Component, progress_of, TakesCommands, Fills, FillsBy, IsAdvanceIn, is_next}
use Rattle.gm_sync.proofs.fill.fill_each.Given as goal

-- the bench may be asked, and was only filled, by a call unless nothing was to be filled
abbrev pub invariant-loop-component : goal.invariant-loop-component
invariant-loop-component g l = record {
  phase : TakesCommands (progress_of l.bench);
  fills : Fills g.S.Store g.H.Shelf (IsAdvanceIn l.fn.due) l.fn.bench l.bench;
  some : ((k : ℕ) (x : Component) → k < l.component-index
      → slice_get l.component-items k ≡ Some x → is_next l.fn.due l.fn.state x ≡ false)
      ⊎ FillsBy g.S.Store g.H.Shelf (IsAdvanceIn l.fn.due) l.fn.bench l.bench 1;
}
