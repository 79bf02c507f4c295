use Rattle.gm_apply.proofs.Common.{◌≡◌, ◌<◌, ℕ, sector_of}
use Rattle.gm_apply.proofs.equal_data.equal_first.Given as goal

abbrev pub invariant-loop-index : goal.invariant-loop-index
invariant-loop-index l = (k : ℕ) → k < l.index → sector_of l.a k ≡ sector_of l.b k
