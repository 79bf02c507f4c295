use Rattle.gm_state.proofs.Common.{◌≡◌, drop, None, best_of}
use Rattle.gm_state.proofs.copy_source.best_in.Given as goal

abbrev pub invariant-loop-k : goal.invariant-loop-k
invariant-loop-k l = best_of l.target l.best (drop l.k-index l.components)
    ≡ best_of l.target None l.components
