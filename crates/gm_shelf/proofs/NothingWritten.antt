-- What a pick names if nothing was written.
use Rattle.gm_shelf.proofs.Common.{◌≡◌, ℕ, List, [], min, refl, arith, picked_value}

-- with nothing written, any pick names the synced value
pub picked_none : (s : List ℕ) (pick : ℕ) → picked_value s [] pick ≡ s
picked_none s pick = let e : min pick 0 ≡ 0 = omega arith in rw e refl
