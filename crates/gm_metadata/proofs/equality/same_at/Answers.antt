use Rattle.gm_metadata.proofs.Common.{arith, ◌≡◌, ◌==◌, not, ℕ, length, take, drop, tops_compared, length-take-le, length-drop, w8}
use Rattle.gm_metadata.proofs.EqualLanes.{same_lanes}
use Rattle.gm_metadata.proofs.equality.same_at.Goals as goal

pub returns : goal.returns
returns c =
    let n : length (take 64 (drop c.args.at c.args.a.now)) ≡ 64 =
    length-take-le _ _ (rw length-drop (omega (arith, c.requires.a_long))) in
    let m : length (take 64 (drop c.args.at c.args.b.now)) ≡ 64 =
    length-take-le _ _ (rw length-drop (omega (arith, c.requires.b_long))) in
    rw (tops_compared w8 (λ (a b : ℕ). not (a == b)) _ _) (same_lanes _ _ n m)
