use Rattle.gm_apply.proofs.Common.{◌≡◌, ◌≤◌, ◌⊎◌, ◌-◌, Same, Keeps, copies, Copy, with_places, IsUnderWay}
use Rattle.gm_apply.proofs.copy.copy_runs.Given as goal

abbrev pub invariant-loop-place : goal.invariant-loop-place
invariant-loop-place g l =
    let H = g.H.Shelf in
    let old = H.view l.fn.shelf in
    record {
      low : l.first ≤ l.place;
      reach : (l.place ≤ l.end) ⊎ (l.place ≡ l.first);
      keeps : Keeps H l.fn.shelf l.shelf;
      going : H.honest l.fn.shelf
          → IsUnderWay (copies (Copy l.source l.target l.first l.end))
          (λ q j. old.seen l.source j) old (H.view l.shelf);
      seen : H.honest l.fn.shelf
          → Same (H.view l.shelf).seen
          (with_places (copies (Copy l.source l.target l.first l.place))
          (λ q j. old.seen l.source j) old.seen);
    }

abbrev pub decreases-loop-place : goal.decreases-loop-place
decreases-loop-place g l = l.end - l.place
