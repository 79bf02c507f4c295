use Rattle.std.proofs.Common.{◌≡◌, ◌<◌, ◌≤◌, ℕ, true}
use Rattle.gm_by_itself.specs.Numbers.{is_among}
use Rattle.gm_by_itself.proofs.free_numbers.free_from.Given as goal

-- those before it are taken
abbrev pub invariant-loop-number : goal.invariant-loop-number
invariant-loop-number l =
    (k : ℕ) → l.from ≤ k → k < l.number → is_among l.used k ≡ true
