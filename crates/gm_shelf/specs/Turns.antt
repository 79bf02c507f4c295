-- How the calls to come of a shelf that fails go.
use Rattle.std.specs.Prelude.{◌≡◌, ◌<◌, ℕ, ◌+◌, ◌==◌, max, nat_le, if◌then◌else◌}
use Rattle.gm_shelf.specs.declared.turns.Turn.{Turn}
use Rattle.gm_shelf.specs.declared.turns.Turn.TheVariants.{Passes}
use Rattle.gm_shelf.specs.declared.turns.Plan.{Plan}

-- how the nth call from now goes, counted from 1
abbrev pub turn_at : Plan → ℕ → Turn
turn_at plan n =
    if nat_le n plan.passing then Passes
    else (if n == plan.passing + 1 then plan.next else plan.later)

-- calls before the nth pass, counted from 1, the nth goes in one way and each later one in another;
-- an nth of 0 is as one of 1
pub record AreTurns (nth : ℕ) (turn later : Turn) (turns : ℕ → Turn) : Type 0 where
  pub before : (n : ℕ) → n < nth → turns n ≡ Passes
  pub at_nth : turns (max nth 1) ≡ turn
  pub afterwards : (n : ℕ) → max nth 1 < n → turns n ≡ later
