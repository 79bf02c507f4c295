-- A command that was accepted, as its row has it.
use Rattle.std.specs.Prelude.{◌≡◌, ℕ, pos}
use Rattle.std.specs.String.{string_bytes}
use Rattle.sqlite.specs.Order.{Row, column}
use Rattle.sqlite.specs.declared.types.Value.TheVariants.{Int, Text}
use Rattle.gm_state.specs.Rows.{copied_of, total_of}
use Rattle.gm_history.specs.declared.accepted.Accepted.{Accepted}

-- its number is the one that was asked for, and the row's columns have the rest
pub record IsAccepted (row : Row) (n : ℕ) (a : Accepted) : Type 0 where
  pub number : a.number ≡ n
  pub key : column row 0 ≡ Text (string_bytes a.key)
  pub words : column row 1 ≡ Text (string_bytes a.words)
  pub copied : column row 2 ≡ Int (pos (copied_of a.reply))
  pub total : column row 3 ≡ Int (pos (total_of a.reply))
