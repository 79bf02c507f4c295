-- What is told of the command that was accepted under a key.
use Rattle.std.specs.Prelude.{ℕ, List, Option, Some, None}
use Rattle.std.specs.String.{string_bytes}
use Rattle.gm_state.specs.Rows.{Tables}
use Rattle.gm_registry.specs.Replies.{IsFree, IsKept}
use Rattle.gm_bench.specs.declared.answer.Kept.{Kept}

-- the command that stands under the key, or that none does
abbrev pub TellsKept : Tables → List ℕ → Option Kept → Type 0
TellsKept t key None = IsFree t key
TellsKept t key (Some kept) = IsKept t key kept.number (string_bytes kept.words) kept.reply
