-- What a line of a batch asks.
use Rattle.std.specs.Prelude.{◌≡◌, ◌==◌, ℕ, not, nat_lt, List, [], ◌∷◌, codes, filter, length, take, Option, Some, None, IfSome, OnSome, if◌then◌else◌}
use Rattle.std.specs.List.{slice_split}
use Rattle.std.specs.Str.{is_utf8}
use Rattle.gm_commands.specs.declared.command.Command.{Command}
use Rattle.gm_commands.specs.Commands.{is_key}
use Rattle.gm_words.specs.Spelling.{spelled}
use Rattle.gm_lines.specs.Input.{BeginsWith}
use Rattle.gm_lines.specs.declared.ahead.Ahead.{Ahead}
use Rattle.gm_lines.specs.declared.request.Request.{Request}
use Rattle.gm_lines.specs.declared.request.Request.TheVariants as request
use Rattle.gm_lines.specs.declared.lines.Line.{Line}
use Rattle.gm_lines.specs.declared.lines.Line.TheVariants.{End, Whole, Long}

-- what a line asks: nothing, no command under what stands for its key, or a command under a key
pub data Asked : Type 0 where
  Nothing : Asked
  Wrong : List ℕ → Asked
  Call : List ℕ → Command → Asked

-- what stands between spaces, without what is empty
abbrev pub pieces : List ℕ → List (List ℕ)
pieces text = filter (λ piece. not (length piece == 0)) (slice_split (λ b. b == 32) text)

-- a key as answers show it
abbrev pub shown : List ℕ → List ℕ
shown key = if is_key key then key else codes "?"

-- the first piece is the key, the others are the words
abbrev pub called : List ℕ → Option Command → Asked
called key None = Wrong (shown key)
called key (Some command) = Call key command

abbrev pub asked_by : List (List ℕ) → Asked
asked_by [] = Nothing
asked_by (key ∷ words) = called key (spelled words)

-- a line of more than 131,072 bytes, or not in UTF-8, is no command
unfoldable pub asked : List ℕ → Asked
asked text = if nat_lt 131072 (length text) then Wrong (codes "?")
    else if is_utf8 text then asked_by (pieces text) else Wrong (codes "?")

-- what a request asks
abbrev pub asked_of : Request → Asked
asked_of request.Nothing = Nothing
asked_of (request.Wrong key) = Wrong key.now
asked_of (request.Call key command) = Call key.now command

-- what the line asks that was found at the front of an input
abbrev pub asked_at : List ℕ → Line → Asked
asked_at line End = Nothing
asked_at line (Whole n) = asked (take n line)
asked_at line Long = Wrong (codes "?")

-- a command that was read ahead: its line asks it, under a key
abbrev pub IsAhead : Ahead → Type 0
IsAhead ahead = (key : List ℕ) × (asked ahead.line.items ≡ Call key ahead.command)

-- it was read at the front of these bytes
abbrev pub IsAheadIn : List ℕ → Ahead → Type 0
IsAheadIn bytes ahead = IsAhead ahead × BeginsWith bytes ahead.line.items

-- it was read at the front of what is left of an input whose bytes are known
abbrev pub IsNext : Option (List ℕ) → Option (List ℕ) → Ahead → Type 0
IsNext input rest ahead =
    IsAhead ahead × OnSome input (IfSome rest (λ bytes. BeginsWith bytes ahead.line.items))
