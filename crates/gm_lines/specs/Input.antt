-- The lines of an input, and what stands at its front.
use Rattle.std.specs.Prelude.{◌≡◌, ◌<◌, ◌≤◌, ◌==◌, ◌⊎◌, not, ℕ, Bool, true, List, [], ◌∷◌, ◌++◌, length, take, min, Option, Some, OnSome, if◌then◌else◌}
use Rattle.std.specs.List.{list_all}
use Rattle.std.specs.Io.BufRead.{drop_through}
use Rattle.std.specs.Io.KnownBytes.{Consumes, IsAtEnd}
use Rattle.gm_lines.specs.declared.lines.Line.{Line}
use Rattle.gm_lines.specs.declared.lines.Line.TheVariants.{End, Whole, Long}
use Rattle.gm_lines.specs.declared.lines.Piece.{Piece}
use Rattle.gm_lines.specs.declared.lines.Piece.TheVariants.{Nothing, Feed, Bytes}

-- the bytes before the first line feed
abbrev pub line_at : List ℕ → List ℕ
line_at [] = []
line_at (b ∷ bytes) = if b == 10 then [] else b ∷ line_at bytes

-- no byte is a line feed
abbrev pub is_one_line : List ℕ → Bool
is_one_line bytes = list_all (λ b. not (b == 10)) bytes

-- bytes begin with a line and its line feed
abbrev pub BeginsWith : List ℕ → List ℕ → Type 0
BeginsWith bytes line = (is_one_line line ≡ true) × (more : List ℕ) × (bytes ≡ line ++ 10 ∷ more)

-- a byte goes onto the first line of the rest
abbrev pub onto : ℕ → List (List ℕ) → List (List ℕ)
onto b [] = (b ∷ []) ∷ []
onto b (line ∷ lines) = (b ∷ line) ∷ lines

-- the lines, cut at line feeds; the last may lack one
unfoldable pub lines_of : List ℕ → List (List ℕ)
lines_of [] = []
lines_of (b ∷ bytes) = if b == 10 then [] ∷ lines_of bytes else onto b (lines_of bytes)

-- a whole line has at most 131,072 bytes
abbrev pub Fits : Line → Type 0
Fits End = Unit {0}
Fits (Whole n) = n ≤ 131072
Fits Long = Unit {0}

-- nothing was left; or the first line was taken with its line feed, and stands in the buffer, or is
-- longer than that
abbrev pub IsLine : List ℕ → Option (List ℕ) → List ℕ → Line → Type 0
IsLine bytes rest line End = (bytes ≡ []) × (rest ≡ Some [])
IsLine bytes rest line (Whole n) = (0 < length bytes) × (n ≤ 131072) × (take n line ≡ line_at bytes)
    × (rest ≡ Some (drop_through 10 bytes))
IsLine bytes rest line Long = (131072 < length (line_at bytes))
    × (rest ≡ Some (drop_through 10 bytes))

-- the front of the buffer is what was seen, whose bytes are counted up to 131,073
pub record IsCopied (line : List ℕ) (count : ℕ) (seen : List ℕ) : Type 0 where
  pub counted : count ≡ min (length seen) 131073
  pub copied : count ≤ 131072 → take count line ≡ seen

-- a line feed alone, or bytes of one line
abbrev pub IsPiece : List ℕ → Type 0
IsPiece bytes = (bytes ≡ 10 ∷ []) ⊎ (is_one_line bytes ≡ true)

-- no bytes are the end; a line feed leaves the line; others are put after what was seen of it
abbrev pub IsTaken : List ℕ → List ℕ → List ℕ → ℕ → Piece → Type 0
IsTaken bytes line copied count Nothing = (bytes ≡ []) × (copied ≡ line)
IsTaken bytes line copied count Feed = (bytes ≡ 10 ∷ []) × (copied ≡ line)
IsTaken bytes line copied count (Bytes n) = (is_one_line bytes ≡ true)
    × ((seen : List ℕ) → IsCopied line count seen → IsCopied copied n (seen ++ bytes))

-- P, if the input has ended
abbrev pub WhereEnded : Piece → Type 0 → Type 0
WhereEnded Nothing P = P
WhereEnded Feed P = Unit {0}
WhereEnded (Bytes n) P = Unit {0}

-- a piece was taken of an input to a line; none only at the end
pub record TakesPiece (old new : Option (List ℕ)) (line copied : List ℕ) (count : ℕ)
    (piece : Piece) : Type 0 where
  pub bytes : List ℕ
  pub consumed : Consumes old new bytes
  pub taken : IsTaken bytes line copied count piece
  pub end : WhereEnded piece (OnSome old (IsAtEnd new))

-- a line, as far as it was read
pub record Begins (old new : Option (List ℕ)) (line : List ℕ) (count : ℕ) : Type 0 where
  pub seen : List ℕ
  pub consumed : Consumes old new seen
  pub is_one : is_one_line seen ≡ true
  pub copied : IsCopied line count seen
