-- What the system's files say of open files and of loop devices.
use Rattle.std.specs.Prelude.{ℕ, ◌≢◌, ◌<◌, ◌-◌, Bool, ◌&&◌, ◌==◌, nat_eq, List, Option, Some, None, codes, length, take, slice_index, slice_index_or, unwrap_or, if◌then◌else◌}
use Rattle.std.specs.List.{ends_with, list_any, slice_split, starts_with}
use Rattle.std.specs.Str.Lines.{IsFirstLine}

-- the last digit of a number
abbrev pub last_digit : List ℕ → ℕ
last_digit text = slice_index_or text (length text - 1) 0

-- the line has the flags of an open file in octal, whose last two bits aren't 0, as of one that is
-- open for reading alone
abbrev pub says_writing : List ℕ → Bool
says_writing line = starts_with nat_eq line (codes "flags:")
    && list_any (λ digit. digit == last_digit line) (codes "123567")

-- one of the lines says so
abbrev pub is_open_for_writing : List ℕ → Bool
is_open_for_writing info = list_any says_writing (slice_split (λ b. b == 10) info)

-- what comes before an end, if the text has it
abbrev pub before : List ℕ → List ℕ → Option (List ℕ)
before end text =
    if ends_with nat_eq text end then Some (take (length text - length end) text) else None

-- a text without this end, if it has it
abbrev pub without : List ℕ → List ℕ → List ℕ
without end text = unwrap_or (before end text) text

-- the path in the line of a backing file, without what is added if the file has no name any more
abbrev pub backing_path : List ℕ → List ℕ
backing_path text = without (codes " (deleted)") (without (codes "\n") text)

-- the text begins with this line, without what ends it
abbrev pub StartsWithLine : List ℕ → List ℕ → Type 0
StartsWithLine text line = (rest : List ℕ) × IsFirstLine text line rest

-- no byte is a line feed
abbrev pub IsOneLine : List ℕ → Type 0
IsOneLine text = (i : ℕ) → i < length text → slice_index text i ≢ 10
