-- What is answered of the accepted commands.
use Rattle.std.specs.Prelude.{◌≡◌, ◌⊎◌, ◌≤◌, ◌<◌, ◌^◌, IsUtf8, ℕ, Bool, pos, ◌==◌, ◌&&◌, List, [], ◌∷◌, filter, length, if◌then◌else◌}
use Rattle.std.specs.Str.{bytes_eq}
use Rattle.sqlite.specs.declared.types.Value.TheVariants.{Int, Text}
use Rattle.sqlite.specs.Order.{Row}
use Rattle.gm_state.specs.declared.intents.Reply.{Reply}
use Rattle.gm_state.specs.declared.intents.Reply.TheVariants.{Plain, Copied}
use Rattle.gm_lists.specs.Ordered.{Has}
use Rattle.gm_state.specs.Rows.{Tables, CommandRow}

-- the reply that the two numbers of a row say
abbrev pub reply_in : ℕ → ℕ → Reply
reply_in copied of_total =
    if (copied == 0) && (of_total == 0) then Plain else Copied copied of_total

-- a command stands under this key, with this number, these words and this reply
pub record IsKept (t : Tables) (key : List ℕ) (number : ℕ) (words : List ℕ)
    (reply : Reply) : Type 0 where
  pub row : CommandRow
  pub has : Has t.commands row
  pub key_is : row.call_key ≡ key
  pub number_is : row.seq ≡ number
  pub words_are : row.words ≡ words
  pub reply_is : reply_in row.copied row.of_total ≡ reply

abbrev pub is_under : List ℕ → CommandRow → Bool
is_under key c = bytes_eq c.call_key key

-- no command stands under this key
abbrev pub IsFree : Tables → List ℕ → Type 0
IsFree t key = filter (is_under key) t.commands ≡ []

-- how many commands were accepted
abbrev pub count_of : Tables → ℕ
count_of t = length t.commands

-- its number has 32 bits, those of its reply are in range, and its words are text
pub record Fits (c : CommandRow) : Type 0 where
  pub number : c.seq < 2 ^ 32
  pub copied : c.copied ≤ 1048576
  pub of_total : c.of_total ≤ 1048576
  pub words : IsUtf8 c.words

-- the commands under this key are such as are written here
abbrev pub AreWrittenUnder : List ℕ → Tables → Type 0
AreWrittenUnder key t = (c : CommandRow) → Has t.commands c → c.call_key ≡ key → Fits c

-- what a query of a key shows of a command
abbrev pub reply_values : CommandRow → Row
reply_values c = Int (pos c.seq) ∷ Text c.words ∷ Int (pos c.copied) ∷ Int (pos c.of_total) ∷ []

-- a row with the greatest number, or none if there is no command
abbrev pub IsLastOf : Tables → List Row → Type 0
IsLastOf t rows =
    ((t.commands ≡ []) × (rows ≡ []))
    ⊎ ((c : CommandRow) × Has t.commands c × ((d : CommandRow) → Has t.commands d → d.seq ≤ c.seq)
    × (rows ≡ (Int (pos c.seq) ∷ []) ∷ []))
