-- What is told of an accepted command in a line.
use Rattle.std.specs.Prelude.{ℕ, ◌/◌, ◌==◌, Bool, ◌&&◌, ◌||◌, nat_le, List, [], ◌∷◌, ◌++◌, codes, flat_map, length, take, if◌then◌else◌}
use Rattle.std.specs.Borrow.{Bor}
use Rattle.std.specs.Fmt.{decimal}
use Rattle.std.specs.List.{list_all}
use Rattle.std.specs.String.{string_bytes}
use Rattle.gm_command_line.specs.declared.job.Form.{Form}
use Rattle.gm_command_line.specs.declared.job.Form.TheVariants.{Text, Json}
use Rattle.gm_json.specs.History.{kept_json, texts}
use Rattle.gm_state.specs.declared.intents.Reply.{Reply}
use Rattle.gm_state.specs.declared.intents.Reply.TheVariants.{Plain, Copied}
use Rattle.gm_history.specs.declared.accepted.Accepted.{Accepted}

-- a digit of 0-9 and a-f
abbrev pub is_digit : ℕ → Bool
is_digit byte = (nat_le 48 byte && nat_le byte 57) || (nat_le 97 byte && nat_le byte 102)

-- a patch's data: at least a sector of digits, as long as no other word
abbrev pub is_data : List ℕ → Bool
is_data word = nat_le 1024 (length word) && list_all is_digit word

-- how many sectors
abbrev pub sectors_words : ℕ → List ℕ
sectors_words n = if n == 1 then codes "... (1 sector)" else codes "... (" ++ decimal n ++ codes " sectors)"

-- a word, of data the first eight digits and how many sectors they are
abbrev pub told_word : List ℕ → List ℕ
told_word word =
    if is_data word then take 8 word ++ sectors_words (length word / 1024) else word

-- each after a space
abbrev pub told_words : List (Bor (List ℕ)) → List ℕ
told_words words = flat_map (λ word. 32 ∷ told_word word.now) words

-- the answer
abbrev pub told_reply : Reply → List ℕ
told_reply Plain = codes ": ok\n"
told_reply (Copied held total) = codes ": copied " ++ decimal held ++ codes " of " ++ decimal total ++ codes "\n"

-- a command with these words: its number, its key, its words and its answer
abbrev pub told_line : Accepted → List (Bor (List ℕ)) → List ℕ
told_line a words =
    decimal a.number ++ codes " " ++ string_bytes a.key ++ told_words words ++ told_reply a.reply

-- a comma, if another was told before
abbrev pub comma_after : Bool → List ℕ
comma_after later = if later then codes "," else []

-- its line, or its JSON
abbrev pub told : Form → Bool → Accepted → List (Bor (List ℕ)) → List ℕ
told Text later a words = told_line a words
told Json later a words =
    comma_after later ++ kept_json (string_bytes a.key) a.number (texts words) a.reply
