-- The text of what was passed over in a folder.
use Rattle.std.specs.Prelude.{ℕ, ◌-◌, Bool, ◌||◌, nat_eq, nat_le, nat_lt, List, [], ◌∷◌, ◌++◌, codes, count_by, flat_map, replicate, if◌then◌else◌}
use Rattle.std.specs.List.{list_any}
use Rattle.std.specs.String.{string_bytes}
use Rattle.gm_shelf.specs.declared.passed_over.PassedOver.{PassedOver}
use Rattle.gm_shelf.specs.Entries.{no_image_text}
use Rattle.gm_process.specs.Legible.{legible_name}
use Rattle.gm_words.specs.Lines.{line}

-- a character of UTF-8 begins with this byte
abbrev pub begins_character : ℕ → Bool
begins_character byte = nat_lt byte 128 || nat_le 192 byte

-- a name as it is shown, in 15 places if it has no more characters
abbrev pub in_15 : List ℕ → List ℕ
in_15 shown = shown ++ replicate (15 - count_by begins_character shown) 32

-- whether a name has a space
abbrev pub has_space : List ℕ → Bool
has_space = list_any (λ byte. nat_eq byte 32)

-- a name as it is told: between quotes if it has a space, which nobody would see at its end
abbrev pub told_name : List ℕ → List ℕ
told_name name = if has_space name then codes "'" ++ name ++ codes "'" else name

-- an entry: its name, and why it isn't an image
abbrev pub passed_line : PassedOver → List ℕ
passed_line x =
    line (codes "  " ++ in_15 (told_name (legible_name (string_bytes x.name))) ++ codes " "
    ++ no_image_text x.reason)

-- those that were passed over, if some were
abbrev pub passed_text : List PassedOver → List ℕ
passed_text [] = []
passed_text (x ∷ xs) = line (codes "passed over:") ++ flat_map passed_line (x ∷ xs)
