-- Characters that a terminal or a reader would take for something else than themselves.
use Rattle.std.specs.Prelude.{ℕ, Bool, ◌&&◌, ◌||◌, ◌==◌, nat_le, nat_lt, List, map, chars, if◌then◌else◌}
use Rattle.std.proofs.Math.Utf8.{encodes}

-- a number from one on to another
abbrev pub is_between : ℕ → ℕ → ℕ → Bool
is_between from to c = nat_le from c && nat_le c to

-- a terminal acts upon it: it is below the space, or from DEL to the last of the control characters
abbrev pub is_control : ℕ → Bool
is_control c = nat_lt c 32 || is_between 127 159 c

-- it turns the direction of what is near it
abbrev pub turns_direction : ℕ → Bool
turns_direction c =
    c == 1564 || (is_between 8206 8207 c || (is_between 8234 8238 c || is_between 8294 8297 c))

abbrev pub is_hidden : ℕ → Bool
is_hidden c = is_control c || turns_direction c

-- a character as it is shown, ? for such a one
abbrev pub legible_char : ℕ → ℕ
legible_char c = if is_hidden c then 63 else c

-- a name as it is shown, whose bytes these are
abbrev pub legible_name : List ℕ → List ℕ
legible_name bytes = encodes (map legible_char (chars bytes))

-- a character of a text of lines as it is shown
abbrev pub legible_in_text : ℕ → ℕ
legible_in_text c = if c == 10 then 10 else legible_char c
