-- Sectors in hexadecimal digits.
use Rattle.std.specs.Prelude.{◌&&◌, ◌||◌, ◌==◌, ◌/◌, ◌%◌, ℕ, Bool, nat_le, nat_lt, List, length, Option, Some, None, Result, Ok, Err, if◌then◌else◌}
use Rattle.std.specs.List.{list_all}
use Rattle.std.specs.Simd.{first_chunks}
use Rattle.clap.specs.Walk.{Text}
use Rattle.hex.specs.Hex.{decode_of}
use Rattle.hex.specs.declared.error.FromHexError.{FromHexError}

-- 0 to 9, and a to f
abbrev pub is_digit : ℕ → Bool
is_digit b = (nat_le 48 b && nat_le b 57) || (nat_le 97 b && nat_le b 102)

-- so many sectors as a patch may have
abbrev pub is_count : ℕ → Bool
is_count n = nat_lt 0 n && nat_le n 64

-- the bytes as sectors of 512, if they are whole ones, and as many as a patch may have
abbrev pub sectors_of : Result (List ℕ) FromHexError → Option (List (List ℕ))
sectors_of (Err e) = None
sectors_of (Ok bytes) =
    if length bytes % 512 == 0 && is_count (length bytes / 512)
    then Some (first_chunks 512 (length bytes / 512) bytes) else None

-- the sectors that the text says: each byte as two digits in lower case
unfoldable pub sectors_in : Text → Option (List (List ℕ))
sectors_in text = if list_all is_digit text then sectors_of (decode_of text) else None
