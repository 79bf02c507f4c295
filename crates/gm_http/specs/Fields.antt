-- What the fields of a head say of its body. A field is a pair of its name and its value.
use Rattle.std.specs.Prelude.{ℕ, List, [], ◌∷◌, length, nat_le, ◌&&◌, Option, Some, None, codes, if◌then◌else◌}
use Rattle.std.specs.Char.{is_ascii_digit}
use Rattle.std.specs.List.{list_all}
use Rattle.std.specs.Str.{str_eq_ignore_ascii_case}
use Rattle.std.specs.Str.Parse.{digits_value}

-- the values of the fields of a name, whether in upper or in lower case
abbrev pub values_of : List ℕ → List (List ℕ × List ℕ) → List (List ℕ)
values_of name [] = []
values_of name (field ∷ fields) = if str_eq_ignore_ascii_case field.0 name
    then field.1 ∷ values_of name fields else values_of name fields

-- the number of 1 to 10 decimal digits
unfoldable pub number_of : List ℕ → Option ℕ
number_of text =
    if nat_le 1 (length text) && nat_le (length text) 10 && list_all is_ascii_digit text
    then Some (digits_value 10 text) else None

-- the number that a single value is
abbrev pub only_number : List (List ℕ) → Option ℕ
only_number [] = None
only_number (value ∷ []) = number_of value
only_number (value ∷ more ∷ rest) = None

-- the length that a body has by the fields, if it isn't sent in chunks
abbrev pub without_chunks : List (List ℕ) → List (List ℕ × List ℕ) → Option ℕ
without_chunks [] fields = only_number (values_of (codes "content-length") fields)
without_chunks (value ∷ rest) fields = None

abbrev pub length_by : List (List ℕ × List ℕ) → Option ℕ
length_by fields = without_chunks (values_of (codes "transfer-encoding") fields) fields
