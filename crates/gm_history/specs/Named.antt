-- Which mirror the words of a command name.
use Rattle.std.specs.Prelude.{ℕ, ◌-◌, Bool, false, true, ◌||◌, List, [], ◌∷◌, Option, Some, None, codes, length, if◌then◌else◌}
use Rattle.std.specs.Borrow.{Bor}
use Rattle.std.specs.List.{slice_get}
use Rattle.std.specs.Str.{bytes_eq}

-- the first of the last words, so many
abbrev pub first_of_last : ℕ → List (Bor (List ℕ)) → Option (Bor (List ℕ))
first_of_last n words = slice_get words (length words - n)

-- a mirror's name comes before an image's, and both last
abbrev pub names_image_last : List ℕ → Bool
names_image_last word = bytes_eq word (codes "label") || bytes_eq word (codes "insert")

-- a mirror's name comes last
abbrev pub names_mirror_last : List ℕ → Bool
names_mirror_last word = bytes_eq word (codes "configure") || bytes_eq word (codes "patch")

-- the first of these, if there is one
abbrev pub first_of : List (Bor (List ℕ)) → Option (Bor (List ℕ))
first_of [] = None
first_of (word ∷ words) = Some word

-- the mirror's name among what follows a command's first word
abbrev pub named_after : List ℕ → List (Bor (List ℕ)) → Option (Bor (List ℕ))
named_after word rest =
    if bytes_eq word (codes "clear") then None
    else if names_image_last word then first_of_last 2 rest
    else if names_mirror_last word then first_of_last 1 rest
    else first_of rest

-- the mirror's name among the words of a command
abbrev pub mirror_named : List (Bor (List ℕ)) → Option (Bor (List ℕ))
mirror_named [] = None
mirror_named (word ∷ rest) = named_after word.now rest

-- this name, if there is one
abbrev pub is_name : Option (Bor (List ℕ)) → List ℕ → Bool
is_name None mirror = false
is_name (Some word) mirror = bytes_eq word.now mirror

-- the words name this mirror, if it is to be one
abbrev pub is_about : Option (List ℕ) → List (Bor (List ℕ)) → Bool
is_about None words = true
is_about (Some mirror) words = is_name (mirror_named words) mirror
