-- The word in a line of a guarded batch that has its command carried out whatever is lost.
use Rattle.std.specs.Prelude.{ℕ, Bool, false, List, [], ◌∷◌, codes, if◌then◌else◌}
use Rattle.std.specs.Str.{bytes_eq}

-- whether the word `--force` comes right after the key
abbrev pub is_forced : List (List ℕ) → Bool
is_forced [] = false
is_forced (key ∷ []) = false
is_forced (key ∷ word ∷ words) = bytes_eq word (codes "--force")

-- the pieces of a line without that word
abbrev pub unforced : List (List ℕ) → List (List ℕ)
unforced [] = []
unforced (key ∷ []) = key ∷ []
unforced (key ∷ word ∷ words) =
    if bytes_eq word (codes "--force") then key ∷ words else key ∷ word ∷ words
