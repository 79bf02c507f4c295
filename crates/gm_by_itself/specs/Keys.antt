-- The keys of several commands that are handed in one after the other.
use Rattle.std.specs.Prelude.{ℕ, ◌++◌, ◌==◌, List, codes, if◌then◌else◌}
use Rattle.std.specs.Fmt.{decimal}

-- the first key, a dot and a number
abbrev pub numbered : List ℕ → ℕ → List ℕ
numbered first n = first ++ codes "." ++ decimal n

-- the key of the command of this number, from 1 on
unfoldable pub following : List ℕ → ℕ → List ℕ
following first n = if n == 1 then first else numbered first n
