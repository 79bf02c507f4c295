-- What whoever runs the program says to a question.
use Rattle.std.specs.Prelude.{ℕ, Bool, List, codes}
use Rattle.std.specs.Io.BufRead.{take_through}
use Rattle.std.specs.Str.{bytes_eq, trim}

-- the next line is `yes`, but for white space around it
abbrev pub says_yes : List ℕ → Bool
says_yes bytes = bytes_eq (trim (take_through 10 bytes)) (codes "yes")
