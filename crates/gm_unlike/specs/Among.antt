-- One image among those that aren't as they are registered.
use Rattle.std.specs.Prelude.{ℕ, List, Option, find, option_map}
use Rattle.gm_metadata.specs.Images.{same_label}
use Rattle.gm_looks.specs.declared.standing.Standing.{Standing}
use Rattle.gm_looks.specs.declared.unlike.Unlike.{Unlike}

-- how it stands, if it is among them
abbrev pub standing_among : List Unlike → List ℕ → Option Standing
standing_among list p = option_map (λ e. e.standing) (find (λ e. same_label e.provider p) list)
