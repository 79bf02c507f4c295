-- What is told of a registry that is renewed.
use Rattle.std.specs.Prelude.{ℕ, List, [], ◌∷◌, codes}
use Rattle.serde_json.specs.Data.{Data}
use Rattle.gm_looks.specs.declared.unlike.Unlike.{Unlike}
use Rattle.gm_json.specs.Fields.{each_at, number_at, object_of, text_at, text_of}
use Rattle.gm_json.specs.Keyed.{in_the_way_data}

-- so many mirrors were carried over, and the old registry, with so many commands, is kept there
abbrev pub renewed_data : ℕ → List ℕ → ℕ → Data
renewed_data commands kept mirrors = object_of (
    number_at (codes "commands") commands
    ∷ text_at (codes "kept") kept
    ∷ number_at (codes "mirrors") mirrors
    ∷ [])

-- a renewal that was stopped is finished, and the old registry is kept there
abbrev pub finished_data : List ℕ → Data
finished_data kept = object_of (text_at (codes "kept") kept ∷ [])

-- nothing was renewed; these images stand in the way, if any do
abbrev pub not_renewed_data : List Unlike → Data
not_renewed_data list = object_of (
    text_at (codes "answer") (codes "not done")
    ∷ each_at (codes "images") in_the_way_data list
    ∷ [])

-- the texts
abbrev pub renewed_json : ℕ → List ℕ → ℕ → List ℕ
renewed_json commands kept mirrors = text_of (renewed_data commands kept mirrors)

abbrev pub finished_json : List ℕ → List ℕ
finished_json kept = text_of (finished_data kept)

abbrev pub not_renewed_json : List Unlike → List ℕ
not_renewed_json list = text_of (not_renewed_data list)
