-- The files that SQLite puts beside a database.
use Rattle.std.specs.Prelude.{ℕ, Bool, not, List, [], ◌∷◌, ◌++◌, codes, filter, map}
use Rattle.std.specs.List.{list_any}
use Rattle.std.specs.Str.{bytes_eq}
use Rattle.std.specs.String.{string_bytes}
use Rattle.gm_shelf.specs.declared.passed_over.PassedOver.{PassedOver}

-- what their names have after the database's
abbrev pub suffixes : List (List ℕ)
suffixes = codes "-wal" ∷ codes "-shm" ∷ codes "-journal" ∷ []

-- one of these databases has such a file of this name
abbrev pub is_with : List (List ℕ) → List ℕ → List ℕ → Bool
is_with databases name suffix =
    list_any (λ database. bytes_eq name (database ++ suffix)) databases

abbrev pub is_beside : List (List ℕ) → List ℕ → Bool
is_beside databases name = list_any (is_with databases name) suffixes

-- their names
abbrev pub names_of : List PassedOver → List (List ℕ)
names_of passed = map (λ x. string_bytes x.name) passed

-- those that lie beside no image, and beside none of them
abbrev pub without_beside : List (List ℕ) → List PassedOver → List PassedOver
without_beside images passed =
    filter (λ x. not (is_beside (images ++ names_of passed) (string_bytes x.name))) passed
