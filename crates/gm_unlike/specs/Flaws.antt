-- How it is told which components' data aren't their mirror's.
use Rattle.std.specs.Prelude.{◌++◌, ◌==◌, ℕ, List, [], ◌∷◌, codes, filter, flat_map, map, if◌then◌else◌}
use Rattle.std.specs.Fmt.{decimal}
use Rattle.gm_metadata.specs.Images.{same_label}
use Rattle.gm_looks.specs.declared.scrub.Flaw.{Flaw}
use Rattle.gm_looks.specs.declared.scrub.Flaw.TheVariants.{Uncompared, Differs}
use Rattle.gm_unlike.specs.declared.unequal.Unequal.{Unequal}

-- those of the list that hold the data of the one of this name, and that itself
abbrev pub peers : List Unequal → List ℕ → List (List ℕ)
peers list first = map (λ e. e.provider) (filter (λ e. same_label e.like first) list)

-- the names after the first of a list in a sentence: `, c.img and d.img`
abbrev pub more_names : List (List ℕ) → List ℕ
more_names [] = []
more_names (p ∷ []) = codes " and " ++ p
more_names (p ∷ q ∷ ps) = codes ", " ++ p ++ more_names (q ∷ ps)

-- names as a list in a sentence: `b.img, c.img and d.img`
abbrev pub names_words : List (List ℕ) → List ℕ
names_words [] = []
names_words (p ∷ ps) = p ++ more_names ps

-- one differs; several are equal as well
abbrev pub verb_words : List (List ℕ) → List ℕ
verb_words (p ∷ []) = codes " differs"
verb_words ps = codes " are equal and differ"

-- from which source
abbrev pub source_words : List ℕ → List ℕ
source_words source = codes " from the source " ++ source

-- in how many sectors
unfoldable pub in_sectors : ℕ → List ℕ
in_sectors n =
    if n == 1 then codes " in 1 sector" else codes " in " ++ decimal n ++ codes " sectors"

-- that these components' data differ, and are equal if they are several
abbrev pub who_words : List (List ℕ) → List ℕ
who_words ps = names_words ps ++ verb_words ps

-- in how many sectors, and which is the first
abbrev pub extent_words : ℕ → ℕ → List ℕ
extent_words sectors first = in_sectors sectors ++ codes ", first " ++ decimal first ++ 10 ∷ []

-- from which source, in how many sectors, and which is the first
abbrev pub how_words : List ℕ → ℕ → ℕ → List ℕ
how_words source sectors first = source_words source ++ extent_words sectors first

-- that these components' data are equal, and how they differ from their source's
abbrev pub differing_words : List (List ℕ) → List ℕ → ℕ → ℕ → List ℕ
differing_words ps source sectors first = who_words ps ++ how_words source sectors first

-- the line of a component with this flaw: of those that hold equal data the first has one
abbrev pub flaw_line : List Unequal → Unequal → Flaw → List ℕ
flaw_line list e Uncompared = e.provider ++ codes " isn't compared\n"
flaw_line list e (Differs sectors first) =
    if same_label e.like e.provider
    then differing_words (peers list e.provider) e.source sectors first else []

abbrev pub unequal_line : List Unequal → Unequal → List ℕ
unequal_line list e = flaw_line list e e.flaw

-- a line for each component, but one for those that hold equal data
abbrev pub unequal_lines : List Unequal → List ℕ
unequal_lines list = flat_map (unequal_line list) list
