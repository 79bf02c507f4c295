-- Rows of what clap found: one is added, and the defaults add none.
use Rattle.gm_words.proofs.Common.{◌≡◌, ◌∙◌, true, false, refl, sym, ap, List, [], ◌∷◌, ◌++◌, Some, None, arith, inl, inr, length, true≢false, fold, if◌then◌else◌, list_all, bytes_eq, cases_Bool, or_parts, or-true, Row, Rule, Text, default_rows, has_row, is_empty, reading_by, with_default, with_values, without, CommandLine, AsWritten, both}
use Rattle.clap.specs.Faults.{defaults_fault}
use Rattle.clap.specs.Takes.{is_given}
use Rattle.gm_words.proofs.ReadValues.{nonzero}

-- what is found of an option with this value
abbrev pub row : Text → Text → Row
row id value = record {
  id = id;
  values = value ∷ [];
  count = None;
  source = Some CommandLine;
  reading = AsWritten;
}

-- the rows after a use of the option
abbrev pub added : Text → Text → List Row → List Row
added id value rows = with_values id AsWritten CommandLine (value ∷ []) (without id rows)

pub added_new : (id value : Text) (rows : List Row) → has_row id rows ≡ false
    → added id value rows ≡ rows ++ row id value ∷ []
added_new id value [] new = refl
added_new id value (r ∷ rows) new =
    let parts = or_parts (bytes_eq r.id id) (has_row id rows) new in
    rw (parts.0, parts.0) (ap (λ (rs : List Row). r ∷ rs) (added_new id value rows parts.1))

-- what was used is given
pub given_last : (id value : Text) (rows : List Row) → bytes_eq id id ≡ true
    → has_row id rows ≡ false → is_given id (rows ++ row id value ∷ []) ≡ true
given_last id value [] same new = rw same refl
given_last id value (r ∷ rows) same new =
    let parts = or_parts (bytes_eq r.id id) (has_row id rows) new in
    rw (parts.0) (given_last id value rows same parts.1)

-- options without defaults are as the words have them
pub no_defaults : (rules : List Rule) (rows : List Row)
    → list_all (λ a. is_empty a.defaults) rules ≡ true → fold with_default rows rules ≡ rows
no_defaults [] rows none = refl
no_defaults (a ∷ rest) rows none =
    let parts = both _ _ none in
    ap (λ (r : List Row). fold with_default r rest) (unchanged a rows a.defaults parts.0)
    ∙ no_defaults rest rows parts.1
  where
    unchanged : (a : Rule) (rows : List Row) (defaults : List Text) → is_empty defaults ≡ true
        → (if has_row a.id rows then rows else default_rows a.id (reading_by a) defaults rows)
        ≡ rows
    unchanged a rows [] none =
        elim (cases_Bool (has_row a.id rows)) [ inl e ↦ rw e refl | inr e ↦ rw e refl ]
    unchanged a rows (d ∷ ds) none =
        absurd (true≢false (sym none ∙ nonzero (length (d ∷ ds)) (omega arith)))

pub no_defaults_fault : (rules : List Rule) (rows : List Row)
    → list_all (λ a. is_empty a.defaults) rules ≡ true → defaults_fault rows rules ≡ []
unfolding defaults_fault
no_defaults_fault [] rows none = refl
no_defaults_fault (a ∷ rest) rows none =
    let parts = both (is_empty a.defaults) (list_all (λ b. is_empty b.defaults) rest) none in
    rw (parts.0, or-true (has_row a.id rows)) (no_defaults_fault rest (with_default rows a) parts.1)
