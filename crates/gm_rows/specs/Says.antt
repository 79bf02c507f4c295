-- The form that code goes by: what the rows that are shown of the tables say. `ReadableTables`
-- defines readable tables.
use Rattle.std.specs.Prelude.{◌≡◌, ◌≤◌, ℕ, List, [], ◌∷◌, length, map, pos}
use Rattle.std.specs.List.Sorted.{IsPermutation}
use Rattle.sqlite.specs.Order.{Row, column}
use Rattle.sqlite_value.specs.declared.value.Value.{Value}
use Rattle.sqlite.specs.declared.types.Value.TheVariants.{Int}
use Rattle.gm_state.specs.declared.intents.Intent.{Intent}
use Rattle.gm_state.specs.declared.records.Mirror.{Mirror}
use Rattle.gm_state.specs.declared.records.Component.{Component}
use Rattle.gm_lists.specs.Ordered.{Has}
use Rattle.gm_state.specs.Records.{Records, IsState}
use Rattle.gm_state.specs.Rows.{mirror_row, component_row, intent_row, patch_rows}
use Rattle.gm_rows.specs.Rows.{mirror_values, component_values}
use Rattle.gm_state.specs.Readable.{AreReadable}
use Rattle.gm_rows.specs.Values.{columns_at, numbered, two, six, nine, shown_intent, shown_patch}
use Rattle.sqlite.specs.Tree.{Trees}
use Rattle.gm_rows.specs.Queries.{shown_places}
use Rattle.gm_rows.specs.declared.fetched.Table.TheVariants.{About, Mirrors, Components, Intents, Patches}
use Rattle.gm_rows.specs.declared.fetched.Fetched.{Fetched}
use Rattle.gm_rows.specs.declared.command_numbers.CommandNumbers.{CommandNumbers}

abbrev pub mirror_shown : Mirror → Row
mirror_shown m = mirror_values (mirror_row m)

abbrev pub component_shown : Component → Row
component_shown k = component_values (component_row k)

abbrev pub intent_shown : ℕ → Intent → Row
intent_shown n t = shown_intent (intent_row n t)

-- a number from low to high
abbrev pub IsBetween : ℕ → ℕ → Value → Type 0
IsBetween low high value = (n : ℕ) × (value ≡ Int (pos n)) × (low ≤ n) × (n ≤ high)

-- the rows begin with this number
abbrev pub IsNumber : ℕ → List Row → Type 0
IsNumber n [] = ⊥
IsNumber n (row ∷ more) = column row 0 ≡ Int (pos n)

-- the rows begin with a number from 1 to this one, or are none
abbrev pub IsWithin : ℕ → List Row → Type 0
IsWithin high [] = Unit {0}
IsWithin high (row ∷ more) = IsBetween 1 high (column row 0)

-- there aren't too many commands, and none is numbered below 1 or above how many there are
pub record AreCounted (n : CommandNumbers) : Type 0 where
  pub count : ℕ
  pub count_is : IsNumber count n.count.items
  pub few : count ≤ 100000
  pub least : IsWithin count n.least.items
  pub greatest : IsWithin count n.greatest.items

-- what is shown of the one record of `about` in a store of this schema
abbrev pub shown_about : ℕ → Row
shown_about schema_no = Int (pos 1) ∷ Int (pos schema_no) ∷ []

-- the rows of `about` are that record
abbrev pub IsAbout : ℕ → List Row → Type 0
IsAbout schema_no rows = map (columns_at two) rows ≡ shown_about schema_no ∷ []

-- the rows of `patches` are the record of these bytes, or none if there are none
abbrev pub ArePatches : List (List ℕ) → List Row → Type 0
ArePatches bytes rows = map (columns_at two) rows ≡ map shown_patch (patch_rows bytes)

-- the rows are those of the records of a state, in some order
pub record SayState (mirrors components : List Row) (s : Records) : Type 0 where
  pub state : IsState s
  pub mirrors_are : IsPermutation (map mirror_shown s.mirrors) (map (columns_at nine) mirrors)
  pub components_are : IsPermutation (map component_shown s.components)
      (map (columns_at nine) components)

-- all rows say a state, and intents and bytes that are readable for it, in their order
pub record Say (f : Fetched) (s : Records) (ts : List Intent) (bytes : List (List ℕ)) : Type 0 where
  pub about : IsAbout 2 f.about.items
  pub records : SayState f.mirrors.items f.components.items s
  pub intents : map (columns_at six) f.intents.items ≡ numbered intent_shown 1 ts
  pub patches : ArePatches bytes f.patches.items
  pub readable : AreReadable s bytes ts
  pub commands : AreCounted f.commands

-- The tables of mirrors and of components, whatever they were to hold, are those of a state: their
-- columns say just these records.
pub record RecordsSay (db : Trees) (s : Records) : Type 0 where
  pub state : IsState s
  pub mirrors : IsPermutation (map mirror_shown s.mirrors)
      (map (columns_at (shown_places Mirrors)) (db 1))
  pub components : IsPermutation (map component_shown s.components)
      (map (columns_at (shown_places Components)) (db 4))

-- The tables, whatever they were to hold, are those of a state and of intents and bytes that are
-- readable for it: their columns say just these records, and each command's number is from 1 to how
-- many there are, so that they count without gaps, as no number comes twice.
pub record TablesSay (db : Trees) (s : Records) (ts : List Intent) (bytes : List (List ℕ)) : Type 0
  where
    pub state : IsState s
    pub about : map (columns_at (shown_places About)) (db 0) ≡ shown_about 2 ∷ []
    pub mirrors : IsPermutation (map mirror_shown s.mirrors)
        (map (columns_at (shown_places Mirrors)) (db 1))
    pub components : IsPermutation (map component_shown s.components)
        (map (columns_at (shown_places Components)) (db 4))
    pub intents : IsPermutation (numbered intent_shown 1 ts)
        (map (columns_at (shown_places Intents)) (db 7))
    pub patches : map (columns_at (shown_places Patches)) (db 11)
        ≡ map shown_patch (patch_rows bytes)
    pub readable : AreReadable s bytes ts
    pub count : length (db 8) ≤ 100000
    pub numbers : (row : Row) → Has (db 8) row → IsBetween 1 (length (db 8)) (column row 2)

-- the numbers of each command's reply are in range
abbrev pub RepliesSay : Trees → Type 0
RepliesSay db = (row : Row) → Has (db 8) row
    → IsBetween 0 1048576 (column row 4) × IsBetween 0 1048576 (column row 5)
