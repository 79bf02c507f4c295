-- The form that code goes by: the queries that read the tables whole, and those that count the
-- commands.
use Rattle.std.specs.Prelude.{◌≡◌, ◌⊎◌, codes, Bool, false, List, ℕ, [], ◌∷◌, length, map, min, pos}
use Rattle.std.specs.Ordering.{is_lt}
use Rattle.std.specs.List.Sorted.{IsPermutation, IsSortedByKey}
use Rattle.sqlite.specs.Order.{Row, column}
use Rattle.sqlite_value.specs.Order.{value_cmp}
use Rattle.sqlite_value.specs.declared.value.Value.{Value}
use Rattle.sqlite.specs.declared.types.Value.TheVariants.{Int}
use Rattle.sqlite.specs.Tree.{Trees}
use Rattle.gm_lists.specs.Ordered.{Has}
use Rattle.gm_rows.specs.Values.{columns_at}
use Rattle.gm_rows.specs.declared.fetched.Fetched.{Fetched}
use Rattle.gm_rows.specs.declared.fetched.Table.{Table}
use Rattle.gm_rows.specs.declared.fetched.Table.TheVariants.{About, Mirrors, Components, Intents, Patches}
use Rattle.gm_rows.specs.declared.command_numbers.CommandNumber.{CommandNumber}
use Rattle.gm_rows.specs.declared.command_numbers.CommandNumber.TheVariants.{Count, Least, Greatest}
use Rattle.gm_rows.specs.declared.command_numbers.CommandNumbers.{CommandNumbers}

-- what each table is asked by; intents come in order of their numbers
abbrev pub query_text : Table → List ℕ
query_text About = codes "SELECT one, schema_no FROM about"
query_text Mirrors =
    codes "SELECT name, mid, total, genid, syncid, slice, balance, mediasize, mflags FROM mirrors"
query_text Components =
    codes "SELECT prov, mirror, did, syncid, priority, sync_offset, dflags, hard, provsize FROM components"
query_text Intents =
    codes "SELECT ord, kind, prov, source, first_sector, end_sector FROM intents ORDER BY ord"
query_text Patches = codes "SELECT one, bytes FROM patches"

-- where each table is kept
abbrev pub tree_of : Table → ℕ
tree_of About = 0
tree_of Mirrors = 1
tree_of Components = 4
tree_of Intents = 7
tree_of Patches = 11

-- the stored columns that its query shows
abbrev pub shown_places : Table → List ℕ
shown_places About = 0 ∷ 2 ∷ []
shown_places Mirrors = 1 ∷ 2 ∷ 3 ∷ 4 ∷ 5 ∷ 6 ∷ 7 ∷ 8 ∷ 9 ∷ []
shown_places Components = 1 ∷ 2 ∷ 3 ∷ 4 ∷ 5 ∷ 6 ∷ 7 ∷ 8 ∷ 9 ∷ []
shown_places Intents = 0 ∷ 2 ∷ 3 ∷ 4 ∷ 5 ∷ 6 ∷ []
shown_places Patches = 0 ∷ 2 ∷ []

-- the rows that the query of a table may show
abbrev pub IsShown : Trees → Table → List Row → Type 0
IsShown db table rows =
    IsPermutation (map (columns_at (shown_places table)) (db (tree_of table))) rows

-- its rows bear numbers, by which they come
abbrev pub IsNumbered : Table → Type 0
IsNumbered table = table ≡ Intents

-- by the number in the first column
abbrev pub IsInOrder : List Row → Type 0
IsInOrder rows = IsSortedByKey (λ (row : Row). column row 0) value_cmp rows

-- ---- the numbers of commands

-- what is asked of the commands
abbrev pub number_text : CommandNumber → List ℕ
number_text Count = codes "SELECT count(*) FROM commands"
number_text Least = codes "SELECT seq FROM commands ORDER BY seq LIMIT 1"
number_text Greatest = codes "SELECT seq FROM commands ORDER BY seq DESC LIMIT 1"

-- the number of a stored command
abbrev pub number_of : Row → Value
number_of row = column row 2

abbrev pub is_less : Value → Value → Bool
is_less a b = is_lt (value_cmp a b)

abbrev pub is_greater : Value → Value → Bool
is_greater a b = is_lt (value_cmp b a)

-- the row shows the value that comes first of these in an order, and there is none if there is none
abbrev pub IsFirstBy : {A : Type 0} → (Value → Value → Bool) → (A → Value) → List A → List Row
    → Type 0
IsFirstBy {A} before value all rows =
    ((all ≡ []) × (rows ≡ []))
    ⊎ ((x : A) × Has all x × ((y : A) → Has all y → before (value y) (value x) ≡ false)
    × (rows ≡ (value x ∷ []) ∷ []))

-- the rows that each may show: a count goes no further than a column can hold
abbrev pub IsNumberShown : Trees → CommandNumber → List Row → Type 0
IsNumberShown db Count rows =
    rows ≡ (Int (pos (min (length (db 8)) 9223372036854775807)) ∷ []) ∷ []
IsNumberShown db Least rows = IsFirstBy is_less number_of (db 8) rows
IsNumberShown db Greatest rows = IsFirstBy is_greater number_of (db 8) rows

-- the rows that were fetched are those of the commands
pub record AreNumbersShown (db : Trees) (n : CommandNumbers) : Type 0 where
  pub count : IsNumberShown db Count n.count.items
  pub least : IsNumberShown db Least n.least.items
  pub greatest : IsNumberShown db Greatest n.greatest.items

-- ---- all that is read

-- the rows that were fetched are those of the tables
pub record AreShown (db : Trees) (f : Fetched) : Type 0 where
  pub about : IsShown db About f.about.items
  pub mirrors : IsShown db Mirrors f.mirrors.items
  pub components : IsShown db Components f.components.items
  pub intents : IsShown db Intents f.intents.items
  pub in_order : IsInOrder f.intents.items
  pub commands : AreNumbersShown db f.commands
  pub patches : IsShown db Patches f.patches.items
