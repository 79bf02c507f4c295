-- The images that pending intents name, by the rows that are shown of them.
use Rattle.std.specs.Prelude.{◌≡◌, ◌⊎◌, ℕ, List, IsTrue}
use Rattle.gm_lists.specs.Ordered.{Has}
use Rattle.gm_metadata.specs.Labels.{is_label}
use Rattle.sqlite.specs.Order.{Row, column}
use Rattle.sqlite.specs.Tree.{Trees}
use Rattle.sqlite.specs.declared.types.Value.TheVariants.{Text}
use Rattle.gm_rows.specs.Queries.{IsShown}
use Rattle.gm_rows.specs.declared.fetched.Table.TheVariants.{Intents}

-- the row names this image: as the one that is written, or as the source of a copy
abbrev pub Names : Row → List ℕ → Type 0
Names row name = IsTrue (is_label name) × ((column row 2 ≡ Text name) ⊎ (column row 3 ≡ Text name))

-- each image that one of the rows names is among these
abbrev pub AreNamed : List Row → List (List ℕ) → Type 0
AreNamed rows names = (row : Row) (name : List ℕ) → Has rows row → Names row name → Has names name

-- each image that an intent of the store names is among these
abbrev pub AreNamedIn : Trees → List (List ℕ) → Type 0
AreNamedIn db names = (rows : List Row) × IsShown db Intents rows × AreNamed rows names
