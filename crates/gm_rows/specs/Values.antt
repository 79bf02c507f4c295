-- The form that code goes by: what a query shows of rows, and the records that values of the code
-- can say.
use Rattle.std.specs.Prelude.{◌≡◌, ◌+◌, ◌<◌, ◌^◌, ℕ, IsTrue, List, [], ◌∷◌, map, pos}
use Rattle.sqlite.specs.declared.types.Value.TheVariants.{Int, Text, Blob}
use Rattle.sqlite.specs.Order.{Row, column}
use Rattle.gm_metadata.specs.Labels.{is_label}
use Rattle.gm_state.specs.declared.intents.Intent.{Intent}
use Rattle.gm_state.specs.declared.intents.Intent.TheVariants.{Meta, Clear, Copy, Dirty, Patch}
use Rattle.gm_state.specs.declared.records.Mirror.{Mirror}
use Rattle.gm_state.specs.declared.records.Component.{Component}
use Rattle.gm_state.specs.Disks.{held_of}
use Rattle.gm_state.specs.Records.{MirrorFits, ComponentFits}
use Rattle.gm_state.specs.Rows.{IntentRow}

-- these columns of a row, in this order
abbrev pub columns_at : List ℕ → Row → Row
columns_at places row = map (column row) places

-- the first two, six and nine columns
abbrev pub two : List ℕ
two = 0 ∷ 1 ∷ []

abbrev pub six : List ℕ
six = 0 ∷ 1 ∷ 2 ∷ 3 ∷ 4 ∷ 5 ∷ []

abbrev pub nine : List ℕ
nine = 0 ∷ 1 ∷ 2 ∷ 3 ∷ 4 ∷ 5 ∷ 6 ∷ 7 ∷ 8 ∷ []

-- what is shown of a row of `intents`: its columns in the order of the table's text
abbrev pub shown_intent : IntentRow → Row
shown_intent i = Int (pos i.ord) ∷ Int (pos i.kind) ∷ Text i.prov ∷ Text i.source
    ∷ Int (pos i.first_sector) ∷ Int (pos i.end_sector) ∷ []

-- what is shown of the record of `patches`
abbrev pub shown_patch : List ℕ → Row
shown_patch bytes = Int (pos 1) ∷ Blob bytes ∷ []

-- the row begins with this number, kind and provider
pub record AreFirst (row : Row) (number kind : ℕ) (provider : List ℕ) : Type 0 where
  pub number_is : column row 0 ≡ Int (pos number)
  pub kind_is : column row 1 ≡ Int (pos kind)
  pub provider_is : column row 2 ≡ Text provider

-- a mirror that a value of the code can be: its name is a label and its numbers fit
pub record IsMirrorValue (m : Mirror) : Type 0 where
  pub fits : MirrorFits m
  pub all : m.all < 2 ^ 8
  pub data_sectors : m.data_sectors < 2 ^ 32

-- the same of a component
pub record IsComponentValue (k : Component) : Type 0 where
  pub fits : ComponentFits k
  pub mirror : IsTrue (is_label k.mirror)
  pub syncid : k.syncid < 2 ^ 32
  pub held : held_of k.disk < 2 ^ 32
  pub sectors : k.sectors < 2 ^ 32

-- the same of an intent
abbrev pub IsIntentValue : Intent → Type 0
IsIntentValue (Meta p) = IsTrue (is_label p)
IsIntentValue (Clear p) = IsTrue (is_label p)
IsIntentValue (Copy source target first end) =
    IsTrue (is_label source) × IsTrue (is_label target) × (first < 2 ^ 32) × (end < 2 ^ 32)
IsIntentValue (Dirty p) = IsTrue (is_label p)
IsIntentValue (Patch p first end) = IsTrue (is_label p) × (first < 2 ^ 32) × (end < 2 ^ 32)

-- the rows of records that are numbered from n, each by its number
abbrev pub numbered : {A : Type 0} → (ℕ → A → Row) → ℕ → List A → List Row
numbered row_of n [] = []
numbered row_of n (x ∷ xs) = row_of n x ∷ numbered row_of (n + 1) xs
