-- When the tables are readable, and as what.
use Rattle.std.specs.Prelude.{◌≡◌, ◌≤◌, ℕ, List, length, map}
use Rattle.std.specs.List.Sorted.{IsPermutation}
use Rattle.sqlite.specs.Tree.{Trees}
use Rattle.gm_state.specs.declared.intents.Intent.{Intent}
use Rattle.gm_lists.specs.Ordered.{Has}
use Rattle.gm_state.specs.Records.{Records, IsState}
use Rattle.gm_state.specs.Readable.{AreReadable}
use Rattle.gm_state.specs.Rows.{Tables, CommandRow, mirror_row, component_row, intent_rows, patch_rows}
use Rattle.gm_rows.specs.Tables.{Holds}

-- the numbers of a command's reply are in range
abbrev pub IsInRange : CommandRow → Type 0
IsInRange c = (c.copied ≤ 1048576) × (c.of_total ≤ 1048576)

-- so are those of each
abbrev pub AreRepliesInRange : Tables → Type 0
AreRepliesInRange t = (c : CommandRow) → Has t.commands c → IsInRange c

-- the rows of mirrors and components are those of the records, in some order
pub record HoldState (s : Records) (t : Tables) : Type 0 where
  pub mirrors : IsPermutation (map mirror_row s.mirrors) t.mirrors
  pub components : IsPermutation (map component_row s.components) t.components

-- the rows of mirrors and components are those of a state, whatever the other tables hold
pub record AreRecordsOf (t : Tables) (s : Records) : Type 0 where
  pub state : IsState s
  pub rows : HoldState s t

-- The tables are those of a state with these intents pending, which are numbered from 1 in their
-- order, and these bytes to be laid, with no more commands than there may be.
pub record AreTablesOf (t : Tables) (s : Records) (ts : List Intent)
    (bytes : List (List ℕ)) : Type 0 where
  pub state : IsState s
  pub mirrors : IsPermutation (map mirror_row s.mirrors) t.mirrors
  pub components : IsPermutation (map component_row s.components) t.components
  pub intents : IsPermutation (intent_rows 1 ts) t.intents
  pub patches : t.patches ≡ patch_rows bytes
  pub readable : AreReadable s bytes ts
  pub count : length t.commands ≤ 100000

-- the store holds a registry of the state, with these intents and these bytes pending
pub record IsStateIn (db : Trees) (s : Records) (ts : List Intent) (bytes : List (List ℕ)) : Type 0
  where
    pub tables : Tables
    pub holds : Holds db tables
    pub are : AreTablesOf tables s ts bytes
