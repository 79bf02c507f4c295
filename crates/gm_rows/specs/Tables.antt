-- What a store and a connection hold, as the five tables.
use Rattle.std.specs.Prelude.{◌≡◌, ℕ, zero, suc, false, IsTrue, List, [], ◌∷◌, map, length}
use Rattle.std.specs.List.Sorted.{IsPermutation}
use Rattle.sqlite.specs.Tree.{Trees}
use Rattle.sqlite.specs.Effect.{Database}
use Rattle.sqlite.specs.State.{State}
use Rattle.sqlite_catalog.specs.Listing.{IsSound}
use Rattle.sqlite_trees.specs.View.{IsShaped}
use Rattle.sqlite_trees.specs.declared.store.Shape.TheVariants as shape
use Rattle.sqlite_rows.specs.Keeps.{Keeps, columns, whole}
use Rattle.sqlite_rows.specs.Calls.{Holds as HoldsBy, HasRecords, IsInside as IsInsideBy}
use Rattle.gm_state.specs.Rows.{Tables, CommandRow}
use Rattle.gm_rows.specs.Schema.{first_schema, registry_schema, no_schema}
use Rattle.gm_rows.specs.Rows.{about_numbered, about_values, mirror_values, component_values, intent_values, command_values, patch_values}

-- the rows are those of `about` and of these tables, each in some order
pub record HasRows (db : Trees) (t : Tables) : Type 0 where
  pub about : db 0 ≡ about_values ∷ []
  pub mirrors : Keeps columns mirror_values t.mirrors (db 1)
  pub components : Keeps columns component_values t.components (db 4)
  pub intents : Keeps whole intent_values t.intents (db 7)
  pub commands : Keeps columns command_values t.commands (db 8)
  pub patches : Keeps whole patch_values t.patches (db 11)

-- the same in a store of the first schema, where nothing is patched
pub record HasFirstRows (db : Trees) (t : Tables) : Type 0 where
  pub about : db 0 ≡ about_numbered 1 ∷ []
  pub mirrors : Keeps columns mirror_values t.mirrors (db 1)
  pub components : Keeps columns component_values t.components (db 4)
  pub intents : Keeps whole intent_values t.intents (db 7)
  pub commands : Keeps columns command_values t.commands (db 8)
  pub patches : t.patches ≡ []

-- the numbers of n commands, the newest first
abbrev pub numbers_of : ℕ → List ℕ
numbers_of zero = []
numbers_of (suc n) = suc n ∷ numbers_of n

-- their numbers count from 1 without gaps
abbrev pub AreNumbered : List CommandRow → Type 0
AreNumbered commands =
    IsPermutation (numbers_of (length commands)) (map (λ (c : CommandRow). c.seq) commands)

-- the rows are those of the tables, whose commands count without gaps
pub record HasCounted (db : Trees) (t : Tables) : Type 0 where
  pub rows : HasRows db t
  pub numbered : AreNumbered t.commands

-- a store that was left so is a registry with these tables
abbrev pub Holds : Trees → Tables → Type 0
Holds = HoldsBy registry_schema HasCounted

-- the same of a store of the first schema
pub record HasFirstCounted (db : Trees) (t : Tables) : Type 0 where
  pub rows : HasFirstRows db t
  pub numbered : AreNumbered t.commands

-- a store that was left so is a registry of the first schema with these tables
abbrev pub HoldsFirst : Trees → Tables → Type 0
HoldsFirst = HoldsBy first_schema HasFirstCounted

-- an open connection outside a transaction, over a registry with these tables
abbrev pub SeesTables : State → Tables → Type 0
SeesTables = HasRecords registry_schema HasCounted

-- the same over one of the first schema
abbrev pub SeesFirst : State → Tables → Type 0
SeesFirst = HasRecords first_schema HasFirstCounted

-- within a transaction over this commit, whose rows are those of the tables so far
abbrev pub IsInside : Database → State → Tables → Type 0
IsInside = IsInsideBy registry_schema HasRows

abbrev pub no_tables : Tables
no_tables =
    record { mirrors = []; components = []; intents = []; commands = []; patches = [] }

-- a store without any table
abbrev pub IsEmpty : Trees → Type 0
IsEmpty db = IsSound no_schema db

-- an open connection outside a transaction, over the tables of a registry and the one record of
-- `about`, whatever else they hold
pub record SeesRegistry (s : State) : Type 0 where
  pub is_open : IsTrue s.is_open
  pub autocommit : s.in_transaction ≡ false
  pub schema_is : s.committed.schema ≡ registry_schema
  pub settled : s.now ≡ s.committed
  pub sound : IsSound registry_schema s.committed.trees
  pub about : s.committed.trees 0 ≡ about_values ∷ []

-- in each of the five tables, whatever they hold, the rowids are integers, and rise
pub record HasRisingRowids (db : Trees) : Type 0 where
  pub mirrors : IsShaped shape.Table (db 1)
  pub components : IsShaped shape.Table (db 4)
  pub intents : IsShaped shape.Table (db 7)
  pub commands : IsShaped shape.Table (db 8)
  pub patches : IsShaped shape.Table (db 11)
