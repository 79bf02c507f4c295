-- A store without tables, a registry that is being made in it, and one that is carried over from
-- the first schema.
use Rattle.std.specs.Prelude.{◌≡◌, ◌≢◌, ◌⊎◌, ℕ, true, false, IsTrue, List, [], ◌∷◌, map}
use Rattle.sqlite.specs.Order.{Row, column}
use Rattle.sqlite.specs.Tree.{Trees}
use Rattle.sqlite.specs.Effect.{Database}
use Rattle.sqlite.specs.State.{State}
use Rattle.sqlite.specs.Schema.{Schema}
use Rattle.sqlite_catalog.specs.Listing.{IsSound}
use Rattle.gm_rows.specs.Rows.{about_numbered, about_values}
use Rattle.gm_rows.specs.Says.{shown_about}
use Rattle.gm_rows.specs.Schema.{first_schema, no_schema, registry_schema}
use Rattle.gm_rows.specs.Tables.{IsEmpty}
use Rattle.gm_registry.specs.Listing.{Lists, ShowsList}
use Rattle.gm_registry.specs.declared.edition.Edition.{Edition}
use Rattle.gm_registry.specs.declared.edition.Edition.TheVariants.{First, Second}

-- an open connection outside a transaction, over a store without tables
pub record IsBlank (s : State) : Type 0 where
  pub is_open : IsTrue s.is_open
  pub autocommit : s.in_transaction ≡ false
  pub settled : s.now ≡ s.committed
  pub schema_is : s.now.schema ≡ no_schema

-- within a transaction over this commit, with these tables
pub record IsInsideOver (schema : Schema) (first : Database) (s : State) : Type 0 where
  pub is_open : IsTrue s.is_open
  pub inside : s.in_transaction ≡ true
  pub first_is : s.committed ≡ first
  pub schema_is : s.now.schema ≡ schema

-- the same, with no table yet
abbrev pub IsBlankInside : Database → State → Type 0
IsBlankInside = IsInsideOver no_schema

-- within a transaction over this commit, with the six tables: `about` has these rows,
-- `patches` none, and the others those of these trees
pub record IsBeingMade (about : List Row) (rows : Trees) (first : Database) (s : State) : Type 0
  where
    pub is_open : IsTrue s.is_open
    pub inside : s.in_transaction ≡ true
    pub first_is : s.committed ≡ first
    pub schema_is : s.now.schema ≡ registry_schema
    pub sound : IsSound registry_schema s.now.trees
    pub about_is : s.now.trees 0 ≡ about
    pub mirrors : s.now.trees 1 ≡ rows 1
    pub components : s.now.trees 4 ≡ rows 4
    pub intents : s.now.trees 7 ≡ rows 7
    pub commands : s.now.trees 8 ≡ rows 8
    pub patches : s.now.trees 11 ≡ []

-- the same with these trees and this commit
abbrev pub HasAbout : List Row → Trees × Database → State → Type 0
HasAbout about over = IsBeingMade about over.0 over.1

-- trees without a row
abbrev pub no_rows : Trees
no_rows tree = []

-- ---- the two schemas of a registry

abbrev pub schema_of : Edition → Schema
schema_of First = first_schema
schema_of Second = registry_schema

-- its number in `about`
abbrev pub number_of : Edition → ℕ
number_of First = 1
number_of Second = 2

-- the two numbers of a record of `about`
abbrev pub about_numbers : Row → Row
about_numbers row = column row 0 ∷ column row 2 ∷ []

-- `about` has the one record (1, its number)
abbrev pub IsNumbered : Edition → Trees → Type 0
IsNumbered edition db = map about_numbers (db 0) ≡ shown_about (number_of edition) ∷ []

-- the schema is one of them
abbrev pub IsOfRegistry : Schema → Type 0
IsOfRegistry schema = (edition : Edition) × (schema ≡ schema_of edition)

-- a store that lists the tables of this schema, with the one record of `about`
pub record IsOfEdition (edition : Edition) (db : Trees) : Type 0 where
  pub sound : IsSound (schema_of edition) db
  pub listed : Lists edition db
  pub numbered : IsNumbered edition db

-- an opening takes such a store: one without tables, or one of either schema
abbrev pub IsOpenable : Trees → Type 0
IsOpenable db = IsEmpty db ⊎ ((edition : Edition) × IsOfEdition edition db)

-- tables that aren't listed as those of a registry are
pub record IsForeign (db : Trees) : Type 0 where
  pub schema : Schema
  pub sound : IsSound schema db
  pub some : schema ≢ no_schema
  pub shows : ShowsList schema
  pub other : (edition : Edition) → ¬ (Lists edition db)

-- a store that has the tables of a registry, of either schema
abbrev pub HasOurTables : Trees → Type 0
HasOurTables db = (edition : Edition) × IsSound (schema_of edition) db

-- a store that has tables, those of a registry or others
abbrev pub HasSomeTables : Trees → Type 0
HasSomeTables db = HasOurTables db ⊎ IsForeign db

-- what can be told of a store: that it has no tables, or those of a registry, or others
abbrev pub IsKnownStore : Trees → Type 0
IsKnownStore db = IsEmpty db ⊎ HasSomeTables db

-- it sees tables of one of them
abbrev pub SeesOneOfThem : State → Type 0
SeesOneOfThem s = IsOfRegistry s.now.schema

-- ---- a store of the first schema that is carried over

-- an open connection outside a transaction, over the tables of the first schema, whatever they hold
pub record SeesFirstStore (s : State) : Type 0 where
  pub is_open : IsTrue s.is_open
  pub autocommit : s.in_transaction ≡ false
  pub schema_is : s.committed.schema ≡ first_schema
  pub settled : s.now ≡ s.committed
  pub sound : IsSound first_schema s.committed.trees

-- the same with the one record of `about`
pub record SeesFirstRegistry (s : State) : Type 0 where
  pub store : SeesFirstStore s
  pub about : s.committed.trees 0 ≡ about_numbered 1 ∷ []

-- within a transaction over such a commit, with nothing written yet
pub record IsFirstInside (first : Database) (s : State) : Type 0 where
  pub over : IsInsideOver first_schema first s
  pub seen : s.now ≡ first
  pub about : first.trees 0 ≡ about_numbered 1 ∷ []

-- it is open, outside a transaction, and nothing was committed
pub record IsAsBefore (old new : State) : Type 0 where
  pub is_open : IsTrue new.is_open
  pub autocommit : new.in_transaction ≡ false
  pub settled : new.now ≡ new.committed
  pub committed_is : new.committed ≡ old.committed

-- the store of the second schema with these rows, and no bytes
pub record IsCarriedOver (old new : Trees) : Type 0 where
  pub sound : IsSound registry_schema new
  pub about : new 0 ≡ about_values ∷ []
  pub mirrors : new 1 ≡ old 1
  pub components : new 4 ≡ old 4
  pub intents : new 7 ≡ old 7
  pub commands : new 8 ≡ old 8
  pub patches : new 11 ≡ []
