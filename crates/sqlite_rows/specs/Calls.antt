-- What a connection holds, if it is known by records what its tables hold.
use Rattle.std.specs.Prelude.{◌≡◌, true, false, IsTrue}
use Rattle.sqlite.specs.Schema.{Schema}
use Rattle.sqlite.specs.Tree.{Trees}
use Rattle.sqlite.specs.Effect.{Database}
use Rattle.sqlite.specs.State.{State}
use Rattle.sqlite_catalog.specs.Listing.{IsSound}

-- the trees hold these records, as `HasRows` reads them, and list the tables of the schema
pub record Holds {R : Type 0} (schema : Schema) (HasRows : Trees → R → Type 0) (db : Trees)
    (r : R) : Type 0 where
  pub rows : HasRows db r
  pub sound : IsSound schema db

-- an open connection outside a transaction, over tables of the schema with these records
pub record HasRecords {R : Type 0} (schema : Schema) (HasRows : Trees → R → Type 0) (s : State)
    (r : R) : Type 0 where
  pub is_open : IsTrue s.is_open
  pub autocommit : s.in_transaction ≡ false
  pub schema_is : s.committed.schema ≡ schema
  pub settled : s.now ≡ s.committed
  pub tables : Holds schema HasRows s.committed.trees r

-- within a transaction over this commit, whose tables have these records
pub record IsInside {R : Type 0} (schema : Schema) (HasRows : Trees → R → Type 0) (first : Database)
    (s : State) (r : R) : Type 0 where
  pub is_open : IsTrue s.is_open
  pub inside : s.in_transaction ≡ true
  pub first_is : s.committed ≡ first
  pub schema_is : s.now.schema ≡ schema
  pub tables : Holds schema HasRows s.now.trees r
