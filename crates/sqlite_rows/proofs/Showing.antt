-- What a connection that was just opened shows.
use Rattle.sqlite_rows.proofs.Common.{◌≡◌, IsTrue, false, Schema, Trees, State, IsLive, IsSound, Holds, HasRecords}
use Rattle.sqlite_catalog.proofs.ReadLemmas.{lists_once}
use Rattle.sqlite_trees.specs.Objects.{catalog_tree}

-- trees list one schema
pub one_schema : (s : State) (schema : Schema) → IsTrue s.is_open → IsLive s
    → IsSound schema s.committed.trees → s.committed.schema ≡ schema
one_schema s schema is_open live sound =
    lists_once (s.committed.trees catalog_tree) s.committed.schema schema
    (live is_open).1.lists sound.lists

pub opened : {R : Type 0} (schema : Schema) (Rows : Trees → R → Type 0) (s : State) (r : R)
    → IsTrue s.is_open → s.in_transaction ≡ false → s.now ≡ s.committed → IsLive s
    → Holds schema Rows s.committed.trees r → HasRecords schema Rows s r
opened schema Rows s r is_open autocommit settled live holds = record {
  is_open = is_open;
  autocommit = autocommit;
  schema_is = one_schema s schema is_open live holds.sound;
  settled = settled;
  tables = holds;
}
