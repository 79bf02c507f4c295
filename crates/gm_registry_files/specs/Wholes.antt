-- What is read of a registry that isn't opened.
use Rattle.std.specs.Prelude.{◌≡◌}
use Rattle.gm_state.specs.Rows.{Tables}
use Rattle.gm_rows.specs.ReadableTables.{AreTablesOf}
use Rattle.gm_registry.specs.Replies.{count_of}
use Rattle.gm_registry_files.specs.declared.unopened.Told.{Told}

-- the tables are of these records, intents and bytes, and of so many commands
pub record IsTold (t : Tables) (told : Told) : Type 0 where
  pub loaded : AreTablesOf t told.loaded.state told.loaded.intents.items told.loaded.bytes.items
  pub accepted : told.accepted ≡ count_of t
