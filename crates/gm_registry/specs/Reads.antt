-- The form that code goes by: calls that only read, over the schema of a registry.
use Rattle.std.specs.Prelude.{◌≡◌}
use Rattle.sqlite.specs.Schema.{Schema}
use Rattle.sqlite.specs.State.{State}
use Rattle.sqlite_rows.specs.Reads.{HasReadOver, HasFailedOver}
use Rattle.gm_rows.specs.Schema.{registry_schema}

abbrev pub IsOurSchema : Schema → Type 0
IsOurSchema schema = schema ≡ registry_schema

-- it sees the tables of a registry
abbrev pub IsOurs : State → Type 0
IsOurs s = IsOurSchema s.now.schema

-- a read of our tables that was answered
abbrev pub HasRead : State → State → Type 0
HasRead = HasReadOver IsOurSchema

-- one that failed
abbrev pub HasFailed : State → State → Type 0
HasFailed = HasFailedOver IsOurSchema
