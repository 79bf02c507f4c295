-- What is to be compared of an image before its last sector is written again.
use Rattle.std.specs.Prelude.{◌==◌, ℕ, List, Option, Some, None, if◌then◌else◌}
use Rattle.gm_state.specs.declared.records.Mirror.{Mirror}
use Rattle.gm_state.specs.declared.records.Component.{Component}
use Rattle.gm_state.specs.Disks.{held_by}
use Rattle.gm_state.specs.Records.{Records}
use Rattle.gm_state.specs.Sources.{source_of}
use Rattle.gm_mending.specs.declared.owed.Owed.{Owed}
use Rattle.gm_mending.specs.declared.owed.Owed.TheVariants.{Nothing, With, Alone}

-- so many first sectors with those of the source, if there is one
abbrev pub owed_with : ℕ → Option (List ℕ) → Owed
owed_with n None = Alone
owed_with n (Some p) = With p n

-- the data sectors that the component holds by the registry: all if it is ACTIVE, those below its
-- offset if it is being filled, none if it is INACTIVE
abbrev pub owed_of : Records → Mirror → Component → Owed
owed_of s m k =
    if held_by k.disk m.data_sectors == 0 then Nothing
    else owed_with (held_by k.disk m.data_sectors) (source_of s k.provider)
