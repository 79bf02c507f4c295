-- What it means that all is well.
use Rattle.std.specs.Prelude.{◌≡◌, ◌<◌, true, [], length}
use Rattle.gm_metadata.specs.Images.{Image, Sizes}
use Rattle.gm_lists.specs.Ordered.{Has}
use Rattle.gm_state.specs.declared.records.Mirror.{Mirror}
use Rattle.gm_state.specs.declared.records.Component.{Component}
use Rattle.gm_state.specs.Intents.{IsOf}
use Rattle.gm_state.specs.Lookups.{is_active}
use Rattle.gm_state.specs.Records.{members}
use Rattle.gm_looks.specs.Audits.{IsAsRegistered}
use Rattle.gm_unlike.specs.Claims.{AreRegistered}
use Rattle.gm_unlike.specs.Unequals.{HoldEqualData}
use Rattle.gm_command_line.specs.declared.job.Checking.{Checking}
use Rattle.gm_registry_files.specs.declared.unopened.Whole.{Whole}

-- all is well with these records and these images
pub record IsAllWell (checking : Checking) (whole : Whole) (size : Sizes)
    (seen : Image) : Type 0 where
  -- there is a mirror
  pub some_mirror : (m : Mirror) × Has whole.loaded.state.mirrors m
  -- fewer than 95,000 commands were accepted, of the 100,000 that a registry takes
  pub room : whole.accepted < 95000
  -- no write is pending
  pub nothing_pending : whole.loaded.intents.items ≡ []
  -- each mirror has as many components as it has in all
  pub none_missing : (m : Mirror) → Has whole.loaded.state.mirrors m
      → length (members whole.loaded.state.components m.name) ≡ m.all
  -- each component is ACTIVE
  pub active : (m : Mirror) (k : Component) → IsOf whole.loaded.state m k
      → is_active k.disk ≡ true
  -- each has its image, of the registered size, whose last sector is byte for byte its metadata's
  pub images : (m : Mirror) (k : Component) → IsOf whole.loaded.state m k
      → IsAsRegistered size seen m k
  -- each image that carries the name and the number of a mirror is registered as its component,
  -- unless its genid is less than the mirror's: then it was given up
  pub no_claims : AreRegistered whole.loaded.state size seen
  -- if data were compared, each two components of a mirror hold equal data
  pub equal_data : checking.compares ≡ true → (m : Mirror) (j k : Component)
      → IsOf whole.loaded.state m j → IsOf whole.loaded.state m k → HoldEqualData seen m j k
