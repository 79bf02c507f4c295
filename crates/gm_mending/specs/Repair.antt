-- The command that writes registered last sectors again.
use Rattle.std.specs.Prelude.{Bool, not, Some, None}
use Rattle.gm_commands.specs.declared.command.Command.{Command}
use Rattle.gm_commands.specs.declared.command.Command.TheVariants.{Configure}
use Rattle.gm_commands.specs.declared.command.Settings.{Settings}
use Rattle.gm_state.specs.declared.records.Mirror.{Mirror}

-- it sets whether a mirror fills its components by itself, and nothing else
abbrev pub autosync_alone : Bool → Settings
autosync_alone fills = record {
  balance = None;
  slice = None;
  autosync = Some fills;
  failsync = None;
  hardcode = None;
  preference = None;
}

-- the command that sets of a mirror what it already has
abbrev pub repair_of : Mirror → Command
repair_of m = Configure m.name (autosync_alone (not m.flags.no_autosync))
