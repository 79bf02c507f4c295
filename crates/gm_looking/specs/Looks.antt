-- How a look at a registry without an opening ends.
use Rattle.std.specs.Prelude.{◌≡◌}
use Rattle.gm_command_line.specs.declared.job.Look.{Look}
use Rattle.gm_command_line.specs.declared.job.Look.TheVariants as look
use Rattle.gm_process.specs.declared.status.Status.{Status}
use Rattle.gm_process.specs.declared.status.Status.TheVariants.{Done}
use Rattle.gm_process.specs.Statuses.{MayRefuse}

-- what is looked at without an opening is shown; an audit may find damage
abbrev pub MayShow : Look → Status → Type 0
MayShow (look.Status form) status = status ≡ Done
MayShow (look.List form) status = status ≡ Done
MayShow (look.Audit form) status = MayRefuse status
