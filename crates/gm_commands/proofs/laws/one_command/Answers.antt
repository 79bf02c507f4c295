use Rattle.gm_commands.proofs.OneCommand.{same_command}
use Rattle.gm_commands.proofs.laws.one_command.Goals as goal

pub returns : goal.returns
returns c = same_command
