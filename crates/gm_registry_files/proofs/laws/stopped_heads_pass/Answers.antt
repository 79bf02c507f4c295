use Rattle.gm_registry_files.proofs.LogHeads.{stopped}
use Rattle.gm_registry_files.proofs.laws.stopped_heads_pass.Goals as goal

pub returns : goal.returns
returns c = stopped
