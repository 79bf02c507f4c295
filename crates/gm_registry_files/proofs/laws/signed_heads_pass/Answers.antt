use Rattle.gm_registry_files.proofs.LogHeads.{signed}
use Rattle.gm_registry_files.proofs.laws.signed_heads_pass.Goals as goal

pub returns : goal.returns
returns c = signed
