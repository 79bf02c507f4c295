use Rattle.gm_registry.proofs.Written.{change_held, change_intents, change_patches, change_commands}
use Rattle.gm_registry.proofs.laws.change_holds.Goals as goal

pub returns : goal.returns
returns c ch key words t = record {
  records = λ s. change_held ch key words s t;
  intents = change_intents ch key words t;
  patches = change_patches ch key words t;
  commands = change_commands ch key words t;
}
