use Rattle.gm_http.proofs.OnRoutes.{commands_target, metadata_target, mirror_target, only_metadata, only_mirrors, status_target}
use Rattle.gm_http.proofs.laws.targets.Goals as goal

pub returns : goal.returns
returns c = record {
  status = status_target;
  mirror = mirror_target;
  metadata = metadata_target;
  commands = commands_target;
  no_other_mirror = only_mirrors;
  no_other_provider = only_metadata;
}
