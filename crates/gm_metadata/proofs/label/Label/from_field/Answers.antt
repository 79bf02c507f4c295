use Rattle.gm_metadata.proofs.Common.{rules}
use Rattle.gm_metadata.proofs.Labels.{field_that_passes}
use Rattle.gm_metadata.proofs.label.Label.from_field.Goals as goal

pub invariant_of-result : goal.invariant_of-result
invariant_of-result c = field_that_passes _ (search rules) (search rules)
