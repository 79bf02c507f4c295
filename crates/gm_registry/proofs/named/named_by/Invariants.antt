use Rattle.gm_registry.proofs.Common.{take}
use Rattle.gm_registry.specs.Named.{AreNamed}
use Rattle.gm_registry.proofs.named.named_by.Given as goal

abbrev pub invariant-loop-row : goal.invariant-loop-row
invariant-loop-row l = AreNamed (take l.row-index l.rows) l.names.items
