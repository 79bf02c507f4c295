use Rattle.gm_registry.proofs.Common.{take, without_components}
use Rattle.gm_registry.proofs.InsideCalls.{Did}
use Rattle.gm_registry.proofs.components.drop_components.Given as goal

abbrev pub invariant-drops : goal.invariant-drops
invariant-drops g l =
    Did g.S.Store l.fn.tx l.tx (without_components (take l.provider-index l.providers)) 0
