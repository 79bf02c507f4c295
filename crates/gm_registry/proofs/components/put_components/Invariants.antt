use Rattle.gm_registry.proofs.Common.{length, take, with_components}
use Rattle.gm_registry.proofs.InsideCalls.{Did}
use Rattle.gm_registry.proofs.components.put_components.Given as goal

abbrev pub invariant-puts : goal.invariant-puts
invariant-puts g l =
    Did g.S.Store l.fn.tx l.tx (with_components (take l.component-index l.components))
    (length (take l.component-index l.components))
