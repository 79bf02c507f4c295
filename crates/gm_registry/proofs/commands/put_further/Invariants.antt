use Rattle.gm_registry.proofs.Common.{◌≡◌, ◌+◌, length, take, with_further}
use Rattle.gm_registry.proofs.InsideCalls.{Did}
use Rattle.gm_registry.proofs.commands.put_further.Given as goal

abbrev pub invariant-puts : goal.invariant-puts
invariant-puts g l =
    (l.last ≡ l.number + l.f-index)
    × Did g.S.Store l.fn.tx l.tx
    (with_further (take l.f-index l.further) (l.number + 1) l.words)
    (length (take l.f-index l.further))
