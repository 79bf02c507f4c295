use Rattle.gm_registry.proofs.Common.{take, Has, Further}
use Rattle.gm_state.specs.World.{ReplyFits}
use Rattle.gm_registry.proofs.accept.are_in_range.Given as goal

abbrev pub invariant-looks : goal.invariant-looks
invariant-looks l = (f : Further) → Has (take l.f-index l.f-items) f → ReplyFits f.reply
