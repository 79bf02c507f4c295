use Rattle.gm_front.proofs.Common.{Keeps}
use Rattle.gm_front.proofs.answer_lines.write_some.Given as goal

abbrev pub invariant-loop : goal.invariant-loop
invariant-loop g l = Keeps (g.W.Write.contents l.fn.writer) (g.W.Write.contents l.writer)
