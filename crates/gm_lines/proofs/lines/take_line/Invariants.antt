use Rattle.gm_lines.proofs.Common.{Begins}
use Rattle.gm_lines.proofs.lines.take_line.Given as goal

abbrev pub invariant-loop : goal.invariant-loop
invariant-loop g l =
    Begins (g.R.Read.remaining l.fn.reader) (g.R.Read.remaining l.reader) l.line l.count
