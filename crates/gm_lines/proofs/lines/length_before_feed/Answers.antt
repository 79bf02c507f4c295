use Rattle.gm_lines.proofs.TakenLines.{one_line_before}
use Rattle.gm_lines.proofs.lines.length_before_feed.Goals as goal

pub returns-clause-line : goal.returns-clause-line
returns-clause-line c = rw c.unwrap_or.ensures (one_line_before _ _ c.memchr.ensures)
