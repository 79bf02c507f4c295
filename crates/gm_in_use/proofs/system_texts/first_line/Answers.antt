use Rattle.gm_in_use.proofs.FirstLine.{some_line, starts_line, one_line}
use Rattle.gm_in_use.proofs.system_texts.first_line.Goals as goal

pub returns-clause-some : goal.returns-clause-some
returns-clause-some c = some_line _ _ _ c.lines.ensures.rest _ c.next.ensures.steps

pub returns-clause-first : goal.returns-clause-first
returns-clause-first c = starts_line _ _ _ c.lines.ensures.rest _ c.next.ensures.steps

pub returns-clause-one : goal.returns-clause-one
returns-clause-one c = one_line _ _ _ c.lines.ensures.rest _ c.next.ensures.steps
