use Rattle.gm_words.proofs.Common.{ap, sym, yes_where}
use Rattle.gm_words.proofs.listing.yes_where.Goals as goal

pub returns-then-holds : goal.returns-then-holds
returns-then-holds c = sym (ap yes_where c.if-holds.true)

pub returns-else-holds : goal.returns-else-holds
returns-else-holds c = sym (ap yes_where c.if-holds.false)
