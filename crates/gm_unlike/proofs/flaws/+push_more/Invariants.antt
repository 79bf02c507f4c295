use Rattle.std.proofs.Common.{length}
use Rattle.gm_unlike.proofs.flaws.+push_more.Given as goal

abbrev pub decreases-push_more : goal.decreases-push_more
decreases-push_more l = length l.names.now
