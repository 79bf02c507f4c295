use Rattle.gm_words.proofs.Canonical.{canonical, guarded}
use Rattle.gm_words.proofs.laws.canonical_words.Goals as goal

pub returns-clause-plain : goal.returns-clause-plain
returns-clause-plain c = canonical

pub returns-clause-guarded : goal.returns-clause-guarded
returns-clause-guarded c = guarded
