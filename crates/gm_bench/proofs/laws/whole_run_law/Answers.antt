use Rattle.gm_bench.proofs.AloneEntries.{alone}
use Rattle.gm_bench.proofs.Induction.{law}
use Rattle.gm_bench.proofs.laws.whole_run_law.Goals as goal

pub returns-clause-headline : goal.returns-clause-headline
returns-clause-headline g c all events now runs = law g.S.Store g.H.Shelf all events now runs

pub returns-clause-alone : goal.returns-clause-alone
returns-clause-alone g c all events now runs singles =
    alone g.S.Store g.H.Shelf all events now runs singles
