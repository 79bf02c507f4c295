use Rattle.gm_stop_law.proofs.Law.{never}
use Rattle.gm_stop_law.proofs.laws.nothing_left_is_strange.Goals as goal

pub returns : goal.returns
returns g c = λ all events now runs.
    never g.S.Store g.H.Shelf all now.phase now.away now.accepted now.acknowledged
    (c.whole_run_law.ensures.headline all events now runs)
