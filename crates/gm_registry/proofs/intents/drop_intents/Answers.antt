use Rattle.gm_registry.proofs.ChangedTables.{drops_intents}
use Rattle.gm_registry.proofs.FittingClears.{drop_intents_stops, settle_whole}
use Rattle.gm_registry.proofs.InsideCalls.{executes}
use Rattle.gm_registry.proofs.NumberedSteps.{drop_intents_numbers}
use Rattle.gm_registry.proofs.TextMeanings.{clear, settle_is}
use Rattle.gm_registry.proofs.Common.{without_intents, settle_text, [], refl, ⊤}
use Rattle.gm_registry.proofs.intents.drop_intents.Goals as goal

pub returns : goal.returns
returns g c =
    executes settle_text [] (clear 3 7)
    settle_is settle_whole refl refl (λ old new text count h. h)
    without_intents drops_intents (λ _ _. ⊤)
    drop_intents_stops 0 drop_intents_numbers
    g.S.Store c.args.tx.now c.execute.new.self c.execute.result c.execute.ensures.same_reference
    c.execute.ensures.survives c.execute.ensures.ended
    c.execute.ensures.runs
