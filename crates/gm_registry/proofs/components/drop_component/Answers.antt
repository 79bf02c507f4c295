use Rattle.gm_registry.proofs.ChangedTables.{drops_component}
use Rattle.gm_registry.proofs.FittingDeletes.{drop_component_stops, drop_component_whole}
use Rattle.gm_registry.proofs.InsideCalls.{executes}
use Rattle.gm_registry.proofs.NumberedSteps.{drop_component_numbers}
use Rattle.gm_registry.proofs.TextMeanings.{drop, drop_component_is}
use Rattle.gm_registry.proofs.Common.{without_component, drop_component_text, Text, [], ◌∷◌, refl, ⊤}
use Rattle.gm_registry.proofs.components.drop_component.Goals as goal

pub returns : goal.returns
returns g c =
    executes drop_component_text (Text c.args.provider ∷ []) (drop 2 4)
    drop_component_is drop_component_whole refl refl (λ old new text count h. h)
    (without_component c.args.provider) (drops_component c.args.provider) (λ _ _. ⊤)
    (drop_component_stops c.args.provider) 0 (drop_component_numbers c.args.provider)
    g.S.Store c.args.tx.now c.execute.new.self c.execute.result c.execute.ensures.same_reference
    c.execute.ensures.survives c.execute.ensures.ended
    (λ clean. rw (c.params-to_sql.ensures, c.as_str.ensures.text) at (c.execute.ensures.runs clean))
