use Rattle.gm_registry.proofs.ChangedTables.{drops_mirror}
use Rattle.gm_registry.proofs.FittingDeletes.{drop_mirror_stops, drop_mirror_whole}
use Rattle.gm_registry.proofs.InsideCalls.{executes}
use Rattle.gm_registry.proofs.NumberedSteps.{drop_mirror_numbers}
use Rattle.gm_registry.proofs.TextMeanings.{drop, drop_mirror_is}
use Rattle.gm_registry.proofs.Common.{without_mirror, HasNoComponents, drop_mirror_text, Text, [], ◌∷◌, refl}
use Rattle.gm_registry.proofs.mirrors.drop_mirror.Goals as goal

pub returns : goal.returns
returns g c =
    executes drop_mirror_text (Text c.args.name ∷ []) (drop 1 1)
    drop_mirror_is drop_mirror_whole refl refl (λ old new text count h. h)
    (without_mirror c.args.name) (drops_mirror c.args.name) (λ _. HasNoComponents c.args.name)
    (drop_mirror_stops c.args.name) 0 (drop_mirror_numbers c.args.name)
    g.S.Store c.args.tx.now c.execute.new.self c.execute.result c.execute.ensures.same_reference
    c.execute.ensures.survives c.execute.ensures.ended
    (λ clean. rw (c.params-to_sql.ensures, c.as_str.ensures.text) at (c.execute.ensures.runs clean))
