use Rattle.gm_registry.proofs.ChangedTables.{drops_bytes}
use Rattle.gm_registry.proofs.FittingClears.{drop_bytes_stops, drop_patches_whole}
use Rattle.gm_registry.proofs.InsideCalls.{executes}
use Rattle.gm_registry.proofs.NumberedSteps.{drop_bytes_numbers}
use Rattle.gm_registry.proofs.TextMeanings.{clear, drop_patches_is}
use Rattle.gm_registry.proofs.Common.{without_bytes, drop_patches_text, [], refl, ⊤}
use Rattle.gm_registry.proofs.patches.drop_bytes.Goals as goal

pub returns : goal.returns
returns g c =
    executes drop_patches_text [] (clear 5 11)
    drop_patches_is drop_patches_whole refl refl (λ old new text count h. h)
    without_bytes drops_bytes (λ _ _. ⊤)
    drop_bytes_stops 0 drop_bytes_numbers
    g.S.Store c.args.tx.now c.execute.new.self c.execute.result c.execute.ensures.same_reference
    c.execute.ensures.survives c.execute.ensures.ended
    c.execute.ensures.runs
