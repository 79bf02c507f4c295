use Rattle.gm_registry.proofs.ChangedTables.{puts_patch}
use Rattle.gm_registry.proofs.FittingPatches.{put_patch_stops, put_patch_whole}
use Rattle.gm_registry.proofs.InsideCalls.{executes}
use Rattle.gm_registry.proofs.NumberedSteps.{put_patch_numbers}
use Rattle.gm_registry.proofs.TextMeanings.{patch_terms, put_patch_is}
use Rattle.gm_registry.proofs.Common.{with_patch, TakesPatch, put_patch_text, Insert, Values, Blob, [], ◌∷◌, refl}
use Rattle.gm_registry.proofs.patches.put_row.Goals as goal

pub returns : goal.returns
returns g c =
    executes put_patch_text (Blob c.args.bytes.now ∷ []) (Insert 5 (Values patch_terms 3))
    put_patch_is put_patch_whole refl refl (λ old new text count h. h)
    (with_patch c.args.bytes.now) (puts_patch c.args.bytes.now) (λ _. TakesPatch c.args.bytes.now)
    (put_patch_stops c.args.bytes.now) 0 (put_patch_numbers c.args.bytes.now)
    g.S.Store c.args.tx.now c.execute.new.self c.execute.result c.execute.ensures.same_reference
    c.execute.ensures.survives c.execute.ensures.ended
    (λ clean. rw (c.params-to_sql.ensures) at (c.execute.ensures.runs clean))
