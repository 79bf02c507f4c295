use Rattle.gm_registry.proofs.ChangedTables.{upserts_mirror}
use Rattle.gm_registry.proofs.FittingIntents.{text_of_label}
use Rattle.gm_registry.proofs.FittingMirrors.{put_mirror_stops, upsert_mirror_whole}
use Rattle.gm_registry.proofs.InsideCalls.{executes}
use Rattle.gm_registry.proofs.NumberedSteps.{put_mirror_numbers}
use Rattle.gm_registry.proofs.TextMeanings.{upsert, upsert_mirror_is}
use Rattle.gm_registry.proofs.Common.{with_mirror, TakesMirror, mirror_values, upsert_mirror_text, mirror_row, ◌*◌, ◌<◌, arith, length, refl, subst, w64, to_z_pos}
use Rattle.gm_registry.proofs.mirrors.put_mirror.Goals as goal

pub returns : goal.returns
returns g c =
    let row = mirror_row c.args.mirror in
    executes upsert_mirror_text (mirror_values row) (upsert 1 1)
    upsert_mirror_is upsert_mirror_whole refl refl (λ old new text count h. h)
    (with_mirror row) (upserts_mirror row) (TakesMirror row)
    (put_mirror_stops row (subst (λ n. length n < 16) c.as_str.ensures.text
    (text_of_label _ _ c.as_str.ensures.text c.as_str.ensures.label))) 1 (put_mirror_numbers row)
    g.S.Store c.args.tx.now c.execute.new.self c.execute.result c.execute.ensures.same_reference
    c.execute.ensures.survives c.execute.ensures.ended
    (λ clean. rw (
      c.params-to_sql.ensures,
      c.params-to_sql-2.ensures,
      c.params-to_sql-3.ensures,
      c.params-to_sql-4.ensures,
      c.params-to_sql-5.ensures,
      c.params-to_sql-6.ensures,
      c.params-to_sql-7.ensures,
      c.params-to_sql-8.ensures,
      c.params-to_sql-9.ensures,
      c.as_str.ensures.text,
      c.from.ensures,
      c.balance_number.ensures,
      c.bytes_in.ensures.value,
      to_z_pos w64 (512 * c.args.mirror.data_sectors) (omega (arith, c.bytes_in.ensures.fits)),
      c.mirror_number.ensures,
    ) at (c.execute.ensures.runs clean))
