use Rattle.gm_registry.proofs.ChangedTables.{upserts_component}
use Rattle.gm_registry.proofs.FittingComponents.{put_component_stops, upsert_component_whole}
use Rattle.gm_registry.proofs.FittingIntents.{text_of_label}
use Rattle.gm_registry.proofs.InsideCalls.{executes}
use Rattle.gm_registry.proofs.NumberedSteps.{put_component_numbers}
use Rattle.gm_registry.proofs.TextMeanings.{upsert, upsert_component_is}
use Rattle.gm_registry.proofs.Common.{with_component, TakesComponent, component_values, upsert_component_text, component_row, ◌*◌, ◌<◌, arith, length, refl, subst, w64, to_z_pos}
use Rattle.gm_state.specs.Disks.{held_of}
use Rattle.gm_registry.proofs.components.put_component.Goals as goal

pub returns : goal.returns
returns g c =
    let row = component_row c.args.component in
    executes upsert_component_text (component_values row) (upsert 2 4)
    upsert_component_is upsert_component_whole refl refl (λ old new text count h. h)
    (with_component row) (upserts_component row) (TakesComponent row)
    (put_component_stops row (subst (λ n. length n < 16) c.as_str.ensures.text
    (text_of_label _ _ c.as_str.ensures.text c.as_str.ensures.label))
    (subst (λ n. length n < 16) c.as_str-2.ensures.text
    (text_of_label _ _ c.as_str-2.ensures.text c.as_str-2.ensures.label))) 1 (put_component_numbers
    row)
    g.S.Store c.args.tx.now c.execute.new.self c.execute.result c.execute.ensures.same_reference
    c.execute.ensures.survives c.execute.ensures.ended
    (λ clean. rw (
      c.params-to_sql.ensures,
      c.params-to_sql-2.ensures,
      c.params-to_sql-3.ensures,
      c.params-to_sql-4.ensures,
      c.params-to_sql-5.ensures,
      c.params-to_sql-6.ensures,
      c.params-to_sql-7.ensures,
      c.params-to_sql-8.ensures,
      c.params-to_sql-9.ensures,
      c.as_str.ensures.text,
      c.as_str-2.ensures.text,
      c.from.ensures,
      c.bytes_in.ensures.value,
      c.held.ensures,
      to_z_pos w64 (512 * held_of c.args.component.disk) (omega (
        arith,
        c.bytes_in.ensures.fits,
        c.held.ensures,
      )),
      c.disk_number.ensures,
      c.flags.ensures,
      c.truth_number.ensures,
      c.bytes_in-2.ensures.value,
      to_z_pos w64 (512 *
          c.args.component.sectors) (omega (arith, c.bytes_in-2.ensures.fits)),
    ) at
    (c.execute.ensures.runs clean))
