use Rattle.gm_registry.proofs.ChangedTables.{puts_command}
use Rattle.gm_registry.proofs.FittingCommands.{put_command_stops, put_command_whole}
use Rattle.gm_registry.proofs.InsideCalls.{executes}
use Rattle.gm_registry.proofs.NumberedSteps.{put_command_numbers}
use Rattle.gm_registry.proofs.TextMeanings.{command_terms, put_command_is}
use Rattle.gm_registry.proofs.Common.{row_under, with_command, TakesCommand, command_values, put_command_text, Insert, Values, refl}
use Rattle.gm_registry.proofs.commands.put_row.Goals as goal

pub returns : goal.returns
returns g c =
    let row = row_under c.args.key.now c.args.number c.args.words.now c.args.copied
    c.args.of_total in
    executes put_command_text (command_values row) (Insert 4 (Values command_terms 6))
    put_command_is put_command_whole refl refl (λ old new text count h. h)
    (with_command row) (puts_command row) (TakesCommand row.call_key row.words row.seq)
    (put_command_stops row) 1 (put_command_numbers row)
    g.S.Store c.args.tx.now c.execute.new.self c.execute.result c.execute.ensures.same_reference
    c.execute.ensures.survives c.execute.ensures.ended
    (λ clean. rw (
      c.params-to_sql.ensures,
      c.params-to_sql-2.ensures,
      c.params-to_sql-3.ensures,
      c.params-to_sql-4.ensures,
      c.params-to_sql-5.ensures,
    ) at (c.execute.ensures.runs clean))
