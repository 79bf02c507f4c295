use Rattle.gm_words.proofs.Common.{with_row}
use Rattle.gm_words.proofs.Folding.{fold_next}
use Rattle.gm_words.proofs.clap_table.with_rows.Goals as goal

pub loop-row-preserved : goal.loop-row-preserved
loop-row-preserved c =
    fold_next with_row _ c.args.rows.now c.loop-row.row-index _ _ _ c.loop-row-test.true
    c.loop-row.invariant c.in_ok-command.ensures
