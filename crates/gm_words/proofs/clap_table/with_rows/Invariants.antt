use Rattle.gm_words.proofs.Common.{◌≡◌, take, app_of, with_rows}
use Rattle.gm_words.proofs.clap_table.with_rows.Given as goal

abbrev pub invariant-loop-row : goal.invariant-loop-row
invariant-loop-row l =
    app_of l.command ≡ with_rows (app_of l.initial.command) (take l.row-index l.rows)
