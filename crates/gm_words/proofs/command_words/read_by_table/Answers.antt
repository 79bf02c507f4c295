use Rattle.gm_words.proofs.Common.{◌∙◌, sym, texts}
use Rattle.gm_words.proofs.ParsedTable.{answered, spelled_by, spelled_none}
use Rattle.gm_words.proofs.command_words.read_by_table.Goals as goal

pub returns-in_ok-command_found-in-Ok : goal.returns-in_ok-command_found-in-Ok
returns-in_ok-command_found-in-Ok c =
    let words = texts c.args.words.now in
    answered _ _ (spelled_by words c.in-Ok.matches c.in-Ok.ensures.taken c.in-Ok.ensures.rows
    ∙ (sym c.in_ok-command_found-in-Ok.ensures ∙ c.ok_or.ensures.ok_part))

-- another error than want of memory tells a fault of the words
pub returns-in_ok-words_fault-in-Err : goal.returns-in_ok-words_fault-in-Err
returns-in_ok-words_fault-in-Err c =
    spelled_none (texts c.args.words.now)
    (c.in-Err.ensures.refused c.in_ok-words_fault-in-Err.ensures)
