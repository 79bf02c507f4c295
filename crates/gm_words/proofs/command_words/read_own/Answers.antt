use Rattle.gm_words.proofs.Common.{◌∷◌, ◌∙◌, sym, texts, app_of}
use Rattle.gm_words.proofs.OneCommand.{simple_one}
use Rattle.gm_words.proofs.ParsedTable.{answered, some_at, spelled_alone, spelled_none}
use Rattle.gm_words.proofs.command_words.read_own.Goals as goal

pub returns-in_ok-command_of-in-Ok : goal.returns-in_ok-command_of-in-Ok
returns-in_ok-command_of-in-Ok c =
    let own = texts c.args.own.now in
    let alike = c.requires own in
    answered _ _ (spelled_alone _ c.args.word.now own _ alike (c.in-Ok.ensures.kinds alike.simple)
    (c.in-Ok.ensures.matches (simple_one (app_of c.args.command) alike.simple)).0
    ∙ (sym c.in_ok-command_of-in-Ok.ensures ∙ c.ok_or.ensures.ok_part))

-- another error than want of memory tells a fault of the words
pub returns-in_ok-words_fault-in-Err : goal.returns-in_ok-words_fault-in-Err
returns-in_ok-words_fault-in-Err c =
    let own = texts c.args.own.now in
    let alike = c.requires own in
    spelled_none (c.args.word.now ∷ own)
    (λ none. some_at _ c.in-Err.e (c.in-Err.ensures.kinds alike.simple)
    c.in_ok-words_fault-in-Err.ensures (alike.faults ∙ none))
