use Rattle.gm_commands.proofs.Common.{string_bytes}
use Rattle.gm_commands.proofs.JoinedWords.{row_line, ok_is}
use Rattle.gm_commands.proofs.canonical_words.row_words.Goals as goal

pub returns : goal.returns
returns c = let h = c.format.ensures.ok in
    ok_is c.format.result string_bytes _ _
    (row_line c.args.word.now c.args.name c.args.providers.now c.requires)
    (rw c.in_ok-providers.ensures.ok at h)
