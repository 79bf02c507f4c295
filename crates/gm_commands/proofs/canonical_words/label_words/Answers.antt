use Rattle.gm_commands.proofs.Common.{◌∙◌, string_bytes}
use Rattle.gm_commands.proofs.JoinedWords.{label_line, ok_is}
use Rattle.gm_commands.proofs.canonical_words.label_words.Goals as goal

pub returns : goal.returns
returns c =
    ok_is c.label_line.result string_bytes _ _
    (label_line c.args.new.now
    c.deref.result.now c.deref-2.result.now c.name-balance.result.now c.on_where-autosync.result.now
    c.on_where-failsync.result.now c.on_where-hardcode.result.now c.bytes.result
    (c.deref.ensures ∙ c.in_ok-numbers.ensures) (c.deref-2.ensures ∙ c.in_ok-switches.ensures)
    (rw c.name-balance.ensures (rw c.balance.ensures)) c.bytes.ensures.value
    c.on_where-autosync.ensures c.on_where-failsync.ensures c.on_where-hardcode.ensures)
    c.label_line.ensures
