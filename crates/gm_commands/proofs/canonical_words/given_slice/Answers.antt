use Rattle.gm_commands.proofs.Common.{codes, decimal, string_bytes}
use Rattle.gm_commands.proofs.JoinedWords.{ok_is, spaced_pair}
use Rattle.gm_commands.proofs.canonical_words.given_slice.Goals as goal

pub returns-in-Some : goal.returns-in-Some
returns-in-Some c =
    rw (c.in-Some.is, ← c.bytes-bytes.ensures.value)
    (ok_is c.format.result string_bytes _ _
    (spaced_pair (codes "--slice") (decimal c.bytes-bytes.result)) c.format.ensures.ok)
