use Rattle.gm_commands.proofs.Common.{codes, string_bytes, balance_words, given_switch, preference_words, slice_words}
use Rattle.gm_commands.proofs.JoinedWords.{configure_line, ok_is}
use Rattle.gm_commands.proofs.canonical_words.configure_words.Goals as goal

pub returns : goal.returns
returns c =
    let h = c.format.ensures.ok in
    let s = c.args.settings in
    ok_is c.format.result string_bytes _ _
    (configure_line (balance_words s.balance) (slice_words s.slice)
    (given_switch (codes "--autosync") s.autosync)
    (given_switch (codes "--failsync") s.failsync)
    (given_switch (codes "--hardcode") s.hardcode) (preference_words s.preference) c.args.name)
    (rw (
      c.in_ok-balance.ensures,
      c.in_ok-slice.ensures,
      c.in_ok-autosync.ensures,
      c.in_ok-failsync.ensures,
      c.in_ok-hardcode.ensures,
      c.in_ok-preference.ensures,
    ) at h)
