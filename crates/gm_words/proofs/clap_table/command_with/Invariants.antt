use Rattle.gm_words.proofs.Common.{◌≡◌, false, take, app_of, new_app, out-Command, with_words}
use Rattle.gm_words.proofs.clap_table.command_with.Given as goal

abbrev pub invariant-loop-more : goal.invariant-loop-more
invariant-loop-more l = record {
  app : app_of l.command ≡ with_words (new_app l.word) (take l.more-index l.words);
  local : (out-Command l.command).has_globals ≡ false;
}
