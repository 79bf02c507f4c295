use Rattle.gm_words.proofs.Common.{ap₂, ◌∙◌, with_rule, with_word}
use Rattle.gm_words.proofs.Folding.{fold_more}
use Rattle.gm_words.proofs.clap_table.command_with.Goals as goal

pub loop-more-preserved : goal.loop-more-preserved
loop-more-preserved c = record {
  app = fold_more with_word _ c.args.words.now c.loop-more.more-index _ _ c.loop-more-test.true
      (c.in_ok-command.ensures.app ∙ ap₂ with_rule c.loop-more.invariant.app c.arg.ensures.rule);
  local = c.in_ok-command.ensures.local ∙ c.loop-more.invariant.local;
}
