use Rattle.gm_words.proofs.Common.{IfOk-weaker}
use Rattle.gm_words.proofs.clap_table.with_command.Goals as goal

pub returns : goal.returns
returns c =
    IfOk-weaker c.subcommand.result _ _ (λ r adds. adds.shape c.requires) c.subcommand.ensures
