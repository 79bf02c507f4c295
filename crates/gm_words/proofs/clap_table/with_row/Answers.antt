use Rattle.gm_words.proofs.Common.{◌∙◌, ap, IfOk-weaker, app_of, with_subcommand}
use Rattle.clap.specs.Words.{App}
use Rattle.gm_words.proofs.clap_table.with_row.Goals as goal

pub returns : goal.returns
returns c =
    IfOk-weaker c.with_command.result _ _
    (λ r made. made ∙ ap (λ (a : App). with_subcommand (app_of c.args.command) a.top)
    c.in_ok-more.ensures.app) c.with_command.ensures
