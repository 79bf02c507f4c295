use Rattle.gm_words.proofs.Common.{◌∙◌, ap, IfOk-weaker, ◌||◌, Bool, or-false, out-Command}
use Rattle.gm_words.proofs.clap_table.with.Goals as goal

pub returns-clause-app : goal.returns-clause-app
returns-clause-app c =
    IfOk-weaker c.arg.result _ _ (λ r adds. adds.shape c.requires) c.arg.ensures

pub returns-clause-local : goal.returns-clause-local
returns-clause-local c =
    let globals = (out-Command c.args.command).has_globals in
    IfOk-weaker c.arg.result _ _
    (λ r adds. adds.globals ∙ (ap (λ (b : Bool). globals || b) c.requires ∙ or-false globals))
    c.arg.ensures
