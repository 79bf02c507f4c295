use Rattle.gm_stopped.proofs.Common.{◌∙◌, ℕ, List, length, sym, ap}
use Rattle.gm_commands.specs.declared.command.Command.{Command}
use Rattle.gm_state.specs.declared.records.Component.{Component}
use Rattle.gm_stopped.specs.Losses.{before_loss, before_own}
use Rattle.gm_stopped.proofs.losses.before_loss.Goals as goal

pub returns-in_ok-members-in-Lost : goal.returns-in_ok-members-in-Lost
returns-in_ok-members-in-Lost c =
    let s = c.args.state.now in
    let ts = c.args.intents.now in
    c.before_own.ensures
    ∙ ap (λ (n : ℕ). before_own s c.in-Lost.name ts n)
    (ap (λ (ks : List Component). length ks)
    (c.as_slice-own.ensures.value ∙ c.in_ok-members-in-Lost.ensures.value))
    ∙ sym (ap (λ (command : Command). before_loss s ts command) c.in-Lost.is)
