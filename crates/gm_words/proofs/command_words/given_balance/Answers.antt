use Rattle.gm_words.proofs.Common.{◌∙◌, ap, sym, Some, option_map, balance_in, if_given}
use Rattle.gm_words.proofs.command_words.given_balance.Goals as goal

pub returns-in_err-balance-in-Some : goal.returns-in_err-balance-in-Some
returns-in_err-balance-in-Some c =
    c.from_residual.ensures ∙ sym (ap (if_given balance_in) c.in-Some.ensures
    ∙ ap (option_map Some) (sym c.balance.ensures ∙ c.in_err-balance-in-Some.was))

pub returns-in_ok-balance-in-Some : goal.returns-in_ok-balance-in-Some
returns-in_ok-balance-in-Some c =
    sym (ap (if_given balance_in) c.in-Some.ensures
    ∙ ap (option_map Some) (sym c.balance.ensures ∙ c.in_ok-balance-in-Some.was))

pub returns-in-None : goal.returns-in-None
returns-in-None c = sym (ap (if_given balance_in) c.in-None.ensures)
