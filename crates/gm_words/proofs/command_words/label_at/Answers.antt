use Rattle.gm_words.proofs.Common.{◌∙◌, ap, sym, option_and_then}
use Rattle.gm_words.specs.Spelling.{label_at, label_in}
use Rattle.gm_words.proofs.command_words.label_at.Goals as goal

pub returns-in_err-text_at : goal.returns-in_err-text_at
unfolding label_at
returns-in_err-text_at c =
    c.from_residual.ensures ∙ sym (ap (option_and_then label_in) c.in_err-text_at.ensures)

pub returns : goal.returns
unfolding label_at label_in
returns c = c.new.ensures ∙ sym (ap (option_and_then label_in) c.in_ok-text_at.ensures)
