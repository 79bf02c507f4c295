use Rattle.gm_lines.proofs.Common.{◌∙◌, ap, sym, asked, asked_of}
use Rattle.gm_lines.proofs.ahead.ahead_of.Goals as goal

pub returns-in-Ok : goal.returns-in-Ok
returns-in-Ok c =
    let same = c.in-Ok.ensures.items_if_clones_equal (λ x y e. e) in (
      (
        c.in-Ok-Call.field-0-0.now,
        ap asked same ∙ sym (ap asked_of (sym c.in-Ok-Call.field-0-is) ∙ c.in-Ok-Call.ensures),
      ),
      same,
    )
