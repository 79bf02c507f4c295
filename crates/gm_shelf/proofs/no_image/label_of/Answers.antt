use Rattle.gm_shelf.proofs.Common.{rules, ◌≡◌, ◌≤◌, false, refl, length, false_from_ne_true, is_label}
use Rattle.gm_metadata.proofs.Labels.{label_is_text}
use Rattle.gm_shelf.proofs.no_image.label_of.Goals as goal

pub returns-in_default-clause-none : goal.returns-in_default-clause-none
returns-in_default-clause-none c =
    let none = false_from_ne_true _ (λ h. c.in_default.ensures.cases.0 (label_is_text _ h)) in
    (λ _. none, λ _. refl)

pub returns-in_default-clause-other : goal.returns-in_default-clause-other
returns-in_default-clause-other c =
    let none : is_label c.args.name.now ≡ false =
    false_from_ne_true _ (λ h. c.in_default.ensures.cases.0 (label_is_text _ h)) in
    let short : length c.args.name.now ≤ 15 = search rules in
    (λ _. (none, short), λ _. refl)
