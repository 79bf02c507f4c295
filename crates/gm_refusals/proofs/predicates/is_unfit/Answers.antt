use Rattle.gm_refusals.proofs.Common.{◌∙◌, not, ap, seen_in, is_adoptable}
use Rattle.gm_refusals.proofs.predicates.is_unfit.Goals as goal

pub returns-in-Adopt : goal.returns-in-Adopt
returns-in-Adopt c =
    rw c.in-Adopt.is
    (ap not (c.is_adoptable.ensures
    ∙ ap (is_adoptable (seen_in c.args.facts.now) c.in-Adopt.name) c.as_slice.ensures.value))
