use Rattle.gm_changes.proofs.Common.{◌∙◌, ap, subst, List, Component, provider, Has, put, left_differs, put_without}
use Rattle.gm_changes.proofs.changed_state.with_component.Goals as goal

pub put-requires : goal.put-requires
put-requires c k h =
    left_differs provider c.args.new.provider c.args.components.now k
    (subst (λ (l : List Component). Has l k) c.in_ok-all.ensures h)

pub returns : goal.returns
returns c = c.in_ok-put.ensures.ok
    ∙ (ap (put provider c.args.new) c.in_ok-all.ensures
    ∙ put_without provider c.args.new c.args.components.now c.requires)
