use Rattle.gm_json.proofs.Common.{◌∙◌, ap, map, view, held_component}
use Rattle.gm_json.proofs.Grown.{one_more}
use Rattle.gm_json.proofs.shown.held_components.Goals as goal

pub loop-component-preserved : goal.loop-component-preserved
loop-component-preserved c =
    ap (map view) c.in_ok-push.ensures.items
    ∙ one_more (held_component c.args.m.now) view c.args.members.now
    c.loop-component.component-index
    c.component-item.result c.loop-component.values.items c.in_ok-held_component.field-0
    c.loop-component-test.true c.component-item.is c.loop-component.invariant
    c.in_ok-held_component.ensures
