use Rattle.gm_json.proofs.Common.{◌∙◌, ap, map, view, tasted_component}
use Rattle.gm_json.proofs.Grown.{one_more}
use Rattle.gm_json.proofs.tastings.component_values.Goals as goal

pub loop-member-preserved : goal.loop-member-preserved
loop-member-preserved c =
    ap (map view) c.in_ok-push.ensures.items
    ∙ one_more tasted_component view c.args.members.now c.loop-member.member-index
    c.member-item.result c.loop-member.values.items c.in_ok-component_value.field-0
    c.loop-member-test.true c.member-item.is c.loop-member.invariant
    c.in_ok-component_value.ensures
