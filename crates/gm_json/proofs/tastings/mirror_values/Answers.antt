use Rattle.gm_json.proofs.Common.{◌∙◌, ap, map, view, tasted_mirror}
use Rattle.gm_json.proofs.Grown.{one_more}
use Rattle.gm_json.proofs.tastings.mirror_values.Goals as goal

pub loop-group-preserved : goal.loop-group-preserved
loop-group-preserved c =
    ap (map view) c.in_ok-push.ensures.items
    ∙ one_more tasted_mirror view c.args.groups.now c.loop-group.group-index
    c.group-item.result c.loop-group.values.items c.in_ok-mirror_value.field-0
    c.loop-group-test.true c.group-item.is c.loop-group.invariant
    c.in_ok-mirror_value.ensures
