use Rattle.gm_json.proofs.Common.{◌∙◌, ap, map, view, passed_data}
use Rattle.gm_json.proofs.Grown.{one_more}
use Rattle.gm_json.proofs.tastings.passed_values.Goals as goal

pub loop-x-preserved : goal.loop-x-preserved
loop-x-preserved c =
    ap (map view) c.in_ok-push.ensures.items
    ∙ one_more passed_data view c.args.passed.now c.loop-x.x-index
    c.x-item.result c.loop-x.values.items c.in_ok-passed_value.field-0
    c.loop-x-test.true c.x-item.is c.loop-x.invariant
    c.in_ok-passed_value.ensures
