use Rattle.gm_json.proofs.Common.{◌∙◌, ap, map, view, in_the_way_data}
use Rattle.gm_json.proofs.Grown.{one_more}
use Rattle.gm_json.proofs.keyed.in_the_way_values.Goals as goal

pub loop-unlike-preserved : goal.loop-unlike-preserved
loop-unlike-preserved c =
    ap (map view) c.in_ok-push.ensures.items
    ∙ one_more in_the_way_data view c.args.list.now c.loop-unlike.unlike-index
    c.unlike-item.result c.loop-unlike.values.items c.in_ok-in_the_way_value.field-0
    c.loop-unlike-test.true c.unlike-item.is c.loop-unlike.invariant
    c.in_ok-in_the_way_value.ensures
