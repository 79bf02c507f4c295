use Rattle.gm_json.proofs.Common.{◌∙◌, ap, map, view, difference_data}
use Rattle.gm_json.proofs.Grown.{one_more}
use Rattle.gm_json.proofs.audits.difference_values.Goals as goal

pub loop-difference-preserved : goal.loop-difference-preserved
loop-difference-preserved c =
    ap (map view) c.in_ok-push.ensures.items
    ∙ one_more (difference_data c.args.differ.now) view c.args.differ.now
    c.loop-difference.difference-index
    c.difference-item.result c.loop-difference.values.items c.in_ok-difference_value.field-0
    c.loop-difference-test.true c.difference-item.is c.loop-difference.invariant
    c.in_ok-difference_value.ensures
