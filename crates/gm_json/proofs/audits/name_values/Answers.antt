use Rattle.gm_json.proofs.Common.{◌∙◌, ap, map, string, view}
use Rattle.gm_json.proofs.Grown.{one_more}
use Rattle.gm_json.proofs.audits.name_values.Goals as goal

pub loop-name-preserved : goal.loop-name-preserved
loop-name-preserved c =
    ap (map view) c.in_ok-push.ensures.items
    ∙ one_more string view c.args.names.now c.loop-name.name-index
    c.name-item.result c.loop-name.values.items c.in_ok-try_from_str.field-0
    c.loop-name-test.true c.name-item.is c.loop-name.invariant
    (c.in_ok-try_from_str.ensures ∙ ap string c.as_str.ensures.text)
