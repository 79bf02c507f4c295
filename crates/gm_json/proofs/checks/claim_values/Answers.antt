use Rattle.gm_json.proofs.Common.{◌∙◌, ap, map, view}
use Rattle.gm_json.specs.Checks.{claim_data}
use Rattle.gm_json.proofs.Grown.{one_more}
use Rattle.gm_json.proofs.checks.claim_values.Goals as goal

pub loop-claim-preserved : goal.loop-claim-preserved
loop-claim-preserved c =
    ap (map view) c.in_ok-push.ensures.items
    ∙ one_more claim_data view c.args.list.now c.loop-claim.claim-index
    c.claim-item.result c.loop-claim.values.items c.in_ok-claim_value.field-0
    c.loop-claim-test.true c.claim-item.is c.loop-claim.invariant
    c.in_ok-claim_value.ensures
