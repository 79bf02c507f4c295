use Rattle.gm_json.proofs.Common.{◌≡◌, map, take, view}
use Rattle.gm_json.specs.Checks.{claim_data}
use Rattle.gm_json.proofs.checks.claim_values.Given as goal

abbrev pub invariant-loop-claim : goal.invariant-loop-claim
invariant-loop-claim l =
    map view l.values.items ≡ map claim_data (take l.claim-index l.fn.list)
