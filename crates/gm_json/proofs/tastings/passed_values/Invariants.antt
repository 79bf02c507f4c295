use Rattle.gm_json.proofs.Common.{◌≡◌, map, take, view, passed_data}
use Rattle.gm_json.proofs.tastings.passed_values.Given as goal

abbrev pub invariant-loop-x : goal.invariant-loop-x
invariant-loop-x l =
    map view l.values.items ≡ map passed_data (take l.x-index l.fn.passed)
