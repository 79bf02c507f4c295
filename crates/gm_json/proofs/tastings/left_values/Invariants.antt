use Rattle.gm_json.proofs.Common.{◌≡◌, map, take, view, left_data}
use Rattle.gm_json.proofs.tastings.left_values.Given as goal

abbrev pub invariant-loop-x : goal.invariant-loop-x
invariant-loop-x l =
    map view l.values.items ≡ map left_data (take l.x-index l.fn.left)
