use Rattle.gm_json.proofs.Common.{◌≡◌, map, take, view, unlike_data}
use Rattle.gm_json.proofs.checks.unlike_values.Given as goal

abbrev pub invariant-loop-unlike : goal.invariant-loop-unlike
invariant-loop-unlike l =
    map view l.values.items ≡ map unlike_data (take l.unlike-index l.fn.list)
