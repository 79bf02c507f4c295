use Rattle.gm_json.proofs.Common.{◌≡◌, map, take, view, in_the_way_data}
use Rattle.gm_json.proofs.keyed.in_the_way_values.Given as goal

abbrev pub invariant-loop-unlike : goal.invariant-loop-unlike
invariant-loop-unlike l =
    map view l.values.items ≡ map in_the_way_data (take l.unlike-index l.fn.list)
