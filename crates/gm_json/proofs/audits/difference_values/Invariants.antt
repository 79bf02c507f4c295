use Rattle.gm_json.proofs.Common.{◌≡◌, map, take, view, difference_data}
use Rattle.gm_json.proofs.audits.difference_values.Given as goal

abbrev pub invariant-loop-difference : goal.invariant-loop-difference
invariant-loop-difference l =
    map view l.values.items
    ≡ map (difference_data l.fn.differ) (take l.difference-index l.fn.differ)
