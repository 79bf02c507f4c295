use Rattle.gm_json.proofs.Common.{◌≡◌, map, take, view, tasted_component}
use Rattle.gm_json.proofs.tastings.component_values.Given as goal

abbrev pub invariant-loop-member : goal.invariant-loop-member
invariant-loop-member l =
    map view l.values.items ≡ map tasted_component (take l.member-index l.fn.members)
