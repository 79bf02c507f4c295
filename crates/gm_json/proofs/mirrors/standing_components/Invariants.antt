use Rattle.gm_json.proofs.Common.{◌≡◌, map, take, view, standing_component}
use Rattle.gm_json.proofs.mirrors.standing_components.Given as goal

abbrev pub invariant-loop-component : goal.invariant-loop-component
invariant-loop-component l =
    map view l.values.items ≡ map (standing_component l.fn.m) (take l.component-index l.fn.members)
