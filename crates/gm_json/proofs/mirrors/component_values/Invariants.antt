use Rattle.gm_json.proofs.Common.{◌≡◌, map, take, view, component_data}
use Rattle.gm_json.proofs.mirrors.component_values.Given as goal

abbrev pub invariant-loop-component : goal.invariant-loop-component
invariant-loop-component l =
    map view l.values.items ≡ map (component_data l.fn.m) (take l.component-index l.fn.members)
