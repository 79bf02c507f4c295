use Rattle.gm_json.proofs.Common.{◌≡◌, map, take, view, held_component}
use Rattle.gm_json.proofs.shown.held_components.Given as goal

abbrev pub invariant-loop-component : goal.invariant-loop-component
invariant-loop-component l =
    map view l.values.items ≡ map (held_component l.fn.m) (take l.component-index l.fn.members)
