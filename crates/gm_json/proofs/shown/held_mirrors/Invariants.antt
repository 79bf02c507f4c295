use Rattle.gm_json.proofs.Common.{◌≡◌, map, take, view, members, held_mirror}
use Rattle.gm_json.proofs.shown.held_mirrors.Given as goal

abbrev pub invariant-loop-mirror : goal.invariant-loop-mirror
invariant-loop-mirror l =
    map view l.values.items ≡ map (λ m. held_mirror m (members l.fn.state.components m.name))
    (take l.mirror-index l.fn.state.mirrors)
