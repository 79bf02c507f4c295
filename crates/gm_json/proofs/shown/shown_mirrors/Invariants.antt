use Rattle.gm_json.proofs.Common.{◌≡◌, map, take, view, members, shown_mirror}
use Rattle.gm_json.proofs.shown.shown_mirrors.Given as goal

abbrev pub invariant-loop-mirror : goal.invariant-loop-mirror
invariant-loop-mirror l =
    map view l.values.items ≡ map (λ m. shown_mirror m (members l.fn.state.components m.name))
    (take l.mirror-index l.fn.state.mirrors)
