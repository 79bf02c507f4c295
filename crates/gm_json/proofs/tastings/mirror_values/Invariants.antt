use Rattle.gm_json.proofs.Common.{◌≡◌, map, take, view, tasted_mirror}
use Rattle.gm_json.proofs.tastings.mirror_values.Given as goal

abbrev pub invariant-loop-group : goal.invariant-loop-group
invariant-loop-group l =
    map view l.values.items ≡ map tasted_mirror (take l.group-index l.fn.groups)
