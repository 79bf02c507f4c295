use Rattle.gm_json.proofs.Common.{◌≡◌, flat_map, take, difference_of, uncompared_of}
use Rattle.gm_json.proofs.audits.parted.Given as goal

abbrev pub invariant-loop-found : goal.invariant-loop-found
invariant-loop-found l =
    (l.parted.differ.items ≡ flat_map difference_of (take l.found-index l.flaws))
    × (l.parted.uncompared.items ≡ flat_map uncompared_of (take l.found-index l.flaws))
