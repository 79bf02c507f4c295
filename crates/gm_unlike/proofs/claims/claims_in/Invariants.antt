use Rattle.std.proofs.Common.{◌≡◌, flat_map, take}
use Rattle.std.specs.List.{filter_map}
use Rattle.gm_unlike.specs.Claims.{claim_of}
use Rattle.gm_unlike.proofs.claims.claims_in.Given as goal

abbrev pub invariant-loop-group : goal.invariant-loop-group
invariant-loop-group l = l.claims.items
    ≡ flat_map (λ g. filter_map (claim_of l.state) g.members.items)
    (take l.group-index l.fn.tasted.groups.items)
