use Rattle.gm_changes.proofs.Common.{◌≡◌, ◌++◌, flat_map, take, active_of, patching}
use Rattle.gm_changes.proofs.patch.push_patches.Given as goal

abbrev pub invariant-loop-k : goal.invariant-loop-k
invariant-loop-k l = l.intents.items
    ≡ l.fn.intents.items ++ flat_map (patching l.first l.end)
    (active_of (take l.k-index l.components))
