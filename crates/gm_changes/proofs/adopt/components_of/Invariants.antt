use Rattle.gm_changes.proofs.Common.{◌≡◌, ◌++◌, drop, map, member, seen_in, adopted_component, all_taken}
use Rattle.gm_changes.proofs.adopt.components_of.Given as goal

abbrev pub invariant-loop-provider : goal.invariant-loop-provider
invariant-loop-provider l =
    l.components.items ++ map (adopted_component (seen_in l.facts) l.name l.source)
    (map (member l.genid l.syncid) (all_taken (seen_in l.facts)
    (drop l.provider-index l.providers)))
    ≡ map (adopted_component (seen_in l.facts) l.name l.source)
    (map (member l.genid l.syncid) (all_taken (seen_in l.facts) l.providers))
