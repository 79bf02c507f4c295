-- How the source is found: over the components in their order, keeping the best so far.
use Rattle.std.specs.Prelude.{◌&&◌, nat_lt, List, [], ◌∷◌, Option, Some, None, if◌then◌else◌}
use Rattle.gm_state.specs.declared.records.Component.{Component}
use Rattle.gm_state.specs.Sources.{lends_to}

-- the best so far, or k if it lends to t and has a greater priority
abbrev pub better : Component → Option Component → Component → Option Component
better t None k = if lends_to t k then Some k else None
better t (Some a) k = if (lends_to t k && nat_lt a.priority k.priority) then Some k else Some a

-- the best of b and the list
abbrev pub best_of : Component → Option Component → List Component → Option Component
best_of t b [] = b
best_of t b (k ∷ ks) = best_of t (better t b k) ks
