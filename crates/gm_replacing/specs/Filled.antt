-- When the new image of a replacement is filled.
use Rattle.std.specs.Prelude.{Bool, true, false, Option, Some, None}
use Rattle.gm_state.specs.declared.states.ComponentState.{ComponentState}
use Rattle.gm_state.specs.declared.states.ComponentState.TheVariants.{Active, Stale, Synchronizing, Inactive}

-- a component is there, and it is ACTIVE
abbrev pub is_active : Option ComponentState → Bool
is_active (Some Active) = true
is_active (Some Stale) = false
is_active (Some Synchronizing) = false
is_active (Some Inactive) = false
is_active None = false
