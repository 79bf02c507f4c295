-- The named states of components and mirrors.
use Rattle.std.specs.Prelude.{ℕ, not, ◌&&◌, ◌==◌, List, codes, count_by, Option, if◌then◌else◌}
use Rattle.gm_metadata.specs.declared.flags.MirrorFlags.{MirrorFlags}
use Rattle.gm_state.specs.declared.records.Mirror.{Mirror}
use Rattle.gm_state.specs.declared.records.Component.{Component}
use Rattle.gm_state.specs.declared.records.Disk.{Disk}
use Rattle.gm_state.specs.declared.records.Disk.TheVariants as disks
use Rattle.gm_state.specs.declared.states.ComponentState.{ComponentState}
use Rattle.gm_state.specs.declared.states.ComponentState.TheVariants.{Active, Stale, Synchronizing, Inactive}
use Rattle.gm_state.specs.declared.states.MirrorState.{MirrorState}
use Rattle.gm_state.specs.declared.states.MirrorState.TheVariants.{Complete, Degraded}
use Rattle.gm_state.specs.Records.{Records}
use Rattle.gm_state.specs.Lookups.{at_component, is_active}

-- INACTIVE; else ACTIVE if SYNCHRONIZING is clear; else STALE under NOAUTOSYNC without
-- FORCE_SYNC; else SYNCHRONIZING
abbrev pub state_by : MirrorFlags → Disk → ComponentState
state_by flags disks.Inactive = Inactive
state_by flags disks.InSync = Active
state_by flags (disks.Copying forced held) =
    if flags.no_autosync && not forced then Stale else Synchronizing

-- the state of the component on this provider
abbrev pub component_state : Records → List ℕ → Option ComponentState
component_state s provider = at_component s provider (λ m k. state_by m.flags k.disk)

-- how many components of a mirror are ACTIVE
abbrev pub active_count : List Component → ℕ
active_count ks = count_by (λ k. is_active k.disk) ks

-- COMPLETE if as many are ACTIVE as there are in all, else DEGRADED
abbrev pub state_of_active : ℕ → ℕ → MirrorState
state_of_active active all = if active == all then Complete else Degraded

-- the state of a mirror that has these components
abbrev pub state_among : Mirror → List Component → MirrorState
state_among m ks = state_of_active (active_count ks) m.all

-- the names of the states in texts
abbrev pub component_state_name : ComponentState → List ℕ
component_state_name Active = codes "ACTIVE"
component_state_name Stale = codes "STALE"
component_state_name Synchronizing = codes "SYNCHRONIZING"
component_state_name Inactive = codes "INACTIVE"

abbrev pub mirror_state_name : MirrorState → List ℕ
mirror_state_name Complete = codes "COMPLETE"
mirror_state_name Degraded = codes "DEGRADED"
