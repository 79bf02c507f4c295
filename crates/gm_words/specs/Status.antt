-- The text of a status.
use Rattle.std.specs.Prelude.{ℕ, List, [], ◌∷◌, ◌++◌, codes, flat_map}
use Rattle.std.specs.Fmt.{decimal}
use Rattle.gm_state.specs.declared.records.Mirror.{Mirror}
use Rattle.gm_state.specs.declared.records.Component.{Component}
use Rattle.gm_state.specs.declared.states.ComponentState.{ComponentState}
use Rattle.gm_state.specs.declared.states.ComponentState.TheVariants.{Active, Stale, Synchronizing, Inactive}
use Rattle.gm_state.specs.Disks.{held_of}
use Rattle.gm_state.specs.Records.{Records, members}
use Rattle.gm_state.specs.States.{active_count, component_state_name, mirror_state_name, state_among, state_by}
use Rattle.gm_words.specs.Lines.{line, left_in_15}

-- how many sectors of how many a component has that is to be filled
abbrev pub progress : ComponentState → ℕ → ℕ → List ℕ
progress Active held all = []
progress Inactive held all = []
progress Stale held all = codes " " ++ decimal held ++ codes " of " ++ decimal all
progress Synchronizing held all = codes " " ++ decimal held ++ codes " of " ++ decimal all

-- the line of a component, in this state
abbrev pub state_line : Component → ComponentState → ℕ → List ℕ
state_line k state all =
    line (codes "  " ++ left_in_15 k.provider ++ codes " " ++ component_state_name state
    ++ progress state (held_of k.disk) all)

abbrev pub component_line : Mirror → Component → List ℕ
component_line m k = state_line k (state_by m.flags k.disk) m.data_sectors

-- the line of a mirror with these components
abbrev pub mirror_line : Mirror → List Component → List ℕ
mirror_line m ks =
    line (left_in_15 m.name ++ codes " " ++ mirror_state_name (state_among m ks) ++ codes " "
    ++ decimal (active_count ks)
    ++ codes "/" ++ decimal m.all)

-- a mirror, and below it its components
abbrev pub block : Mirror → List Component → List ℕ
block m ks = mirror_line m ks ++ flat_map (component_line m) ks

-- a block for each mirror, or that there is none
abbrev pub blocks : (Mirror → List ℕ) → List Mirror → List ℕ
blocks f [] = line (codes "no mirrors")
blocks f (m ∷ ms) = flat_map f (m ∷ ms)

abbrev pub status_text : Records → List ℕ
status_text s = blocks (λ m. block m (members s.components m.name)) s.mirrors
