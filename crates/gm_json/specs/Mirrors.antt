-- What is told of mirrors and their components.
use Rattle.std.specs.Prelude.{ℕ, ◌*◌, List, [], ◌∷◌, codes, Option, option_map}
use Rattle.gm_metadata.specs.Balance.{balance_name}
use Rattle.gm_metadata.specs.Flags.{disk_bits, mirror_bits}
use Rattle.gm_state.specs.declared.records.Mirror.{Mirror}
use Rattle.gm_state.specs.declared.records.Component.{Component}
use Rattle.gm_state.specs.Disks.{disk_flags, held_of}
use Rattle.gm_state.specs.Lookups.{mirror_of}
use Rattle.gm_state.specs.Records.{Records, members}
use Rattle.gm_state.specs.States.{component_state_name, mirror_state_name, state_among, state_by}
use Rattle.serde_json.specs.Data.{Data, number, unsigned}
use Rattle.gm_json.specs.Fields.{array_of, each_at, number_at, object_of, text_at, text_of, truth_at, value_at}

-- the name of the state of a component
abbrev pub state_of : Mirror → Component → List ℕ
state_of m k = component_state_name (state_by m.flags k.disk)

-- a component in the status
abbrev pub standing_component : Mirror → Component → Data
standing_component m k = object_of (
    text_at (codes "name") k.provider
    ∷ text_at (codes "state") (state_of m k)
    ∷ [])

-- a mirror in the status that has these components, which are told so
abbrev pub standing_with : Data → Mirror → List Component → Data
standing_with components m ks = object_of (
    value_at (codes "components") components
    ∷ text_at (codes "name") m.name
    ∷ text_at (codes "state") (mirror_state_name (state_among m ks))
    ∷ [])

-- a mirror with these components in the status
abbrev pub standing_mirror : Mirror → List Component → Data
standing_mirror m ks = standing_with (array_of (standing_component m) ks) m ks

-- how each mirror stands
abbrev pub status_data : Records → Data
status_data s = object_of (
    each_at (codes "mirrors") (λ m. standing_mirror m (members s.components m.name)) s.mirrors
    ∷ [])

-- all that is known of a component, whose flags are told so
abbrev pub component_with : Data → Mirror → Component → Data
component_with flags m k = object_of (
    number_at (codes "did") k.did
    ∷ value_at (codes "flags") flags
    ∷ truth_at (codes "hardcoded") k.hardcoded
    ∷ text_at (codes "name") k.provider
    ∷ number_at (codes "offset") (512 * held_of k.disk)
    ∷ number_at (codes "priority") k.priority
    ∷ number_at (codes "provsize") (512 * k.sectors)
    ∷ text_at (codes "state") (state_of m k)
    ∷ number_at (codes "syncid") k.syncid
    ∷ [])

-- all that is known of a component, with its flags as a number
abbrev pub component_data : Mirror → Component → Data
component_data m k = component_with (number (unsigned (disk_bits (disk_flags k.disk)))) m k

-- all that is known of a mirror with these components, which are told so, as its flags are
abbrev pub mirror_with : Data → Data → Mirror → List Component → Data
mirror_with flags components m ks = object_of (
    number_at (codes "all") m.all
    ∷ text_at (codes "balance") (balance_name m.balance)
    ∷ value_at (codes "components") components
    ∷ value_at (codes "flags") flags
    ∷ number_at (codes "genid") m.genid
    ∷ number_at (codes "mediasize") (512 * m.data_sectors)
    ∷ number_at (codes "mid") m.mid
    ∷ text_at (codes "name") m.name
    ∷ number_at (codes "slice") m.slice
    ∷ text_at (codes "state") (mirror_state_name (state_among m ks))
    ∷ number_at (codes "syncid") m.syncid
    ∷ [])

-- all that is known of a mirror with these components, with flags as numbers
abbrev pub mirror_data : Mirror → List Component → Data
mirror_data m ks = mirror_with (number (unsigned (mirror_bits m.flags)))
    (array_of (component_data m) ks) m ks

-- the texts
abbrev pub status_json : Records → List ℕ
status_json s = text_of (status_data s)

abbrev pub mirror_json : Records → List ℕ → Option (List ℕ)
mirror_json s name =
    option_map (λ m. text_of (mirror_data m (members s.components m.name))) (mirror_of s name)
