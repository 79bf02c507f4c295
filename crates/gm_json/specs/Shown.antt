-- What a program reads of mirrors that the program's own commands show.
use Rattle.std.specs.Prelude.{ℕ, Bool, List, [], ◌∷◌, ◌++◌, codes, if◌then◌else◌}
use Rattle.gm_metadata.specs.declared.flags.MirrorFlags.{MirrorFlags}
use Rattle.gm_metadata.specs.declared.flags.DiskFlags.{DiskFlags}
use Rattle.gm_state.specs.declared.records.Mirror.{Mirror}
use Rattle.gm_state.specs.declared.records.Component.{Component}
use Rattle.gm_state.specs.Disks.{disk_flags, held_by}
use Rattle.gm_state.specs.Records.{Records, members}
use Rattle.serde_json.specs.Data.{Data, array, string}
use Rattle.serde_json.specs.View.{items_of}
use Rattle.gm_json.specs.Fields.{array_of, each_at, number_at, object_of, text_at, text_of}
use Rattle.gm_json.specs.Mirrors.{component_with, mirror_with, standing_with, state_of}

-- a name, if it holds
abbrev pub name_where : Bool → List ℕ → List Data
name_where holds name = if holds then string name ∷ [] else []

-- the names of the flags that are set
abbrev pub mirror_flag_names : MirrorFlags → List Data
mirror_flag_names f = name_where f.no_autosync (codes "NOAUTOSYNC")
    ++ name_where f.no_failsync (codes "NOFAILSYNC")

abbrev pub disk_flag_names : DiskFlags → List Data
disk_flag_names f =
    name_where f.dirty (codes "DIRTY") ++ name_where f.synchronizing (codes "SYNCHRONIZING")
    ++ name_where f.force_sync (codes "FORCE_SYNC") ++ name_where f.inactive (codes "INACTIVE")

-- a component in the status, with how many data sectors of how many it holds
abbrev pub held_component : Mirror → Component → Data
held_component m k = object_of (
    text_at (codes "name") k.provider
    ∷ number_at (codes "of") m.data_sectors
    ∷ number_at (codes "sectors") (held_by k.disk m.data_sectors)
    ∷ text_at (codes "state") (state_of m k)
    ∷ [])

-- a mirror with these components in the status
abbrev pub held_mirror : Mirror → List Component → Data
held_mirror m ks = standing_with (array_of (held_component m) ks) m ks

-- how each mirror stands
abbrev pub held_data : Records → Data
held_data s = object_of (
    each_at (codes "mirrors") (λ m. held_mirror m (members s.components m.name)) s.mirrors
    ∷ [])

-- all that is known of a component, with the names of its flags
abbrev pub shown_component : Mirror → Component → Data
shown_component m k = component_with (array (items_of (disk_flag_names (disk_flags k.disk)))) m k

-- all that is known of a mirror with these components, with the names of flags
abbrev pub shown_mirror : Mirror → List Component → Data
shown_mirror m ks = mirror_with (array (items_of (mirror_flag_names m.flags)))
    (array_of (shown_component m) ks) m ks

-- all that is known of each mirror
abbrev pub shown_data : Records → Data
shown_data s = object_of (
    each_at (codes "mirrors") (λ m. shown_mirror m (members s.components m.name)) s.mirrors
    ∷ [])

-- the texts
abbrev pub held_json : Records → List ℕ
held_json s = text_of (held_data s)

abbrev pub shown_json : Records → List ℕ
shown_json s = text_of (shown_data s)
