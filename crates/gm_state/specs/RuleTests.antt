-- The rules of a state as tests: the form by which the code goes.
use Rattle.std.specs.Prelude.{◌^◌, Bool, not, ◌&&◌, ◌||◌, ◌==◌, nat_lt, nat_le, List, length}
use Rattle.std.specs.List.{list_any, list_all}
use Rattle.gm_metadata.specs.Images.{same_label}
use Rattle.gm_metadata.specs.Labels.{is_label}
use Rattle.gm_state.specs.declared.records.Mirror.{Mirror}
use Rattle.gm_state.specs.declared.records.Component.{Component}
use Rattle.gm_state.specs.Disks.{is_active, is_inactive, held_of}
use Rattle.gm_state.specs.Records.{Records, name, provider, members}
use Rattle.gm_lists.specs.Ordered.{ascending}

-- the name is a label, and the numbers fit
abbrev pub mirror_fits : Mirror → Bool
mirror_fits m = is_label m.name && nat_lt m.mid (2 ^ 32) && nat_lt m.genid
    (2 ^ 32) && nat_lt m.syncid (2 ^ 32) && nat_lt m.slice (2 ^ 32)

abbrev pub component_fits : Component → Bool
component_fits k = is_label k.provider && nat_lt k.did (2 ^ 32) && nat_lt k.priority (2 ^ 8)

-- it isn't behind the mirror, but for an INACTIVE one
abbrev pub is_current : Mirror → Component → Bool
is_current m k = is_inactive k.disk || k.syncid == m.syncid

-- the rules of one component of the mirror
abbrev pub is_component : Mirror → Component → Bool
is_component m k =
    component_fits k && nat_lt m.data_sectors k.sectors && nat_le k.sectors 1048576 && nat_lt
    (held_of k.disk) m.data_sectors
    && nat_le k.syncid m.syncid && is_current m k

-- the rules of one mirror and its components, but for their numbers
abbrev pub is_mirror : List Component → Mirror → Bool
is_mirror ks m = mirror_fits m && nat_le m.all 16 && nat_le (length ks) m.all && list_any
    (λ k. is_active k.disk) ks && list_all (λ k. is_component m k) ks

-- the same for each mirror
abbrev pub are_mirrors : List Component → List Mirror → Bool
are_mirrors ks ms = list_all (λ m. is_mirror (members ks m.name) m) ms

-- no other mirror has this number
abbrev pub has_own_mid : List Mirror → Mirror → Bool
has_own_mid ms a = list_all (λ b. not (a.mid == b.mid) || same_label a.name b.name) ms

-- no other component of its mirror has this number
abbrev pub has_own_did : List Component → Component → Bool
has_own_did ks a =
    list_all (λ b. not (same_label a.mirror b.mirror && a.did == b.did) || same_label a.provider
    b.provider) ks

-- its mirror is there
abbrev pub has_home : List Mirror → Component → Bool
has_home ms k = list_any (λ m. same_label m.name k.mirror) ms

-- the rules of a state
abbrev pub is_state : Records → Bool
is_state s =
    ascending name s.mirrors && ascending provider s.components && nat_le
    (length s.mirrors) 64 && are_mirrors s.components s.mirrors
    && list_all (has_home s.mirrors) s.components && list_all
    (has_own_mid s.mirrors) s.mirrors && list_all (has_own_did s.components) s.components
