-- What is found in the records.
use Rattle.std.specs.Prelude.{◌*◌, List, ℕ, true, Option, Some, None, find, option_map, option_and_then, if◌then◌else◌}
use Rattle.gm_metadata.specs.Images.{same_label}
use Rattle.gm_metadata.specs.declared.metadata.Metadata.{Metadata}
use Rattle.gm_state.specs.declared.records.Mirror.{Mirror}
use Rattle.gm_state.specs.declared.records.Component.{Component}
use Rattle.gm_state.specs.Records.{Records}
pub use Rattle.gm_state.specs.Disks.{is_active, is_inactive, disk_flags, held_of}

-- the mirror of this name
abbrev pub mirror_of : Records → List ℕ → Option Mirror
mirror_of s name = find (λ m. same_label m.name name) s.mirrors

-- the component on this provider
abbrev pub component_of : Records → List ℕ → Option Component
component_of s provider = find (λ k. same_label k.provider provider) s.components

-- what the last sector of a component says
abbrev pub metadata : Mirror → Component → Metadata
metadata m k = record {
  name = m.name;
  mid = m.mid;
  did = k.did;
  all = m.all;
  genid = m.genid;
  syncid = k.syncid;
  priority = k.priority;
  slice = m.slice;
  balance = m.balance;
  mediasize = 512 * m.data_sectors;
  sync_offset = 512 * held_of k.disk;
  mflags = m.flags;
  dflags = disk_flags k.disk;
  provider = if k.hardcoded then Some k.provider else None;
  provsize = 512 * k.sectors;
}

-- metadata with DIRTY set beside their other flags
abbrev pub with_dirty : Metadata → Metadata
with_dirty d = record d { dflags = record d.dflags { dirty = true } }

-- what the last sector of a component says while its data change
abbrev pub dirty_metadata : Mirror → Component → Metadata
dirty_metadata m k = with_dirty (metadata m k)

-- what is said of a component and its mirror, if the provider is a component
abbrev pub at_component : {X : Type 0} → Records → List ℕ → (Mirror → Component → X) → Option X
at_component s provider f =
    option_and_then (λ k. option_map (λ m. f m k) (mirror_of s k.mirror)) (component_of s provider)

-- the metadata of the component on this provider
abbrev pub metadata_of : Records → List ℕ → Option Metadata
metadata_of s provider = at_component s provider metadata

-- the same with DIRTY
abbrev pub dirty_metadata_of : Records → List ℕ → Option Metadata
dirty_metadata_of s provider = at_component s provider dirty_metadata
