-- The records, and what holds of them.
use Rattle.std.specs.Prelude.{◌≡◌, ◌≢◌, ◌<◌, ◌≤◌, ◌+◌, ◌^◌, ℕ, IsTrue, List, length, filter}
use Rattle.std.specs.List.Sorted.{IsPermutation}
use Rattle.gm_metadata.specs.Images.{same_label}
use Rattle.gm_metadata.specs.Labels.{is_label}
use Rattle.gm_state.specs.declared.records.Mirror.{Mirror}
use Rattle.gm_state.specs.declared.records.Component.{Component}
use Rattle.gm_state.specs.declared.records.Disk.TheVariants.{InSync, Inactive}
use Rattle.gm_lists.specs.Ordered.{Has, Ascends}
pub use Rattle.gm_state.specs.Disks.{held_by, held_of}

-- the records of the bench, each list in byte order of names
pub record Records : Type 0 where
  pub mirrors : List Mirror
  pub components : List Component

abbrev pub name : Mirror → List ℕ
name m = m.name

abbrev pub provider : Component → List ℕ
provider k = k.provider

-- the components of a mirror, in byte order
abbrev pub members : List Component → List ℕ → List Component
members components name = filter (λ k. same_label k.mirror name) components

-- a mirror's name is a label and its numbers fit their fields, as the types of the code have it
pub record MirrorFits (m : Mirror) : Type 0 where
  pub name : IsTrue (is_label m.name)
  pub mid : m.mid < 2 ^ 32
  pub genid : m.genid < 2 ^ 32
  pub syncid : m.syncid < 2 ^ 32
  pub slice : m.slice < 2 ^ 32

-- the same of a component
pub record ComponentFits (k : Component) : Type 0 where
  pub provider : IsTrue (is_label k.provider)
  pub did : k.did < 2 ^ 32
  pub priority : k.priority < 2 ^ 8

-- The rules of one mirror and its components.
pub record IsMirror (m : Mirror) (ks : List Component) : Type 0 where
  pub fits : MirrorFits m
  pub members_fit : (k : Component) → Has ks k → ComponentFits k
  pub some : 0 < m.data_sectors
  pub all : m.all ≤ 16
  pub room : length ks ≤ m.all
  pub active : (k : Component) × Has ks k × (k.disk ≡ InSync)
  pub sizes : (k : Component) → Has ks k → m.data_sectors + 1 ≤ k.sectors
  pub limits : (k : Component) → Has ks k → k.sectors ≤ 1048576
  pub held : (k : Component) → Has ks k → held_of k.disk < m.data_sectors
  pub dids : (j : Component) → Has ks j → (k : Component) → Has ks k → j.did ≡ k.did → j ≡ k
  pub syncids : (k : Component) → Has ks k → k.syncid ≤ m.syncid
  pub current : (k : Component) → Has ks k → k.disk ≢ Inactive → k.syncid ≡ m.syncid

-- The rules of a state.
pub record IsState (s : Records) : Type 0 where
  pub mirrors_in_order : Ascends name s.mirrors
  pub components_in_order : Ascends provider s.components
  pub count : length s.mirrors ≤ 64
  pub each : (m : Mirror) → Has s.mirrors m → IsMirror m (members s.components m.name)
  pub mids : (a b : Mirror) → Has s.mirrors a → Has s.mirrors b → a.mid ≡ b.mid → a ≡ b
  pub homes : (k : Component) → Has s.components k
      → (m : Mirror) × Has s.mirrors m × (m.name ≡ k.mirror)

-- s is a state, and has just these records, which were given in any order
pub record IsStateOf (mirrors : List Mirror) (components : List Component)
    (s : Records) : Type 0 where
  pub state : IsState s
  pub mirrors_are : IsPermutation mirrors s.mirrors
  pub components_are : IsPermutation components s.components
