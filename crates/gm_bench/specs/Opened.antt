-- What an opening does and tells.
use Rattle.std.specs.Prelude.{◌≡◌, ◌⊎◌, ◌<◌, ℕ, List, Some, None, Result, length, IfErr, MatchResult, OnOk, IsErrOf}
use Rattle.sqlite_trees.specs.declared.store.Store.{Ghosts as StoreGhosts}
use Rattle.sqlite_catalog.specs.Listing.{IsSound}
use Rattle.sqlite.specs.Held.{Held}
use Rattle.sqlite.specs.Tree.{Trees}
use Rattle.gm_metadata.specs.Images.{Image}
use Rattle.gm_shelf.specs.declared.shelf.Shelf.{Ghosts as ShelfGhosts}
use Rattle.gm_state.specs.declared.intents.Intent.{Intent}
use Rattle.gm_state.specs.Records.{Records}
use Rattle.gm_state.specs.Rows.{Tables}
use Rattle.gm_state.specs.World.{World}
use Rattle.gm_rows.specs.ReadableTables.{AreTablesOf}
use Rattle.gm_rows.specs.Schema.{first_schema, registry_schema}
use Rattle.gm_registry.specs.Opening.{IsCarriedOver, IsForeign, IsOpenable}
use Rattle.gm_registry.specs.Opens.{IsStored}
use Rattle.gm_registry.specs.Registry.{DiskKept, HasTables, IsOpen, IsRegistry, LeavesAlone, MayCarryOver, Reads, StoreFailed, stored}
use Rattle.gm_bench.specs.declared.bench.Bench.{Bench}
use Rattle.gm_bench.specs.declared.bench.OpenFault.{OpenFault}
use Rattle.gm_bench.specs.declared.fault.BenchFault.{BenchFault}
use Rattle.gm_bench.specs.declared.fault.BenchFault.TheVariants.{Absent, Closed, Disk, Store, Unreadable}
use Rattle.gm_bench.specs.declared.media.Media.{Media}
use Rattle.gm_bench.specs.declared.phase.Progress.TheVariants.{Ready}
use Rattle.gm_bench.specs.Benches.{progress_of, redone_of, registry_of, shelf_of}
use Rattle.gm_bench.specs.Calls.{Keep, TellsDisk}
use Rattle.gm_bench.specs.Faults.{IsBeforeWrites, IsOfRegistry}
use Rattle.gm_bench.specs.Owed.{IsLeft, OpenDoes, OpenLeaves}
use Rattle.gm_bench.specs.Presence.{first_absent}

-- the tables say a state, with intents and bytes that are readable for it
abbrev pub AreOfState : Tables → Type 0
AreOfState t =
    (r : Records) × (ts : List Intent) × (bytes : List (List ℕ)) × AreTablesOf t r ts bytes

-- ---- of media whose registry is open

-- What is told by the registry's tables and the sizes alone: at Ok the tables say a state with
-- readable intents, and each image that these need is there; the first that isn't is reported; F3
-- only if the device failed, and F6 only if the tables don't say such a state.
pub record TellsOfTables {S H T : Type 0} (s : StoreGhosts S) (h : ShelfGhosts H)
    (old new : Media S H) (result : Result T BenchFault) : Type 0 where
  pub readable : DiskKept s new.registry → OnOk result ((t : Tables) → HasTables s old.registry t
      → AreOfState t)
  pub there : DiskKept s new.registry → OnOk result ((t : Tables) (r : Records) (ts : List Intent)
      (bytes : List (List ℕ)) → HasTables s old.registry t → AreTablesOf t r ts bytes
      → first_absent r (h.size old.shelf) ts ≡ None)
  pub absent : DiskKept s new.registry → (p : List ℕ) → IsErrOf result (Absent p)
      → (t : Tables) (r : Records) (ts : List Intent)
      (bytes : List (List ℕ)) → HasTables s old.registry t → AreTablesOf t r ts bytes
      → first_absent r (h.size old.shelf) ts ≡ Some p
  pub disk : DiskKept s new.registry → (t : Tables) → HasTables s old.registry t
      → TellsDisk h old.shelf new.shelf result
  pub unreadable : DiskKept s new.registry → IsErrOf result Unreadable
      → (t : Tables) (r : Records) (ts : List Intent)
      (bytes : List (List ℕ)) → HasTables s old.registry t → AreTablesOf t r ts bytes → ⊥
  pub closed : IsErrOf result Closed → ⊥

-- All that the registry holds is loaded: it is only read, whatever its rows hold, and the shelf
-- stays; at Ok it is a registry still. F6 only if the tables don't say a state with readable
-- intents, and Store only if the store failed.
pub record LoadsOnly {S H T : Type 0} (s : StoreGhosts S) (old new : Media S H)
    (result : Result T BenchFault) : Type 0 where
  pub unreadable : DiskKept s new.registry → IsErrOf result Unreadable
      → (t : Tables) (r : Records) (ts : List Intent)
      (bytes : List (List ℕ)) → HasTables s old.registry t → AreTablesOf t r ts bytes → ⊥
  pub store : DiskKept s new.registry → IsErrOf result Store
      → IsRegistry s old.registry → StoreFailed s old.registry new.registry
  pub untouched : IsRegistry s old.registry → LeavesAlone s old.registry new.registry
  pub still : DiskKept s new.registry → OnOk result (IsRegistry s old.registry
      → IsRegistry s new.registry)
  pub fault : IfErr result IsOfRegistry
  pub reads : Reads s old.registry new.registry
  pub shelf : new.shelf ≡ old.shelf

-- F5 comes before anything is written, exactly if an image isn't there that the intents need.
pub record ChecksImages {S H T : Type 0} (h : ShelfGhosts H) (old new : Media S H)
    (r : Records) (ts : List Intent) (result : Result T BenchFault) : Type 0 where
  pub absent : (p : List ℕ) → IsErrOf result (Absent p)
      → (first_absent r (h.size old.shelf) ts ≡ Some p) × (new ≡ old)
  pub there : OnOk result (first_absent r (h.size old.shelf) ts ≡ None)

-- A fault before anything is written leaves the shelf, and a registry whatever its rows hold.
pub record StaysBefore {S H T : Type 0} (s : StoreGhosts S) (old new : Media S H)
    (result : Result T BenchFault) : Type 0 where
  pub shelf : IfErr result (λ f. IsBeforeWrites f → new.shelf ≡ old.shelf)
  pub registry : IfErr result (λ f. IsBeforeWrites f → IsRegistry s old.registry
      → LeavesAlone s old.registry new.registry)

-- ---- of a store and a shelf

-- what is stored is as it was, or carried over from the first schema, while it is open; and so is
-- what a crash finds
pub record MayBeCarriedOver {S : Type 0} (s : StoreGhosts S) (old new : Held S) : Type 0 where
  pub tables : DiskKept s new → IsOpen s new
      → (stored s new ≡ stored s old) ⊎ IsCarriedOver (stored s old) (stored s new)
  pub crash : MayCarryOver s old new

-- it has no tables, or holds those of a registry, or has others
abbrev pub HoldsKnown : Trees → Type 0
HoldsKnown db = ((t : Tables) × IsStored db t) ⊎ IsForeign db

module _ {S H : Type 0} (s : StoreGhosts S) (h : ShelfGhosts H) (store : Held S) (shelf : H) where
  -- The tables that are stored say a state, and the bench is at rest in the world that was left;
  -- the number is that of the intents that were pending; and each image that they need is there.
  pub record IsOpened (b : Bench S H) : Type 0 where
    pub ready : progress_of b ≡ Ready
    pub does : h.honest shelf → IsOpen s store → DiskKept s (registry_of b)
        → OpenDoes s h store (registry_of b) shelf (shelf_of b)
    pub redone : h.honest shelf → IsOpen s store → DiskKept s (registry_of b)
        → (away : Image) (u w : World) → (left : IsLeft s h store shelf away u w)
        → redone_of b ≡ length left.recovers.intents
    pub readable : IsOpen s store → DiskKept s (registry_of b)
        → (t : Tables) → IsStored (stored s store) t → AreOfState t
    pub there : IsOpen s store → DiskKept s (registry_of b)
        → (t : Tables) (r : Records) (ts : List Intent)
        (bytes : List (List ℕ)) → IsStored (stored s store) t → AreTablesOf t r ts bytes
        → first_absent r (h.size shelf) ts ≡ None

  -- Why it failed, by the tables that are stored and the sizes alone. F2 comes only if the store
  -- failed, of an empty store too. A fault before anything is written leaves both media as they
  -- were, whatever rows the tables hold; but tables of the first schema may be carried over.
  pub record IsUnopened (e : OpenFault S H) : Type 0 where
    pub absent : IsOpen s store → DiskKept s e.store → (p : List ℕ) → e.fault ≡ Absent p
        → (t : Tables) (r : Records) (ts : List Intent)
        (bytes : List (List ℕ)) → IsStored (stored s store) t → AreTablesOf t r ts bytes
        → first_absent r (h.size shelf) ts ≡ Some p
    pub disk : IsOpen s store → DiskKept s e.store → e.fault ≡ Disk
        → (t : Tables) → IsStored (stored s store) t
        → (h.view shelf).faults < (h.view e.shelf).faults
    pub unreadable : IsOpen s store → DiskKept s e.store → e.fault ≡ Unreadable
        → IsOpenable (stored s store) → (t : Tables) (r : Records) (ts : List Intent)
        (bytes : List (List ℕ)) → IsStored (stored s store) t → AreTablesOf t r ts bytes → ⊥
    pub failed : IsOpen s store → DiskKept s e.store → e.fault ≡ Store
        → HoldsKnown (stored s store) → StoreFailed s store e.store
    pub closed : e.fault ≡ Closed → ⊥
    pub untouched : IsBeforeWrites e.fault → e.shelf ≡ shelf
    pub alone : IsOpen s store → IsSound registry_schema (stored s store)
        → DiskKept s e.store → IsBeforeWrites e.fault → LeavesAlone s store e.store
    pub first_alone : IsOpen s store → IsSound first_schema (stored s store)
        → DiskKept s e.store → IsBeforeWrites e.fault → MayBeCarriedOver s store e.store

  -- of either end of an opening
  module _ (result : Result (Bench S H) (OpenFault S H)) where
    -- wherever it is stopped, what is there leads to the world that was left
    abbrev pub OpeningLeaves : Type 0
    OpeningLeaves = h.honest shelf → IsOpen s store → MatchResult result
        (λ b. DiskKept s (registry_of b) → OpenLeaves s h store (registry_of b) shelf (shelf_of b))
        (λ e. DiskKept s e.store → OpenLeaves s h store e.store shelf e.shelf)

    -- neither medium of a store with other tables is touched
    abbrev pub TurnsOthersAway : Type 0
    TurnsOthersAway = IsOpen s store → IsForeign (stored s store) → MatchResult result
        (λ b. DiskKept s (registry_of b) → ⊥)
        (λ e. DiskKept s e.store → LeavesAlone s store e.store × (e.shelf ≡ shelf))

    -- both media are kept
    abbrev pub OpeningKeeps : Type 0
    OpeningKeeps = MatchResult result
        (λ b. Keep s h store (registry_of b) shelf (shelf_of b))
        (λ e. Keep s h store e.store shelf e.shelf)
