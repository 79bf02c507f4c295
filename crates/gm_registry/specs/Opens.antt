-- How an opening ends, by what the store was: without tables, a registry of either schema, or one
-- with other tables.
use Rattle.std.specs.Prelude.{◌≡◌, ◌⊎◌, Ok, Err, Result, OnOk, OnErr}
use Rattle.sqlite_trees.specs.declared.store.Store.{Ghosts}
use Rattle.sqlite_catalog.specs.Listing.{IsSound}
use Rattle.sqlite.specs.Held.{Held, state}
use Rattle.sqlite.specs.State.{State}
use Rattle.sqlite.specs.Tree.{Trees}
use Rattle.sqlite.specs.declared.error.Error.{Error}
use Rattle.sqlite.specs.declared.transaction.Transaction.{Transaction}
use Rattle.sqlite_rows.specs.Reads.{HasFailedOver}
use Rattle.gm_state.specs.Rows.{Tables}
use Rattle.gm_rows.specs.Faults.{OnOther, OnStore, OnUnreadable}
use Rattle.gm_rows.specs.Schema.{first_schema, registry_schema}
use Rattle.gm_rows.specs.Tables.{Holds, HoldsFirst, IsEmpty, no_tables}
use Rattle.gm_rows.specs.declared.fault.StoreFault.{StoreFault}
use Rattle.gm_registry.specs.Listing.{Lists, ShowsList}
use Rattle.gm_registry.specs.Opening.{HasOurTables, IsAsBefore, IsCarriedOver, IsForeign, IsKnownStore, IsNumbered, IsOfRegistry, IsOpenable}
use Rattle.gm_registry.specs.Registry.{DiskKept, HasFirstTables, HasTables, IsOpen, IsRegistry, LeavesAlone, LeavesNothingNew, MayCarryOver, MayLeave, StoreFailed, seen, stored}
use Rattle.gm_registry.specs.declared.edition.Edition.{Edition}
use Rattle.gm_registry.specs.declared.registry.OpenFault.{OpenFault}

-- a store holds these tables, also by the first schema; one without any table is read as empty
abbrev pub IsStored : Trees → Tables → Type 0
IsStored db t = Holds db t ⊎ (HoldsFirst db t ⊎ (IsEmpty db × (t ≡ no_tables)))

module _ {S : Type 0} (s : Ghosts S) where
  -- A call within a transaction that makes tables or `about`: at Ok it leads from the one to the
  -- other.
  pub record LeadsInside {X I : Type 0} (old new : Transaction S) (result : Result X Error)
      (Before After : I → State → Type 0) : Type 0 where
    -- it is a transaction of the same connection
    pub same_reference : new.conn.ghost_name ≡ old.conn.ghost_name
    -- at Ok it has led there
    pub made : DiskKept s new.conn.now → OnOk result ((i : I) → Before i (state s old.conn.now)
        → After i (state s new.conn.now))
    -- it fails only for want of memory, or if the store did
    pub fails : DiskKept s new.conn.now → OnOther result ((i : I)
        → Before i (state s old.conn.now) → StoreFailed s old.conn.now new.conn.now)
    -- a crash finds nothing new
    pub survives : LeavesNothingNew s old.conn.now new.conn.now

  -- A call that carries a registry of the first schema over, if it is such a one.
  pub record CarriesOver {E : Type 0} (old new : Held S) (result : Result (Unit {0}) E)
      (IsFirst : State → Type 0) : Type 0 where
    -- at Ok it is a registry with the rows that were stored
    pub carried : DiskKept s new → OnOk result (IsFirst (state s old) → IsRegistry s new
        × IsCarriedOver (stored s old) (stored s new))
    -- at Err it is as before, while it is open
    pub stays : DiskKept s new → OnErr result (IsFirst (state s old) → IsOpen s new
        → IsAsBefore (state s old) (state s new))
    -- a crash finds what it could find before, or that registry
    pub left : IsFirst (state s old) → MayCarryOver s old new

  -- Why a store isn't taken for a registry of this schema. Its texts tell whether it is one.
  pub record FailsToTake (old new : Held S) (result : Result (Unit {0}) StoreFault)
      (edition : Edition) (IsOne : State → Type 0) : Type 0 where
    -- `Unreadable` only if it lists other texts, or another `about`
    pub unreadable : DiskKept s new → OnUnreadable result (IsOfRegistry (state s old).now.schema
        → Lists edition (seen s old) → IsNumbered edition (seen s old) → ⊥)
    -- `Store` of a store that shows its list only if the store failed
    pub store : DiskKept s new → OnStore result (ShowsList (state s old).now.schema
        → (Lists edition (seen s old) → IsOne (state s old)) → IsOpen s old
        → StoreFailed s old new)

module _ {S : Type 0} (s : Ghosts S) (old new : Held S) (result : Result (Unit {0}) StoreFault)
  where
    -- Only a store that lists the tables of this schema is taken; nothing is written to any other.
    pub record GoesByTexts (edition : Edition) : Type 0 where
      pub texts : DiskKept s new → OnOk result (ShowsList (state s old).now.schema
          → Lists edition (seen s old))
      pub foreign : ¬ (Lists edition (seen s old))
          → HasFailedOver ShowsList (state s old) (state s new)

    -- A registry: nothing is written, and if it isn't opened its tables are as they were.
    pub record StaysAlone : Type 0 where
      pub alone : LeavesAlone s old new
      pub refused : DiskKept s new → OnErr result ((t : Tables) → Holds (stored s old) t
          → IsOpen s new → HasTables s new t)

    -- A registry of the first schema: it is carried over, or is as it was.
    pub record IsTakenOver : Type 0 where
      pub done : DiskKept s new → OnOk result (IsCarriedOver (stored s old) (stored s new))
      pub stays : DiskKept s new → OnErr result (IsOpen s new → stored s new ≡ stored s old)
      pub refused : DiskKept s new → OnErr result ((t : Tables) → HoldsFirst (stored s old) t
          → IsOpen s new → HasFirstTables s new t)
      pub left : MayCarryOver s old new

    -- Other tables: they are refused, and left alone.
    pub record IsTurnedAway : Type 0 where
      pub refused : DiskKept s new → OnOk result ⊥
      pub alone : LeavesAlone s old new

    -- Why it fails: `Unreadable` only if no opening takes such a store; `Store` of a known one only
    -- if the store failed.
    pub record FailsToOpen : Type 0 where
      pub unreadable : DiskKept s new → OnUnreadable result (¬ (IsOpenable (stored s old)))
      pub store : DiskKept s new → OnStore result (IsKnownStore (stored s old)
          → StoreFailed s old new)

    -- Of an open store: the registry has the tables that were stored, and a crash finds the store
    -- as it was, or these tables.
    pub record Opens : Type 0 where
      pub opened : DiskKept s new → OnOk result ((t : Tables) → IsStored (stored s old) t
          → HasTables s new t)
      pub left : (t : Tables) → IsStored (stored s old) t → MayLeave s old new t
      pub registry : DiskKept s new → OnOk result (HasOurTables (stored s old) → IsRegistry s new)
      pub second : IsSound registry_schema (stored s old) → StaysAlone
      pub first : IsSound first_schema (stored s old) → IsTakenOver
      pub other : IsForeign (stored s old) → IsTurnedAway
      pub fails : FailsToOpen

-- the same of an opening that gives the store back if it fails
abbrev pub OpensTo : {S : Type 0} → Ghosts S → Held S → Result (Held S) (OpenFault S) → Type 0
OpensTo s store (Ok c) = Opens s store c (Ok tt)
OpensTo s store (Err e) = Opens s store e.store (Err e.fault)
