-- What is said of a registry, and of a store before it is opened and after it is closed.
use Rattle.std.specs.Prelude.{◌≡◌, ◌≤◌, ◌⊎◌, ◌+◌, ℕ, false, List, IsTrue, IsSome, Result, OnOk, OnErr}
use Rattle.sqlite_disk.specs.Disk.{MoreFaults}
use Rattle.sqlite_trees.specs.declared.store.Store.{Ghosts}
use Rattle.sqlite_trees.specs.View.{doubt}
use Rattle.sqlite.specs.Tree.{Trees}
use Rattle.sqlite.specs.Effect.{Database}
use Rattle.sqlite.specs.Held.{Held, state}
use Rattle.sqlite.specs.State.{HasCleanDisk, Survives}
use Rattle.sqlite.specs.State as sql
use Rattle.sqlite.specs.declared.error.Error.{Error}
use Rattle.sqlite.specs.declared.transaction.Transaction.{Transaction}
use Rattle.sqlite_rows.specs.Reads as rows
use Rattle.gm_state.specs.declared.intents.Intent.{Intent}
use Rattle.gm_state.specs.Records.{Records}
use Rattle.gm_state.specs.Rows.{Tables}
use Rattle.gm_rows.specs.Faults.{OnOther}
use Rattle.gm_rows.specs.Tables.{Holds, SeesTables, SeesFirst, SeesRegistry, IsInside}
use Rattle.gm_rows.specs.ReadableTables.{AreTablesOf}
use Rattle.gm_registry.specs.Fitting.{HasRoom}
use Rattle.gm_registry.specs.Opening.{IsCarriedOver}
use Rattle.gm_registry.specs.Reads as reads

module _ {S : Type 0} (g : Ghosts S) where
  -- whatever was written until now the disk returned
  abbrev pub DiskKept : Held S → Type 0
  DiskKept r = HasCleanDisk (state g r)

  abbrev pub IsOpen : Held S → Type 0
  IsOpen r = IsTrue (state g r).is_open

  -- what the last commit left
  abbrev pub stored : Held S → Trees
  stored r = (state g r).committed.trees

  -- the store can go on, as it says of itself
  abbrev pub IsUnbroken : Held S → Type 0
  IsUnbroken r = (g.view r.store).is_broken ≡ false

  -- what is seen of it now
  abbrev pub seen : Held S → Trees
  seen r = (state g r).now.trees

  -- a crash now may leave this store
  abbrev pub CrashLeaves : Held S → Trees → Type 0
  CrashLeaves r db = (state g r).may_leave db

  -- it is open, outside a transaction, over a registry with these tables
  abbrev pub HasTables : Held S → Tables → Type 0
  HasTables r t = SeesTables (state g r) t

  -- the same over a registry of the first schema
  abbrev pub HasFirstTables : Held S → Tables → Type 0
  HasFirstTables r t = SeesFirst (state g r) t

  -- it has tables, and they are those of the state with these intents and these bytes pending
  pub record HasTablesOf (r : Held S) (s : Records) (ts : List Intent) (bytes : List (List ℕ)) :
      Type 0 where
    pub tables : Tables
    pub has : HasTables r tables
    pub are : AreTablesOf tables s ts bytes

  -- it is open, outside a transaction, over the tables of a registry, whatever they hold
  abbrev pub IsRegistry : Held S → Type 0
  IsRegistry r = SeesRegistry (state g r)

  -- whatever a crash now leaves is a registry with these tables
  abbrev pub CrashLeavesOnly : Held S → Tables → Type 0
  CrashLeavesOnly r t = (db : Trees) → CrashLeaves r db → Holds db t

  -- ---- what a call leaves

  -- if the disk kept what was written until now, it did so before the call
  abbrev pub WasClean : Held S → Held S → Type 0
  WasClean old new = doubt (state g old).is_clean ≤ doubt (state g new).is_clean

  -- a crash finds what it could find before the call, or a registry with these tables
  abbrev pub MayLeave : Held S → Held S → Tables → Type 0
  MayLeave old new t = Survives (state g old) (state g new) (λ db. Holds db t)

  -- a crash finds what it could find before the call, or that store carried over
  abbrev pub MayCarryOver : Held S → Held S → Type 0
  MayCarryOver old new = Survives (state g old) (state g new) (IsCarriedOver (stored old))

  -- a crash finds only what it could find before the call
  abbrev pub LeavesNothingNew : Held S → Held S → Type 0
  LeavesNothingNew old new = Survives (state g old) (state g new) (λ _. ⊥)

  -- what is stored stays while it is open, and a crash finds only what it could find before the
  -- call
  abbrev pub LeavesAlone : Held S → Held S → Type 0
  LeavesAlone old new = rows.LeavesAlone (state g old) (state g new)

  -- a read of our tables that was answered, several or none, and one that may have failed
  abbrev pub HasRead : Held S → Held S → Type 0
  HasRead old new = reads.HasRead (state g old) (state g new)

  abbrev pub HaveRead : Held S → Held S → Type 0
  HaveRead old new = (new ≡ old) ⊎ HasRead old new

  abbrev pub HasFailed : Held S → Held S → Type 0
  HasFailed old new = reads.HasFailed (state g old) (state g new)

  -- it sees the tables of a registry
  abbrev pub IsOurs : Held S → Type 0
  IsOurs r = reads.IsOurs (state g r)

  -- within a transaction: nothing was committed
  abbrev pub KeepsCommit : Held S → Held S → Type 0
  KeepsCommit old new = DiskKept new → sql.KeepsCommit (state g old) (state g new)

  -- the disk failed or refused a call, or a query may take only so many steps
  abbrev pub StoreFailed : Held S → Held S → Type 0
  StoreFailed old new = MoreFaults (state g old).faults (state g new).faults
      ⊎ IsSome (state g old).step_limit

  -- within a transaction over rows and tables that fit, it fails only for want of memory or if
  -- the store did
  abbrev pub FailsInside : {X : Type 0} → Held S → Held S → Result X Error
      → (Trees → Tables → Type 0) → Type 0
  FailsInside old new result Fits =
      DiskKept new → OnOther result ((first : Database) (t : Tables)
      → IsInside first (state g old) t → Fits (seen old) t → StoreFailed old new)

  -- within a transaction, at Ok it has numbered at most so many rows of a table
  abbrev pub NumbersInside : {X : Type 0} → Held S → Held S → Result X Error → ℕ → Type 0
  NumbersInside old new result count =
      DiskKept new → OnOk result ((first : Database) (t : Tables) → IsInside first (state g old) t
      → (more : ℕ) → HasRoom (more + count) (seen old) → HasRoom more (seen new))

  -- it has these tables, and a crash now leaves them and nothing else
  pub record HasSaved (r : Held S) (t : Tables) : Type 0 where
    pub tables : HasTables r t
    pub crash : CrashLeavesOnly r t

  -- A call that writes nothing, at each of its exits: the tables are as before while it is open,
  -- row by row, and a crash finds nothing new.
  pub record Reads (old new : Held S) : Type 0 where
    pub kept : DiskKept new → (t : Tables) → HasTables old t → IsOpen new → HasSaved new t
    pub same : DiskKept new → (t : Tables) → HasTables old t → IsOpen new → seen new ≡ seen old
    pub left : (t : Tables) → HasTables old t → LeavesNothingNew old new
    pub clean : WasClean old new

  module _ {X E : Type 0} (old new : Held S) (result : Result X E) where
    -- at Err the tables are as before, while it is open
    abbrev pub Refuses : Type 0
    Refuses = DiskKept new → OnErr result ((t : Tables) → HasTables old t → IsOpen new
        → HasTables new t)

    -- within a transaction, at Ok it makes these of the tables
    abbrev pub MakesInside : (Tables → Tables) → Type 0
    MakesInside after =
        DiskKept new → OnOk result ((first : Database) (t : Tables) → IsInside first (state g old) t
        → IsInside first (state g new) (after t))

    -- A call that makes these of the tables: at Ok they are saved, at Err the tables are as before
    -- while it is open, and at each of its exits a crash finds what it could find before, or what
    -- the call makes.
    pub record Writes (after : Tables → Tables) : Type 0 where
      pub done : DiskKept new → OnOk result ((t : Tables) → HasTables old t
          → HasSaved new (after t))
      pub refused : DiskKept new → OnErr result ((t : Tables) → HasTables old t → IsOpen new
          → HasSaved new t)
      pub left : (t : Tables) → HasTables old t → MayLeave old new (after t)
      pub clean : WasClean old new

  -- ---- within a transaction

  -- A call that makes these of the tables, if the rows and the tables fit what it asks for. It
  -- numbers at most so many rows of a table.
  pub record ChangesInside {X : Type 0} (old new : Transaction S) (result : Result X Error)
      (after : Tables → Tables) (Fits : Trees → Tables → Type 0) (count : ℕ) : Type 0 where
    -- it is a transaction of the same connection
    pub same_reference : new.conn.ghost_name ≡ old.conn.ghost_name
    -- at Ok the tables are these
    pub put : MakesInside old.conn.now new.conn.now result after
    -- it fails only for want of memory, or if the store did, over what fits
    pub fails : FailsInside old.conn.now new.conn.now result Fits
    -- at Ok there is room for all but so many rows of those for which there was
    pub numbers : NumbersInside old.conn.now new.conn.now result count
    -- nothing was committed
    pub kept : KeepsCommit old.conn.now new.conn.now
    -- a crash finds nothing new
    pub survives : LeavesNothingNew old.conn.now new.conn.now

  -- A transaction that makes these of tables such as are given, if the rows and the tables fit.
  pub record WritesGiven {X : Type 0} (old new : Held S) (result : Result X Error)
      (Given : Tables → Type 0) (after : Tables → Tables) (Fits : Trees → Tables → Type 0) : Type 0
    where
      -- at Ok the tables are these
      pub done : DiskKept new → OnOk result ((t : Tables) → HasTables old t → Given t
          → HasTables new (after t))
      -- at Err they are as before, while it is open
      pub refused : DiskKept new → OnErr result ((t : Tables) → HasTables old t → Given t
          → IsOpen new → HasTables new t)
      -- it fails only for want of memory, or if the store did, over what fits
      pub store : DiskKept new → OnOther result ((t : Tables) → HasTables old t → Given t
          → Fits (seen old) t → StoreFailed old new)
      -- a crash finds what it could find before, or these tables
      pub left : (t : Tables) → HasTables old t → Given t → MayLeave old new (after t)
      -- whatever the tables were, the store goes on
      pub survives : Survives (state g old) (state g new) (λ _. Unit {0})
