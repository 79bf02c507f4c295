-- What is told by the calls that read.
use Rattle.std.specs.Prelude.{◌≡◌, ◌≢◌, ◌≤◌, ℕ, List, Option, Result, String, Vec, IfErr, IfOk, IfSome, MatchOption, OnErr, OnOk, map, string_bytes}
use Rattle.std.specs.List.Sorted.{IsPermutation}
use Rattle.std.specs.declared.alloc.Global.{Global}
use Rattle.sqlite_trees.specs.declared.store.Store.{Ghosts}
use Rattle.sqlite.specs.Held.{Held, state}
use Rattle.sqlite.specs.Order.{Row}
use Rattle.sqlite.specs.Schema.{Schema}
use Rattle.sqlite_rows.specs.Reads.{HasReadOver, HasFailedOver}
use Rattle.gm_commands.specs.declared.command.Command.{Command}
use Rattle.gm_state.specs.declared.intents.Intent.{Intent}
use Rattle.gm_state.specs.declared.intents.Reply.{Reply}
use Rattle.gm_state.specs.Records.{Records}
use Rattle.gm_state.specs.Rows.{Tables, copied_of, total_of}
use Rattle.gm_rows.specs.Faults.{OnStore, OnUnreadable}
use Rattle.gm_rows.specs.ReadableTables.{AreRecordsOf, AreTablesOf}
use Rattle.gm_rows.specs.Says.{RecordsSay, TablesSay}
use Rattle.gm_rows.specs.declared.fault.StoreFault.{StoreFault}
use Rattle.gm_rows.specs.declared.fault.StoreFault.TheVariants.{Unreadable}
use Rattle.gm_rows.specs.declared.said_state.Loaded.{Loaded}
use Rattle.gm_registry.specs.Parts.{IsPartFor, IsSaidFor, SayNone, SaysNoPart}
use Rattle.gm_registry.specs.Registry.{DiskKept, HasSaved, HasTables, IsOpen, IsOurs, IsRegistry, LeavesAlone, Reads, StoreFailed, seen}
use Rattle.gm_registry.specs.Replies.{AreWrittenUnder, IsFree, IsKept, count_of}
use Rattle.gm_registry.specs.declared.part.Part.{Part}

module _ {S : Type 0} (g : Ghosts S) (old new : Held S) where
  -- of a registry that has tables, the store is said to have failed only if it did
  abbrev pub TellsFailure : {A : Type 0} → Result A StoreFault → Type 0
  TellsFailure result = DiskKept g new → OnStore result ((t : Tables) → HasTables g old t
      → StoreFailed g old new)

  -- What is left by a read of tables that the schema shows, if it fails.
  pub record FailsReading {A : Type 0} (Shows : Schema → Type 0) (result : Result A StoreFault) :
      Type 0 where
    -- the most that it did is to end a transaction
    pub failed : OnErr result (HasFailedOver Shows (state g old) (state g new))
    -- `Store` only if the store failed
    pub store : DiskKept g new → OnStore result (Shows (state g old).now.schema → IsOpen g old
        → StoreFailed g old new)

  -- A query of tables that the schema shows, whatever they hold: what it finds is so.
  pub record Queries {A : Type 0} (Shows : Schema → Type 0) (result : Result A StoreFault)
      (IsFound : A → Type 0) : Type 0 where
    -- at Ok it is what the rows show
    pub rows : DiskKept g new → IfOk result (λ a. Shows (state g old).now.schema → IsFound a)
    -- at Ok it changed nothing
    pub read : OnOk result (HasReadOver Shows (state g old) (state g new))
    -- at Err the most that it did is to end a transaction
    pub failed : OnErr result (HasFailedOver Shows (state g old) (state g new))
    -- `Store` only if the store failed
    pub store : DiskKept g new → OnStore result (Shows (state g old).now.schema → IsOpen g old
        → StoreFailed g old new)
    -- it judges no row
    pub fault : IfErr result (λ e. e ≢ Unreadable)

  -- Records that are read: what rows say of them, and what they are of a state.
  pub record TellsRecords {A : Type 0} (result : Result A StoreFault) (IsSaid : A → Type 0)
      (SayNothing : Type 0) (IsOf : Records → A → Type 0) : Type 0 where
    -- the rows say what is told
    pub says : DiskKept g new → IfOk result (λ a. IsOurs g old → IsSaid a)
    -- `Unreadable` only if they say nothing
    pub silent : DiskKept g new → OnUnreadable result (IsOurs g old → SayNothing)
    -- over tables of a state it is of the state
    pub found : DiskKept g new → IfOk result (λ a. (t : Tables) (s : Records) → HasTables g old t
        → AreRecordsOf t s → IsOf s a)
    -- tables of a state aren't unreadable
    pub unreadable : DiskKept g new → OnUnreadable result ((t : Tables) (s : Records)
        → HasTables g old t → AreRecordsOf t s → ⊥)

  -- the same of a list: the rows show its records, in any order
  abbrev pub TellsList : {R : Type 0} → (R → Row) → (R → Type 0)
      → Result (Vec R Global) StoreFault → List Row → (Records → List R) → Type 0
  TellsList shown IsValue result rows of =
      TellsRecords result (λ v. IsPermutation rows (map shown v.items)) (SayNone shown IsValue rows)
      (λ s v. IsPermutation (of s) v.items)

  -- The state and what is pending, read of a registry.
  pub record Loads (result : Result Loaded StoreFault) : Type 0 where
    -- whatever rows there are say what is told
    pub says : DiskKept g new → IfOk result (λ l. IsRegistry g old
        → TablesSay (seen g old) l.state l.intents.items l.bytes.items)
    -- `Unreadable` only if they say no state
    pub silent : DiskKept g new → OnUnreadable result ((s : Records) (ts : List Intent)
        (bytes : List (List ℕ)) → IsRegistry g old → TablesSay (seen g old) s ts bytes → ⊥)
    -- tables are those of what is told, and are saved
    pub loaded : DiskKept g new → IfOk result (λ l. (t : Tables) → HasTables g old t
        → AreTablesOf t l.state l.intents.items l.bytes.items × HasSaved g new t)
    -- tables of a state aren't unreadable
    pub unreadable : DiskKept g new → OnUnreadable result ((t : Tables) (s : Records)
        (ts : List Intent) (bytes : List (List ℕ)) → HasTables g old t
        → AreTablesOf t s ts bytes → ⊥)
    -- on a disk that didn't fail, without a limit on steps, it is never `Store`
    pub store : DiskKept g new → OnStore result (IsRegistry g old → StoreFailed g old new)
    -- it only reads
    pub reads : Reads g old new
    -- whatever rows there are stay
    pub untouched : IsRegistry g old → LeavesAlone g old new
    -- at Ok it is a registry still
    pub still : DiskKept g new → OnOk result (IsRegistry g old → IsRegistry g new)

  -- The state alone, read of the tables of mirrors and of components.
  pub record LoadsState (result : Result Records StoreFault) : Type 0 where
    -- whatever rows there are say what is told
    pub says : DiskKept g new → IfOk result (λ s. IsRegistry g old → RecordsSay (seen g old) s)
    -- `Unreadable` only if they say no state
    pub silent : DiskKept g new → OnUnreadable result ((s : Records) → IsRegistry g old
        → RecordsSay (seen g old) s → ⊥)
    -- over tables of a state it is that state, and the tables are saved
    pub state : DiskKept g new → IfOk result (λ it. (t : Tables) → HasTables g old t
        → ((s : Records) → AreRecordsOf t s → it ≡ s) × HasSaved g new t)
    -- tables of a state aren't unreadable
    pub unreadable : DiskKept g new → OnUnreadable result ((t : Tables) (s : Records)
        → HasTables g old t → AreRecordsOf t s → ⊥)
    -- on a disk that didn't fail, without a limit on steps, it is never `Store`
    pub store : DiskKept g new → OnStore result (IsRegistry g old → StoreFailed g old new)
    -- it only reads
    pub reads : Reads g old new
    -- whatever rows there are stay
    pub untouched : IsRegistry g old → LeavesAlone g old new

  -- The part of the records for a command, after some further mids.
  pub record LoadsPart (result : Result Part StoreFault) (c : Command) (mids : List ℕ) : Type 0
    where
      -- whatever rows there are say what is told
      pub says : DiskKept g new → IfOk result (λ p. IsRegistry g old
          → IsSaidFor (seen g old) c mids p)
      -- `Unreadable` only if they say no part
      pub silent : DiskKept g new → OnUnreadable result (IsRegistry g old
          → SaysNoPart (seen g old) c mids)
      -- over tables of a state it is the part of that state, and the tables are saved
      pub part : DiskKept g new → IfOk result (λ p. (t : Tables) (s : Records) → HasTables g old t
          → AreRecordsOf t s → IsPartFor s c mids p × HasSaved g new t)
      -- tables of a state aren't unreadable
      pub unreadable : DiskKept g new → OnUnreadable result ((t : Tables) (s : Records)
          → HasTables g old t → AreRecordsOf t s → ⊥)
      -- on a disk that didn't fail, without a limit on steps, it is never `Store`
      pub store : TellsFailure result
      -- it only reads
      pub reads : Reads g old new

  -- The number, the words and the reply of the command under a key, if there is one.
  pub record FindsReply {A : Type 0} (result : Result (Option (ℕ × String A × Reply)) StoreFault)
      (key : List ℕ) : Type 0 where
    -- it stands under the key, or none does; the tables are saved
    pub found : DiskKept g new → IfOk result (λ found. (t : Tables) → HasTables g old t
        → MatchOption found (IsFree t key) (λ it. IsKept t key it.0 (string_bytes it.1) it.2)
        × HasSaved g new t)
    -- a row whose reply is out of range is `Unreadable`
    pub range : IfOk result (λ found. IfSome found
        (λ it. (copied_of it.2 ≤ 1048576) × (total_of it.2 ≤ 1048576)))
    -- no row is unreadable that is written here
    pub unreadable : DiskKept g new → OnUnreadable result ((t : Tables) → HasTables g old t
        → AreWrittenUnder key t → ⊥)
    -- on a disk that didn't fail, without a limit on steps, it is never `Store`
    pub store : TellsFailure result
    -- it only reads
    pub reads : Reads g old new
    -- whatever rows there are stay
    pub untouched : IsRegistry g old → LeavesAlone g old new
    -- at Ok it is a registry still
    pub still : DiskKept g new → OnOk result (IsRegistry g old → IsRegistry g new)

  -- How many commands were accepted.
  pub record CountsCommands (result : Result ℕ StoreFault) : Type 0 where
    -- it is so many; the tables are saved
    pub count : DiskKept g new → IfOk result (λ n. (t : Tables) → HasTables g old t
        → (n ≡ count_of t) × HasSaved g new t)
    -- not unreadable while there are no more than may be
    pub unreadable : DiskKept g new → OnUnreadable result ((t : Tables) → HasTables g old t
        → count_of t ≤ 100000 → ⊥)
    -- on a disk that didn't fail, without a limit on steps, it is never `Store`
    pub store : TellsFailure result
    -- it only reads
    pub reads : Reads g old new
    -- whatever rows there are stay
    pub untouched : IsRegistry g old → LeavesAlone g old new
    -- at Ok it is a registry still
    pub still : DiskKept g new → OnOk result (IsRegistry g old → IsRegistry g new)
