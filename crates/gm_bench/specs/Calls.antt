-- What a call leaves of the media and of the phase of a bench, and which faults it tells, beside
-- what is particular to it.
use Rattle.std.specs.Prelude.{◌≡◌, ◌≤◌, ◌<◌, ◌+◌, ℕ, List, ◌∷◌, length, Result, IfOk, IfErr, OnOk, OnErr, IsErrOf}
use Rattle.sqlite_trees.specs.declared.store.Store.{Ghosts as StoreGhosts}
use Rattle.sqlite.specs.Held.{Held, state}
use Rattle.gm_metadata.specs.Images.{Image, Sizes}
use Rattle.gm_shelf.specs.declared.shelf.Shelf.{Ghosts as ShelfGhosts}
use Rattle.gm_shelf.specs.Keeping.{Keeps, ReadsOnly}
use Rattle.gm_state.specs.Rows.{Tables}
use Rattle.gm_state.specs.Records.{Records}
use Rattle.gm_commands.specs.declared.command.Command.{Command}
use Rattle.gm_rows.specs.ReadableTables.{AreRecordsOf}
use Rattle.gm_registry.specs.Fitting.{HasRoom}
use Rattle.gm_registry.specs.Replies.{AreWrittenUnder, count_of}
use Rattle.gm_bench.specs.Benches.{media_of, progress_of, redone_of, registry_of, shelf_of}
use Rattle.gm_bench.specs.ShelfFacts.{IsHonestToAdopt}
use Rattle.gm_registry.specs.Registry.{DiskKept, HasTables, IsOpen, IsRegistry, LeavesAlone, LeavesNothingNew, Reads, Refuses, StoreFailed, WasClean, seen}
use Rattle.gm_bench.specs.declared.bench.Bench.{Bench}
use Rattle.gm_bench.specs.declared.fault.BenchFault.{BenchFault}
use Rattle.gm_bench.specs.declared.fault.BenchFault.TheVariants.{Absent, Closed, Disk, Store, Unreadable}
use Rattle.gm_bench.specs.declared.answer.Accepted.{Accepted}
use Rattle.gm_bench.specs.declared.answer.Answer.{Answer}
use Rattle.gm_bench.specs.declared.answer.SeriesAnswer.{SeriesAnswer}
use Rattle.gm_bench.specs.declared.answer.Work.{Work}
use Rattle.gm_bench.specs.declared.media.Media.{Media}
use Rattle.gm_bench.specs.declared.phase.Progress.TheVariants.{Failed, Pending}
use Rattle.gm_bench.specs.Faults.{IsOfCall, IsOfMedia, IsOfRegistry}
use Rattle.gm_bench.specs.Owed.{LookDoes, LookLeaves}
use Rattle.gm_bench.specs.declared.phase.Waiting.TheVariants.{Nothing}
use Rattle.gm_bench.specs.Accepting.{HasNothingElse}
use Rattle.gm_bench.specs.Phases.{IsUndone, waiting_of}
use Rattle.gm_bench.specs.Planning.{IsWorkAtHand}
use Rattle.gm_bench.specs.Keys.{AreReadUnderAll}
use Rattle.gm_bench.specs.Presence.{AreAtHand}

-- Disk is reported only if the shelf's count of failures rose.
abbrev pub TellsDisk : {H T : Type 0} → ShelfGhosts H → H → H → Result T BenchFault → Type 0
TellsDisk h old new result =
    IsErrOf result Disk → (h.view old).faults < (h.view new).faults

-- Store is reported for a registry with tables only if the store failed.
abbrev pub TellsStore : {S T : Type 0} → StoreGhosts S → Held S → Held S → Result T BenchFault
    → Type 0
TellsStore s old new result =
    DiskKept s new → IsErrOf result Store → (t : Tables) → HasTables s old t → StoreFailed s old new

-- no intent is pending, and no bytes are to be laid
abbrev pub HasNothingPending : Tables → Type 0
HasNothingPending = HasNothingElse Nothing

-- so many rows the store is to number for a command at most: those of the components of a mirror,
-- of the mirror and of the command
abbrev pub most_rows : ℕ
most_rows = 18

-- the same for a command that is accepted under so many further keys
abbrev pub rows_for : ℕ → ℕ
rows_for further = most_rows + further

-- A registry has tables after a call, and its store forgot no fault, and has the limit on steps
-- that it had.
pub record GoesOn {S : Type 0} (s : StoreGhosts S) (old new : Held S) : Type 0 where
  pub tables : Tables
  pub has : HasTables s new tables
  pub counts : (state s old).faults ≤ (state s new).faults
  pub limit : (state s new).step_limit ≡ (state s old).step_limit

-- A call that writes to the registry alone leaves the shelf, and fails as the registry does: F6
-- only of more commands than may be accepted.
pub record WritesAlone {S H T : Type 0} (s : StoreGhosts S) (old new : Media S H)
    (result : Result T BenchFault) : Type 0 where
  pub shelf : new.shelf ≡ old.shelf
  pub clean : WasClean s old.registry new.registry
  pub fault : IfErr result IsOfRegistry
  pub readable : DiskKept s new.registry → IsErrOf result Unreadable → (t : Tables)
      → HasTables s old.registry t → count_of t ≤ 100000 → ⊥

-- A call that writes to the shelf alone leaves the registry, and fails as the shelf does.
pub record WritesShelf {S H T : Type 0} (h : ShelfGhosts H) (old new : Media S H)
    (result : Result T BenchFault) : Type 0 where
  pub registry : new.registry ≡ old.registry
  pub keeps : Keeps h old.shelf new.shelf
  pub not_store : IsErrOf result Store → ⊥
  pub fault : IfErr result IsOfMedia

-- A call that takes out of the registry what was pending leaves the shelf, and the tables if it
-- fails, which it does for want of memory or as the store does.
pub record SettlesMedia {S H T : Type 0} (s : StoreGhosts S) (old new : Media S H)
    (result : Result T BenchFault) : Type 0 where
  pub shelf : new.shelf ≡ old.shelf
  pub clean : WasClean s old.registry new.registry
  pub refused : Refuses s old.registry new.registry result
  pub store : TellsStore s old.registry new.registry result
  pub disk : IsErrOf result Disk → ⊥
  pub fault : IfErr result IsOfMedia

-- a call that only reads a shelf, and asks no store
pub record Looks {H T : Type 0} (h : ShelfGhosts H) (old new : H)
    (result : Result T BenchFault) : Type 0 where
  pub only : ReadsOnly h old new
  pub disk : TellsDisk h old new result
  pub not_store : IsErrOf result Store → ⊥
  pub fault : IfErr result IsOfMedia

-- A call that looks up what the registry holds leaves both media, whatever rows there are, and
-- fails as the registry does; at Ok it is a registry still.
pub record OnlyLooksUp {S H T : Type 0} (s : StoreGhosts S) (old new : Media S H)
    (result : Result T BenchFault) : Type 0 where
  pub shelf : new.shelf ≡ old.shelf
  pub clean : WasClean s old.registry new.registry
  pub reads : DiskKept s new.registry → Reads s old.registry new.registry
  pub untouched : DiskKept s new.registry → IsRegistry s old.registry
      → LeavesAlone s old.registry new.registry
  pub still : DiskKept s new.registry → OnOk result (IsRegistry s old.registry
      → IsRegistry s new.registry)
  pub fault : IfErr result IsOfRegistry

module _ {S H T : Type 0} (s : StoreGhosts S) (h : ShelfGhosts H) (old new : Media S H)
    (result : Result T BenchFault) where
  -- A call that only looks at both media. Two in turn are one, if the first succeeds and leaves the
  -- tables that it found.
  pub record OnlyLooks : Type 0 where
    pub clean : WasClean s old.registry new.registry
    pub reads : DiskKept s new.registry → Reads s old.registry new.registry
    pub only : ReadsOnly h old.shelf new.shelf
    pub disk : TellsDisk h old.shelf new.shelf result
    pub store : TellsStore s old.registry new.registry result
    pub fault : IfErr result IsOfCall

  -- A call that hands in a command: it reads the shelf, it only read the registry too if an answer
  -- says that nothing was done, and a failure of the disk comes before anything is written.
  pub record Accepts (is_undone : T → Type 0) : Type 0 where
    pub only : ReadsOnly h old.shelf new.shelf
    pub disk : TellsDisk h old.shelf new.shelf result
    pub kept : DiskKept s new.registry → IsErrOf result Disk → (t : Tables)
        → HasTables s old.registry t → LeavesNothingNew s old.registry new.registry
    pub undone : DiskKept s new.registry
        → IfOk result (λ a. is_undone a → Reads s old.registry new.registry)
    pub clean : WasClean s old.registry new.registry

-- What a look tells of a registry by the rows of mirrors and components alone: F6 only if these say
-- no state, and Store only if the store failed.
pub record TellsOfRecords {S T : Type 0} (s : StoreGhosts S) (old new : Held S)
    (result : Result T BenchFault) : Type 0 where
  pub unreadable : DiskKept s new → IsErrOf result Unreadable → (t : Tables) (r : Records)
      → HasTables s old t → AreRecordsOf t r → ⊥
  pub store : DiskKept s new → IsErrOf result Store → IsRegistry s old → StoreFailed s old new

-- what a look tells of the records that the registry holds, by their rows, and of what an honest
-- shelf shows, whoever wrote it
abbrev pub TellsOfBoth : {S H T : Type 0} → StoreGhosts S → ShelfGhosts H → Bench S H → Bench S H
    → Result T BenchFault → (Records → Sizes → Image → T → Type 0) → Type 0
TellsOfBoth s h old new result Tells =
    h.honest (shelf_of old) → DiskKept s (registry_of new) → IfOk result (λ it. (t : Tables)
    (r : Records) → HasTables s (registry_of old) t → AreRecordsOf t r
    → Tells r (h.size (shelf_of old)) (h.view (shelf_of old)).seen it)

-- What is told of a command that is handed in by the registry's rows and the shelf's sizes alone.
module _ {S H T : Type 0} (s : StoreGhosts S) (h : ShelfGhosts H) (old new : Media S H)
    (result : Result T BenchFault) where
  -- F6 only if the rows of mirrors and components don't say a state, more commands are there
  -- than may be accepted, or one under the key that this program doesn't write
  abbrev pub TellsUnreadable : List ℕ → Command → Type 0
  TellsUnreadable key c = DiskKept s new.registry → IsErrOf result Unreadable
      → (t : Tables) (r : Records) → HasTables s old.registry t → AreRecordsOf t r
      → count_of t ≤ 100000 → AreWrittenUnder key t → IsHonestToAdopt h old.shelf c → ⊥

  -- the same of a command under several keys
  abbrev pub TellsUnreadableUnder : List (List ℕ) → Command → Type 0
  TellsUnreadableUnder keys c = DiskKept s new.registry → IsErrOf result Unreadable
      → (t : Tables) (r : Records) → HasTables s old.registry t → AreRecordsOf t r
      → AreReadUnderAll keys t → IsHonestToAdopt h old.shelf c → ⊥

  -- Store only if the store failed, wherever the rows say a state, the tables are such, and the
  -- store can number the rows of a command under so many further keys
  abbrev pub TellsStoreUnder : ℕ → (Tables → Type 0) → Command → Type 0
  TellsStoreUnder further AreSuch c = DiskKept s new.registry → IsErrOf result Store
      → (t : Tables) (r : Records) → HasTables s old.registry t → AreRecordsOf t r → AreSuch t
      → HasRoom (rows_for further) (seen s old.registry) → IsHonestToAdopt h old.shelf c
      → StoreFailed s old.registry new.registry

  -- the same of a command under one key
  abbrev pub TellsStoreWhere : (Tables → Type 0) → Command → Type 0
  TellsStoreWhere = TellsStoreUnder 0

  -- the same wherever nothing is pending
  abbrev pub TellsStoreOf : Command → Type 0
  TellsStoreOf = TellsStoreWhere HasNothingPending

  -- if it succeeds, the registry goes on, wherever the rows say a state
  abbrev pub StaysRegistry : Type 0
  StaysRegistry = DiskKept s new.registry → OnOk result ((t : Tables) (r : Records)
      → HasTables s old.registry t → AreRecordsOf t r → GoesOn s old.registry new.registry)

  -- what is then to be carried out is at hand, if the rows say a state
  abbrev pub TellsAtHand : (T → Type 0) → Type 0
  TellsAtHand IsHandy = DiskKept s new.registry → IfOk result (λ a. (t : Tables) (r : Records)
      → HasTables s old.registry t → AreRecordsOf t r → IsHandy a)

  -- if it fails, the tables stay, wherever the rows say a state
  abbrev pub RefusesCall : Type 0
  RefusesCall = DiskKept s new.registry → OnErr result ((t : Tables) (r : Records)
      → HasTables s old.registry t → AreRecordsOf t r → IsOpen s new.registry
      → HasTables s new.registry t)

-- A command that is handed in, by the registry's rows and the shelf's sizes alone: F6 only if the
-- rows can't be read, F2 only if the store failed wherever the tables are such; what is then to be
-- carried out is at hand; if it fails the tables stay, and else the registry goes on.
pub record TellsByRows {S H : Type 0} (s : StoreGhosts S) (h : ShelfGhosts H) (old new : Media S H)
    (result : Result Accepted BenchFault) (key : List ℕ) (more : List (List ℕ)) (c : Command)
    (AreSuch : Tables → Type 0) : Type 0 where
  pub readable : TellsUnreadableUnder s h old new result (key ∷ more) c
  pub at_hand : TellsAtHand s h old new result (IsWorkAtHand (h.size old.shelf))
  pub refused : RefusesCall s h old new result
  pub store : TellsStoreUnder s h old new result (length more) AreSuch c
  pub goes_on : StaysRegistry s h old new result

-- The shelf is kept; and if the disk kept what was written to the registry until now, it did so
-- before the call.
pub record Keep {S H : Type 0} (s : StoreGhosts S) (h : ShelfGhosts H) (r t : Held S)
    (k l : H) : Type 0 where
  pub shelf : Keeps h k l
  pub clean : WasClean s r t

-- A call that carries out what is pending and settles it keeps both media, and its faults are such:
-- Store only if the store failed.
pub record Finishes {S H T : Type 0} (s : StoreGhosts S) (h : ShelfGhosts H) (old new : Media S H)
    (IsSuch : BenchFault → Type 0) (result : Result T BenchFault) : Type 0 where
  pub store : TellsStore s old.registry new.registry result
  pub fault : IfErr result IsSuch
  pub keep : Keep s h old.registry new.registry old.shelf new.shelf

-- A call that fails closes the bench, and at a closed one it does nothing. No image is told to be
-- absent: that comes at an opening alone.
pub record ClosesOnFault {S H T : Type 0} (old new : Bench S H)
    (result : Result T BenchFault) : Type 0 where
  pub closed : progress_of old ≡ Failed → IsErrOf result Closed × (new ≡ old)
  pub reopen : IsErrOf result Closed → progress_of old ≡ Failed
  pub failed : OnErr result (progress_of new ≡ Failed)
  pub absent : (p : List ℕ) → IsErrOf result (Absent p) → ⊥
  pub redone : redone_of new ≡ redone_of old

module _ {S H T : Type 0} (s : StoreGhosts S) (h : ShelfGhosts H) (old new : Bench S H)
    (result : Result T BenchFault) where
  -- A call that looks changes neither medium, and a stop within it leaves what leads on as before.
  pub record LooksOn : Type 0 where
    pub stays : OnOk result (progress_of new ≡ progress_of old)
    pub does : h.honest (shelf_of old) → DiskKept s (registry_of new)
        → OnOk result (LookDoes s h (registry_of old) (registry_of new)
        (shelf_of old) (shelf_of new))
    pub leaves : h.honest (shelf_of old) → DiskKept s (registry_of new)
        → LookLeaves s h (registry_of old) (registry_of new) (shelf_of old) (shelf_of new)
    pub store : Reads s (registry_of old) (registry_of new)
    pub only : ReadsOnly h (shelf_of old) (shelf_of new)
    pub disk : TellsDisk h (shelf_of old) (shelf_of new) result

  -- A call that carries out what is pending leaves the registry, and reports the disk only if that
  -- failed, wherever the providers of its intents are at hand.
  pub record CarriesOut : Type 0 where
    pub keep : Keep s h (registry_of old) (registry_of new) (shelf_of old) (shelf_of new)
    pub registry : registry_of new ≡ registry_of old
    pub not_store : IsErrOf result Store → ⊥
    pub unreadable : IsErrOf result Unreadable → ⊥
    pub disk : (work : Work) → progress_of old ≡ Pending work
        → AreAtHand (h.size (shelf_of old)) work.intents.items
        → TellsDisk h (shelf_of old) (shelf_of new) result

-- A command that is handed in, by the registry's rows and the shelf's sizes alone: what is then
-- pending is at hand, if it fails the tables stay, and else the registry goes on. `Store` comes
-- only if the store failed, wherever nothing is pending but what this call settles.
pub record TellsOfRows {S H : Type 0} (s : StoreGhosts S) (h : ShelfGhosts H) (old new : Bench S H)
    (result : Result Answer BenchFault) (key : List ℕ) (c : Command) : Type 0 where
  pub readable : TellsUnreadable s h (media_of old) (media_of new) result key c
  pub at_hand : TellsAtHand s h (media_of old) (media_of new) result (λ a. (work : Work)
      → progress_of new ≡ Pending work → AreAtHand (h.size (shelf_of old)) work.intents.items)
  pub refused : RefusesCall s h (media_of old) (media_of new) result
  pub store : TellsStoreWhere s h (media_of old) (media_of new) result
      (HasNothingElse (waiting_of (progress_of old))) c
  pub goes_on : StaysRegistry s h (media_of old) (media_of new) result

-- The same of a command under further keys as well.
pub record TellsOfKeys {S H T : Type 0} (s : StoreGhosts S) (h : ShelfGhosts H) (old new : Bench S H)
    (result : Result T BenchFault) (key : List ℕ) (more : List (List ℕ)) (c : Command) : Type 0
  where
    pub readable : TellsUnreadableUnder s h (media_of old) (media_of new) result (key ∷ more) c
    pub at_hand : TellsAtHand s h (media_of old) (media_of new) result (λ a. (work : Work)
        → progress_of new ≡ Pending work → AreAtHand (h.size (shelf_of old)) work.intents.items)
    pub refused : RefusesCall s h (media_of old) (media_of new) result
    pub store : TellsStoreUnder s h (media_of old) (media_of new) result (length more)
        (HasNothingElse (waiting_of (progress_of old))) c
    pub goes_on : StaysRegistry s h (media_of old) (media_of new) result

-- A command that is handed in and carried out, by the registry's rows and the shelf's sizes alone:
-- `Store` comes only if the store failed, wherever nothing is pending but what this call settles.
pub record HandsInByRows {S H : Type 0} (s : StoreGhosts S) (h : ShelfGhosts H)
    (old new : Bench S H) (result : Result Answer BenchFault) (key : List ℕ) (c : Command)
    : Type 0 where
  pub readable : TellsUnreadable s h (media_of old) (media_of new) result key c
  pub store : TellsStoreWhere s h (media_of old) (media_of new) result
      (HasNothingElse (waiting_of (progress_of old))) c
  pub goes_on : StaysRegistry s h (media_of old) (media_of new) result

-- The same of a command under further keys as well.
pub record HandsInByKeys {S H T : Type 0} (s : StoreGhosts S) (h : ShelfGhosts H)
    (old new : Bench S H) (result : Result T BenchFault) (key : List ℕ) (more : List (List ℕ))
    (c : Command) : Type 0 where
  pub readable : TellsUnreadableUnder s h (media_of old) (media_of new) result (key ∷ more) c
  pub store : TellsStoreUnder s h (media_of old) (media_of new) result (length more)
      (HasNothingElse (waiting_of (progress_of old))) c
  pub goes_on : StaysRegistry s h (media_of old) (media_of new) result

-- A command that is run: if an answer says that nothing was done it only read the registry, and
-- if the registry's rows say a state it reports the disk only if that failed.
pub record RunsOnce {S H : Type 0} (s : StoreGhosts S) (h : ShelfGhosts H) (old new : Bench S H)
    (result : Result Answer BenchFault) : Type 0 where
  pub keep : Keep s h (registry_of old) (registry_of new) (shelf_of old) (shelf_of new)
  pub undone : DiskKept s (registry_of new)
      → IfOk result (λ a. IsUndone a → Reads s (registry_of old) (registry_of new))
  pub disk : DiskKept s (registry_of new) → (t : Tables) (r : Records)
      → HasTables s (registry_of old) t → AreRecordsOf t r
      → TellsDisk h (shelf_of old) (shelf_of new) result

-- The same of commands that are handed in under keys in turn.
pub record RunsSeries {S H : Type 0} (s : StoreGhosts S) (h : ShelfGhosts H) (old new : Bench S H)
    (result : Result SeriesAnswer BenchFault) : Type 0 where
  pub keep : Keep s h (registry_of old) (registry_of new) (shelf_of old) (shelf_of new)
  pub undone : DiskKept s (registry_of new)
      → IfOk result (λ a. IsUndone a.answer → Reads s (registry_of old) (registry_of new))
  pub disk : DiskKept s (registry_of new) → (t : Tables) (r : Records)
      → HasTables s (registry_of old) t → AreRecordsOf t r
      → TellsDisk h (shelf_of old) (shelf_of new) result

-- A call that settles writes the registry alone, and its faults are want of memory and the store's:
-- on a disk that didn't fail, without a limit on steps, want of memory alone.
pub record Settles {S H T : Type 0} (s : StoreGhosts S) (old new : Bench S H)
    (result : Result T BenchFault) : Type 0 where
  pub shelf : shelf_of new ≡ shelf_of old
  pub store : TellsStore s (registry_of old) (registry_of new) result
  pub unreadable : IsErrOf result Unreadable → ⊥
  pub disk : IsErrOf result Disk → ⊥
  pub clean : WasClean s (registry_of old) (registry_of new)
