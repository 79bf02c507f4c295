-- What an opening without a provider leaves, and what it answers, from the store and the shelf
-- before it.
use Rattle.std.specs.Prelude.{◌≡◌, ◌⊎◌, ◌+◌, ◌^◌, ◌<◌, ◌≤◌, ℕ, List, [], None, Some, Ok, Err, Result, IsErrOf, MatchResult, OnOk, length}
use Rattle.sqlite_trees.specs.declared.store.Store.{Ghosts}
use Rattle.sqlite_catalog.specs.Listing.{IsSound}
use Rattle.sqlite.specs.Held.{Held}
use Rattle.sqlite.specs.Tree.{Trees}
use Rattle.gm_metadata.specs.Images.{Image}
use Rattle.gm_shelf.specs.declared.shelf.Shelf.{Ghosts as ShelfGhosts}
use Rattle.gm_state.specs.declared.intents.Intent.{Intent}
use Rattle.gm_state.specs.declared.intents.Reply.TheVariants.{Plain}
use Rattle.gm_state.specs.Readable.{AreReadable}
use Rattle.gm_state.specs.Records.{IsState, Records}
use Rattle.gm_state.specs.Rows.{Tables}
use Rattle.gm_state.specs.World.{World, Answered}
use Rattle.gm_rows.specs.ReadableTables.{AreTablesOf}
use Rattle.gm_rows.specs.Schema.{first_schema, registry_schema}
use Rattle.gm_registry.specs.Opening.{IsForeign, IsOpenable}
use Rattle.gm_registry.specs.Fitting.{HasRoom}
use Rattle.gm_registry.specs.Opens.{IsStored}
use Rattle.gm_registry.specs.Registry.{DiskKept, HasTables, IsOpen, IsRegistry, LeavesAlone, StoreFailed, seen, stored}
use Rattle.gm_registry.specs.Replies.{AreWrittenUnder, count_of}
use Rattle.gm_bench.specs.declared.bench.OpenFault.{OpenFault}
use Rattle.gm_bench.specs.declared.fault.BenchFault.{BenchFault}
use Rattle.gm_bench.specs.declared.fault.BenchFault.TheVariants.{Absent, Closed, Disk, Store, Unreadable}
use Rattle.gm_bench.specs.declared.answer.Answer.TheVariants.{Done, Repeated, Refused as NotDone}
use Rattle.gm_bench.specs.declared.loss.Loss.{Loss}
use Rattle.gm_bench.specs.declared.media.Media.{Media}
use Rattle.gm_bench.specs.declared.open_without.Without.{Without}
use Rattle.gm_bench.specs.declared.open_without.Without.TheVariants.{Opened, Refused}
use Rattle.gm_bench.specs.declared.phase.Progress.TheVariants.{Ready}
use Rattle.gm_bench.specs.declared.take_up_without.TakenUp.{TakenUp}
use Rattle.gm_bench.specs.declared.take_up_without.TakenUp.TheVariants.{Carried, NotLost}
use Rattle.gm_bench.specs.Benches.{progress_of, redone_of, registry_of, shelf_of}
use Rattle.gm_bench.specs.Calls.{Keep, TellsDisk, most_rows}
use Rattle.gm_bench.specs.Faults.{IsBeforeWrites}
use Rattle.gm_bench.specs.Opened.{AreOfState, MayBeCarriedOver}
use Rattle.gm_bench.specs.Owed.{IsLeft, IsOpening, OpenLeaves}
use Rattle.gm_bench.specs.Presence.{first_absent}
use Rattle.gm_bench.specs.Recovering.{IsAt}
use Rattle.gm_bench.specs.Schedule.{WithoutCarries, WithoutDoes, WithoutLeaves}
use Rattle.gm_bench.specs.Without.{IsKeptLoss, IsLacking, IsRefusedLoss, loss_call}

-- the store after it, and the shelf
abbrev pub store_behind : {S H : Type 0} → Without S H → Held S
store_behind (Opened b answer) = registry_of b
store_behind (Refused why store shelf) = store

abbrev pub shelf_behind : {S H : Type 0} → Without S H → H
shelf_behind (Opened b answer) = shelf_of b
shelf_behind (Refused why store shelf) = shelf

-- a bench that it opens is at rest
abbrev pub IsReady : {S H : Type 0} → Without S H → Type 0
IsReady (Opened b answer) = progress_of b ≡ Ready
IsReady (Refused why store shelf) = Unit {0}

module _ {S H : Type 0} (g : Ghosts S) (j : ShelfGhosts H) (store : Held S)
    (h : H) (key p : List ℕ) where
  -- The registry is opened, and the loss is committed, of a mirror, with these intents taken out:
  -- it was stopped at its commit, or after that, or it is carried out.
  pub record LeavesLost (s : Held S) (k : H) : Type 0 where
    pub registry : Held S
    pub opened : IsOpening g j store registry
    pub opening : OpenLeaves g j store registry h h
    pub mirror : List ℕ
    pub gone : List Intent
    pub committing :
        (WithoutLeaves g j store registry s h (loss_call key mirror p) p gone × (k ≡ h))
        ⊎ ((mid : Held S)
        × WithoutLeaves g j store registry mid h (loss_call key mirror p) p gone
        × WithoutCarries g j store mid s h k (loss_call key mirror p) p gone)

  -- that, or no more than what any opening leaves
  abbrev pub GivesUp : Held S → H → Type 0
  GivesUp s k = OpenLeaves g j store s h k ⊎ LeavesLost s k

  -- nothing is committed unless the loss is answered as done
  abbrev pub LeavesUndone : Without S H → Type 0
  LeavesUndone (Opened b (Done n reply)) = Unit {0}
  LeavesUndone (Opened b (Repeated n reply)) =
      OpenLeaves g j store (registry_of b) h (shelf_of b)
  LeavesUndone (Opened b (NotDone why)) = Unit {0}
  LeavesUndone (Refused why s k) = OpenLeaves g j store s h k

  -- this image is lacking, and nothing is committed
  abbrev pub LacksImage : Held S → H → List ℕ → Type 0
  LacksImage s k q = OpenLeaves g j store s h k
      × ((away : Image) (u w : World) → (left : IsLeft g j store h away u w)
      → IsLacking w left.recovers.intents left.recovers.bytes key p (j.size h) q)

  -- The loss is done under the next number, or was before, and what was pending is carried out; or
  -- it is refused. The bench counts the intents that were pending.
  abbrev pub AnswersLoss : Without S H → Type 0
  AnswersLoss (Opened b (Done n reply)) =
      (m : List ℕ) × (gone : List Intent)
      × WithoutDoes g j store (registry_of b) h (shelf_of b) (loss_call key m p) p gone
      × ((away : Image) (u w : World) → (left : IsLeft g j store h away u w)
      → (n ≡ length w.answered + 1) × (reply ≡ Plain)
      × (redone_of b ≡ length left.recovers.intents))
  AnswersLoss (Opened b (Repeated n reply)) =
      (away : Image) (u w : World) → (left : IsLeft g j store h away u w)
      → ((a : Answered) × IsKeptLoss w key p a × (a.number ≡ n) × (a.reply ≡ reply))
      × (redone_of b ≡ length left.recovers.intents)
      × IsAt g j (registry_of b) (shelf_of b) away [] [] w w
  AnswersLoss (Opened b (NotDone why)) = ⊥
  AnswersLoss (Refused why s k) =
      (away : Image) (u w : World) → (left : IsLeft g j store h away u w)
      → IsRefusedLoss w left.recovers.intents key p why

-- The store has tables of a state, or none, with these intents pending: few enough that those of a
-- loss can be numbered after them; and it can number the rows of a command.
pub record TakesLoss (db : Trees) : Type 0 where
  pub tables : Tables
  pub stands : IsStored db tables
  pub records : Records
  pub intents : List Intent
  pub bytes : List (List ℕ)
  pub are : AreTablesOf tables records intents bytes
  pub few : length intents + 17 < 2 ^ 32
  pub room : HasRoom most_rows db

-- What is told of a loss that is carried out: F5 exactly if an image isn't there, and then nothing
-- is written; F6 only of more commands than may be accepted, before anything is written; F3 only if
-- the shelf failed.
pub record TellsOfLoss {S H : Type 0} (s : Ghosts S) (h : ShelfGhosts H) (loss : Loss)
    (old new : Media S H) (result : Result ℕ BenchFault) : Type 0 where
  pub there : OnOk result (first_absent loss.after (h.size old.shelf) loss.intents.items ≡ None)
  pub absent : (q : List ℕ) → IsErrOf result (Absent q)
      → (first_absent loss.after (h.size old.shelf) loss.intents.items ≡ Some q) × (new ≡ old)
  pub unread : IsErrOf result Unreadable → new.shelf ≡ old.shelf
  pub untouched : IsErrOf result Unreadable → IsRegistry s old.registry
      → LeavesAlone s old.registry new.registry
  pub readable : DiskKept s new.registry → IsErrOf result Unreadable → (t : Tables)
      → HasTables s old.registry t → count_of t ≤ 100000 → ⊥
  pub disk : AreReadable loss.after loss.bytes.items loss.intents.items → IsState loss.after
      → TellsDisk h old.shelf new.shelf result
  pub closed : IsErrOf result Closed → ⊥

-- What is told if a provider is given up under a key: Ok only if the tables say a state. Of such
-- F3 comes only if the shelf failed, F6 only of a row under the key that this program doesn't
-- write, and F2 only if the store failed, as long as there is room for a loss.
pub record TellsWithout {S H T : Type 0} (s : Ghosts S) (h : ShelfGhosts H) (key : List ℕ)
    (old new : Media S H) (result : Result T BenchFault) : Type 0 where
  pub readable : DiskKept s new.registry → OnOk result ((t : Tables) → HasTables s old.registry t
      → AreOfState t)
  pub disk : DiskKept s new.registry → (t : Tables) → HasTables s old.registry t
      → TellsDisk h old.shelf new.shelf result
  pub unreadable : DiskKept s new.registry → IsErrOf result Unreadable → (t : Tables)
      (r : Records) (ts : List Intent) (bytes : List (List ℕ)) → HasTables s old.registry t
      → AreTablesOf t r ts bytes → AreWrittenUnder key t → ⊥
  pub store : DiskKept s new.registry → IsErrOf result Store → (t : Tables) (r : Records)
      (ts : List Intent) (bytes : List (List ℕ)) → HasTables s old.registry t
      → AreTablesOf t r ts bytes → length ts + 17 < 2 ^ 32
      → HasRoom most_rows (seen s old.registry) → StoreFailed s old.registry new.registry
  pub closed : IsErrOf result Closed → ⊥

-- the loss is refused, or it failed, before anything is written
abbrev pub IsUnwritten : Result TakenUp BenchFault → Type 0
IsUnwritten (Ok (Carried answer redone)) = ⊥
IsUnwritten (Ok (NotLost why)) = Unit {0}
IsUnwritten (Err fault) = IsBeforeWrites fault

-- Then the shelf is as it was, and so is a registry, whatever its rows hold.
pub record StaysUnlost {S H : Type 0} (s : Ghosts S) (old new : Media S H)
    (result : Result TakenUp BenchFault) : Type 0 where
  pub shelf : IsUnwritten result → new.shelf ≡ old.shelf
  pub registry : DiskKept s new.registry → IsUnwritten result → IsRegistry s old.registry
      → LeavesAlone s old.registry new.registry

module _ {S H : Type 0} (s : Ghosts S) (store : Held S) (shelf : H) where
  -- The shelf is as it was, and so is a registry, whatever rows its tables hold; but tables of the
  -- first schema may be carried over.
  pub record AreUntouched (end : Held S) (k : H) : Type 0 where
    pub shelf_is : k ≡ shelf
    pub alone : IsOpen s store → DiskKept s end → IsSound registry_schema (stored s store)
        → LeavesAlone s store end
    pub first_alone : IsOpen s store → DiskKept s end → IsSound first_schema (stored s store)
        → MayBeCarriedOver s store end

  -- a refusal leaves both media so
  abbrev pub StaysRefused : Without S H → Type 0
  StaysRefused (Opened b answer) = Unit {0}
  StaysRefused (Refused why end k) = AreUntouched end k

module _ {S H : Type 0} (s : Ghosts S) (h : ShelfGhosts H) (store : Held S) (shelf : H)
    (key p : List ℕ) where
  -- What is answered of the loss; whatever it is, the tables that are stored say a state.
  pub record IsOpenedWithout (it : Without S H) : Type 0 where
    pub answers : h.honest shelf → IsOpen s store → DiskKept s (store_behind it)
        → AnswersLoss s h store shelf key p it
    pub undone : h.honest shelf → IsOpen s store → DiskKept s (store_behind it)
        → LeavesUndone s h store shelf key p it
    pub ready : IsReady it
    pub readable : IsOpen s store → DiskKept s (store_behind it)
        → (t : Tables) → IsStored (stored s store) t → AreOfState t
    pub refused : StaysRefused s store shelf it

  -- Why it failed. By the tables that are stored and the sizes alone: F3 only if the device
  -- failed, and F6 only if the tables don't say a state with readable intents, or the key's row
  -- is one that this program doesn't write. F2 comes only if the store failed, of one that takes
  -- a loss, or has other tables. F5 and F6 leave both media as they were.
  pub record IsUnopenedWithout (e : OpenFault S H) : Type 0 where
    pub lacks : h.honest shelf → IsOpen s store → DiskKept s e.store → (q : List ℕ)
        → e.fault ≡ Absent q → LacksImage s h store shelf key p e.store e.shelf q
    pub untouched : IsBeforeWrites e.fault → AreUntouched s store shelf e.store e.shelf
    pub disk : IsOpen s store → DiskKept s e.store → e.fault ≡ Disk
        → (t : Tables) → IsStored (stored s store) t
        → (h.view shelf).faults < (h.view e.shelf).faults
    pub unreadable : IsOpen s store → DiskKept s e.store → e.fault ≡ Unreadable
        → IsOpenable (stored s store) → (t : Tables) (r : Records) (ts : List Intent)
        (bytes : List (List ℕ)) → IsStored (stored s store) t → AreTablesOf t r ts bytes
        → AreWrittenUnder key t → ⊥
    pub failed : IsOpen s store → DiskKept s e.store → e.fault ≡ Store
        → TakesLoss (stored s store) ⊎ IsForeign (stored s store) → StoreFailed s store e.store
    pub closed : e.fault ≡ Closed → ⊥

  -- of either end of an opening without the provider
  module _ (result : Result (Without S H) (OpenFault S H)) where
    -- wherever it is stopped, what is there leads to the world that was left, or to the loss's step
    abbrev pub GivingUpLeaves : Type 0
    GivingUpLeaves = h.honest shelf → IsOpen s store → MatchResult result
        (λ it. DiskKept s (store_behind it)
        → GivesUp s h store shelf key p (store_behind it) (shelf_behind it))
        (λ e. DiskKept s e.store → GivesUp s h store shelf key p e.store e.shelf)

module _ {S H : Type 0} (s : Ghosts S) (h : ShelfGhosts H) (store : Held S) (shelf : H)
    (result : Result (Without S H) (OpenFault S H)) where
  -- neither medium of a store with other tables is touched
  abbrev pub GivesNoOthersUp : Type 0
  GivesNoOthersUp = IsOpen s store → IsForeign (stored s store) → MatchResult result
      (λ it. DiskKept s (store_behind it) → ⊥)
      (λ e. DiskKept s e.store → LeavesAlone s store e.store × (e.shelf ≡ shelf))

  -- both media are kept
  abbrev pub GivingUpKeeps : Type 0
  GivingUpKeeps = MatchResult result
      (λ it. Keep s h store (store_behind it) shelf (shelf_behind it))
      (λ e. Keep s h store e.store shelf e.shelf)
