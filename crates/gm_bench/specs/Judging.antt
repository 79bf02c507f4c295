-- What the calls owe that judge a loss, write it and carry out what is pending then.
use Rattle.std.specs.Prelude.{◌≡◌, ◌+◌, ◌^◌, ◌<◌, ◌≤◌, ◌∷◌, ℕ, true, List, [], Some, length, Result, IfOk, IfErr, OnOk, IsErrOf}
use Rattle.sqlite_trees.specs.declared.store.Store.{Ghosts as StoreGhosts}
use Rattle.gm_metadata.specs.Images.{Image, Sizes}
use Rattle.gm_shelf.specs.declared.shelf.Shelf.{Ghosts as ShelfGhosts}
use Rattle.gm_lists.specs.Ordered.{Has}
use Rattle.gm_commands.specs.declared.command.Command.{Command}
use Rattle.gm_commands.specs.declared.command.Command.TheVariants.{Lost}
use Rattle.gm_commands.specs.Commands.{CommandFits, is_key, words_of}
use Rattle.gm_state.specs.declared.intents.Intent.{Intent}
use Rattle.gm_state.specs.declared.records.Component.{Component}
use Rattle.gm_state.specs.Lookups.{component_of}
use Rattle.gm_state.specs.Readable.{AreReadable}
use Rattle.gm_state.specs.Records.{Records, IsState}
use Rattle.gm_state.specs.Rows.{HoldRecords, Tables}
use Rattle.gm_state.specs.World.{Answered, World, present}
use Rattle.gm_refusals.specs.declared.refusals.Refusal.{Refusal}
use Rattle.gm_refusals.specs.WorldFacts.{seen_of}
use Rattle.gm_changes.specs.Decides.{Changed, Decides, changed_by}
use Rattle.gm_rows.specs.ReadableTables.{AreRecordsOf, AreTablesOf}
use Rattle.gm_registry.specs.Fitting.{HasRoom}
use Rattle.gm_registry.specs.Registry.{DiskKept, HasTables, IsRegistry, LeavesAlone, StoreFailed, seen}
use Rattle.gm_registry.specs.Replies.{AreWrittenUnder, IsFree, count_of}
use Rattle.gm_bench.specs.declared.fault.BenchFault.{BenchFault}
use Rattle.gm_bench.specs.declared.fault.BenchFault.TheVariants.{Absent, Store, Unreadable}
use Rattle.gm_bench.specs.declared.loss.Judged.{Judged}
use Rattle.gm_bench.specs.declared.loss.Loss.{Loss}
use Rattle.gm_bench.specs.declared.media.Media.{Media}
use Rattle.gm_bench.specs.declared.take_up_without.Looked.{Looked}
use Rattle.gm_bench.specs.declared.take_up_without.TakenUp.{TakenUp}
use Rattle.gm_bench.specs.Calls.{GoesOn, Keep, OnlyLooksUp, TellsStore, WritesAlone, most_rows}
use Rattle.gm_bench.specs.Faults.{IsOfRegistry}
use Rattle.gm_bench.specs.GivingUp.{StaysUnlost, TellsOfLoss, TellsWithout}
use Rattle.gm_bench.specs.Planning.{IsFitting}
use Rattle.gm_bench.specs.Recovering.{IsFound}
use Rattle.gm_bench.specs.Without.{AreOfWorld, CanBeCommitted, CanCommit, Commits, DoesLoss, DoesWithout, HasJudged, IsJudged, IsLooked, IsLost, KeepsUndone, LacksFirst, LeavesLoss, LeavesWithout, StayReadableBehind, StaysReadable, loss_call}

-- the rules decide on a loss, by all records and the sizes
pub record RulesOnLoss {E : Type 0} (s : Records) (size : Sizes) (c : Command)
    (result : Result (Result Changed Refusal) E) : Type 0 where
  -- it is what is decided of the world with these records and sizes
  pub decides : IfOk result (λ r. (w : World) (n p : List ℕ) → s ≡ w.state → present w ≡ size
      → c ≡ Lost n (p ∷ []) → Decides w.state (seen_of w) c r)
  -- the change leaves a state
  pub state : IfOk result (λ r. IsState s → CommandFits c → (n p : List ℕ)
      → c ≡ Lost n (p ∷ []) → IfOk r (λ ch. IsState (changed_by ch s)))
  -- what is pending after it can be read again
  pub again : IfOk result (λ r. (k : Component) (p : List ℕ) → c ≡ Lost k.mirror (p ∷ [])
      → component_of s p ≡ Some k → CommandFits c → IsState s
      → IfOk r (StayReadableBehind s p))
  -- the change fits the tables of the records
  pub fits : IfOk result (λ r. (t : Tables) (n p : List ℕ) → AreRecordsOf t s → CommandFits c
      → c ≡ Lost n (p ∷ [])
      → IfOk r (λ ch. IsFitting ch (words_of c) t × (length ch.intents ≤ 17)
      × (ch.further ≡ [])))

-- the loss of a component is judged, under a key that is free, of all records and what is pending
pub record JudgesComponent (s : Records) (size : Sizes) (ts : List Intent) (bytes : List (List ℕ))
    (k : Component) (result : Result Judged BenchFault) : Type 0 where
  -- of the world with these records and sizes, with room for a command
  pub judged : IfOk result (λ j. (w : World) (key p : List ℕ) → AreOfWorld s size w
      → k.provider ≡ p → component_of w.state p ≡ Some k → is_key key ≡ true
      → ((a : Answered) → Has w.answered a → a.key ≡ key → ⊥)
      → length w.answered < 100000 → IsJudged w ts bytes key p j)
  -- F6 comes only of records that are no state
  pub readable : IsErrOf result Unreadable → IsState s → ⊥
  -- what is pending then can be read again
  pub again : IfOk result (λ j. component_of s k.provider ≡ Some k → IsState s
      → StaysReadable s ts bytes j)
  -- the loss can be committed
  pub fits : IfOk result (λ j. (key : List ℕ) (t : Tables) → AreRecordsOf t s → is_key key ≡ true
      → IsFree t key → count_of t < 100000 → CanBeCommitted key ts t j)
  -- its faults are those of a registry
  pub fault : IfErr result IsOfRegistry
  -- but no fault of the store comes
  pub not_store : IsErrOf result Store → ⊥

-- the loss of a provider is judged, under a key that is free, of all records and what is pending
pub record JudgesMember (s : Records) (size : Sizes) (ts : List Intent) (bytes : List (List ℕ))
    (p : List ℕ) (result : Result Judged BenchFault) : Type 0 where
  -- of the world with these records and sizes, with room for a command
  pub judged : IfOk result (λ j. (w : World) (key : List ℕ) → AreOfWorld s size w
      → is_key key ≡ true → ((a : Answered) → Has w.answered a → a.key ≡ key → ⊥)
      → length w.answered < 100000 → IsJudged w ts bytes key p j)
  -- F6 doesn't come
  pub readable : IsErrOf result Unreadable → ⊥
  -- what is pending then can be read again
  pub again : IfOk result (StaysReadable s ts bytes)
  -- the loss can be committed
  pub fits : IfOk result (λ j. (key : List ℕ) (t : Tables) → AreRecordsOf t s → is_key key ≡ true
      → IsFree t key → count_of t < 100000 → CanBeCommitted key ts t j)
  -- its faults are those of a registry
  pub fault : IfErr result IsOfRegistry
  -- but no fault of the store comes
  pub not_store : IsErrOf result Store → ⊥

module _ {S H : Type 0} (g : StoreGhosts S) (h : ShelfGhosts H) (old new : Media S H) where
  module _ (s : Records) (ts : List Intent) (bytes : List (List ℕ)) (p : List ℕ)
      (result : Result Judged BenchFault) where
    -- the loss of a provider is judged under a key
    pub record JudgesLoss (key : List ℕ) : Type 0 where
      -- of the world with these records and tables
      pub judged : DiskKept g new.registry → IfOk result (λ j. (w : World) (t : Tables)
          → AreOfWorld s (h.size old.shelf) w → HoldRecords w t → HasTables g old.registry t
          → IsJudged w ts bytes key p j × HasTables g new.registry t)
      -- F6 comes only of more commands than may be accepted, or of a row under the key that this
      -- program doesn't write
      pub readable : DiskKept g new.registry → IsErrOf result Unreadable → (t : Tables)
          → HasTables g old.registry t → count_of t ≤ 100000 → AreWrittenUnder key t → ⊥
      -- what is pending after the loss can be read again, and the tables stay
      pub again : DiskKept g new.registry → IfOk result (λ j. (t : Tables)
          → HasTables g old.registry t → HasTables g new.registry t × StaysReadable s ts bytes j)
      -- the loss can be committed
      pub fits : DiskKept g new.registry → IfOk result (λ j. (t : Tables)
          → HasTables g old.registry t → AreRecordsOf t s → CanBeCommitted key ts t j)
      -- F2 comes only if the store failed
      pub store : TellsStore g old.registry new.registry result
      -- it only looks up what the registry holds
      pub looks : OnlyLooksUp g old new result

  -- what the registry holds is loaded, and the loss of a provider judged under a key
  pub record LooksForLoss (p key : List ℕ) (result : Result Looked BenchFault) : Type 0 where
    -- of a registry that leads to w
    pub looked : h.honest old.shelf → DiskKept g new.registry → IfOk result
        (λ l. (away : Image) (ts : List Intent) (bytes : List (List ℕ)) (u w : World)
        → (at : IsFound g h old.registry old.shelf away ts bytes u w)
        → IsLooked g h new.registry new.shelf key p l away ts bytes u w
        × HasTables g new.registry at.tables)
    -- F6 comes only if the tables don't say a state, or of a row under the key that this program
    -- doesn't write
    pub unreadable : DiskKept g new.registry → IsErrOf result Unreadable
        → (t : Tables) (s : Records) (ts : List Intent) (bytes : List (List ℕ))
        → HasTables g old.registry t → AreTablesOf t s ts bytes → AreWrittenUnder key t → ⊥
    -- of any tables: what they say, and what is pending after the loss can be read again
    pub loaded : DiskKept g new.registry → IfOk result (λ l. (t : Tables)
        → HasTables g old.registry t → AreTablesOf t l.state l.intents.items l.bytes.items
        × HasTables g new.registry t
        × StaysReadable l.state l.intents.items l.bytes.items l.judged)
    -- the loss can be committed
    pub fits : DiskKept g new.registry → IfOk result (λ l. (t : Tables)
        → HasTables g old.registry t → CanBeCommitted key l.intents.items t l.judged)
    -- F2 comes only if the store failed
    pub store : TellsStore g old.registry new.registry result
    -- it only looks up what the registry holds
    pub looks : OnlyLooksUp g old new result

  module _ (key : List ℕ) (loss : Loss) (result : Result ℕ BenchFault) where
    -- of a loss that fits the tables, F2 comes only if the store failed
    abbrev pub TellsStoreOfLoss : Type 0
    TellsStoreOfLoss = DiskKept g new.registry → IsErrOf result Store
        → (t : Tables) (ts : List Intent) → HasTables g old.registry t → CanCommit key ts t loss
        → length ts + 17 < 2 ^ 32 → IsState loss.after
        → AreReadable loss.after loss.bytes.items loss.intents.items
        → HasRoom most_rows (seen g old.registry) → StoreFailed g old.registry new.registry

    -- a loss is written, in place of what is pending
    pub record CommitsLoss : Type 0 where
      -- a stop leaves what led to w, or the loss's step
      pub leaves : h.honest old.shelf → DiskKept g new.registry → (p : List ℕ)
          → Commits g h (HasJudged g h old.registry old.shelf key p loss)
          (loss_call key loss.mirror p) p old.registry new.registry old.shelf
      -- its intents then lead to the step
      pub done : h.honest old.shelf → DiskKept g new.registry → IfOk result
          (λ n. (p : List ℕ) (away : Image) (ts : List Intent) (bytes : List (List ℕ))
          (u w : World) → HasJudged g h old.registry old.shelf key p loss away ts bytes u w
          → IsLost g h new.registry old.shelf away loss key p ts u w n)
      pub store : TellsStoreOfLoss
      -- if it succeeds the registry goes on
      pub goes_on : DiskKept g new.registry → OnOk result ((t : Tables)
          → HasTables g old.registry t → GoesOn g old.registry new.registry)
      -- F6 leaves a registry alone, whatever its rows hold
      pub untouched : IsErrOf result Unreadable → IsRegistry g old.registry
          → LeavesAlone g old.registry new.registry
      -- it writes the registry alone
      pub alone : WritesAlone g old new result

    -- a loss is written, in place of what is pending, and what is pending then is carried out
    pub record Loses : Type 0 where
      -- a stop leaves what led to w, or what leads to the loss's step
      pub leaves : h.honest old.shelf → DiskKept g new.registry → (p : List ℕ)
          → LeavesLoss g h (HasJudged g h old.registry old.shelf key p loss)
          (loss_call key loss.mirror p) p old.registry new.registry old.shelf new.shelf
      -- the media are then at rest in the world of the step
      pub done : h.honest old.shelf → DiskKept g new.registry → IfOk result (λ n. (p : List ℕ)
          → DoesLoss g h (HasJudged g h old.registry old.shelf key p loss)
          (loss_call key loss.mirror p) p new.registry new.shelf n loss.change.reply)
      -- by the loss and the sizes alone
      pub tells : TellsOfLoss g h loss old new result
      pub store : TellsStoreOfLoss
      -- it keeps both media
      pub keep : Keep g h old.registry new.registry old.shelf new.shelf

  -- The loss of a provider is judged under a key, and what is pending is carried out, with the loss
  -- if it is to be written.
  pub record TakesUpWithout (p key : List ℕ) (result : Result TakenUp BenchFault) : Type 0 where
    -- a stop leaves what led to w, or what leads to the loss's step
    pub leaves : h.honest old.shelf → DiskKept g new.registry
        → LeavesWithout g h key p old.registry new.registry old.shelf new.shelf
    -- what is answered, and where the media are then at rest
    pub does : h.honest old.shelf → DiskKept g new.registry → IfOk result
        (DoesWithout g h key p old.registry new.registry old.shelf new.shelf)
    -- nothing is committed unless the loss is answered as done
    pub undone : h.honest old.shelf → DiskKept g new.registry → IfOk result
        (KeepsUndone g h key p old.registry new.registry old.shelf new.shelf)
    -- a refusal, F5 and F6 come before anything is written
    pub before : StaysUnlost g old new result
    -- F5 comes of an image that is lacking
    pub lacks : h.honest old.shelf → DiskKept g new.registry → (q : List ℕ)
        → IsErrOf result (Absent q)
        → LacksFirst g h key p old.registry new.registry old.shelf new.shelf q
    -- by the tables and the sizes alone
    pub tells : TellsWithout g h key old new result
    -- it keeps both media
    pub keep : Keep g h old.registry new.registry old.shelf new.shelf
