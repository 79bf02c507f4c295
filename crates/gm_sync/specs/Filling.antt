-- What filling leaves of a bench, and what it is told to have come to.
use Rattle.std.specs.Prelude.{◌≡◌, ◌<◌, ◌≤◌, ◌⊎◌, ◌+◌, ℕ, Bool, true, false, List, [], ◌∷◌, None, Result, OnOk, length}
use Rattle.sqlite_trees.specs.declared.store.Store.{Ghosts as StoreGhosts}
use Rattle.sqlite.specs.Held.{Held}
use Rattle.gm_metadata.specs.Images.{Image, Sizes}
use Rattle.gm_lists.specs.Ordered.{Has, Ascends}
use Rattle.gm_shelf.specs.declared.shelf.Shelf.{Ghosts as ShelfGhosts}
use Rattle.gm_commands.specs.declared.command.Command.{Command}
use Rattle.gm_commands.specs.declared.command.Command.TheVariants.{Advance}
use Rattle.gm_refusals.specs.declared.refusals.CallRefusal.{CallRefusal}
use Rattle.gm_state.specs.declared.intents.Intent.{Intent}
use Rattle.gm_state.specs.declared.records.Mirror.{Mirror}
use Rattle.gm_state.specs.declared.records.Component.{Component}
use Rattle.gm_state.specs.Intents.{IsOf}
use Rattle.gm_state.specs.Records.{Records}
use Rattle.gm_state.specs.Rows.{Tables}
use Rattle.gm_state.specs.World.{World}
use Rattle.gm_rules.specs.AbstractCalls.{Call, Run}
use Rattle.gm_rules.specs.AbstractCalls as run
use Rattle.gm_rows.specs.ReadableTables.{AreRecordsOf}
use Rattle.gm_registry.specs.Fitting.{HasRoom}
use Rattle.gm_registry.specs.Registry.{DiskKept, HasTables, Reads, StoreFailed, seen}
use Rattle.gm_looks.specs.Audits.{IsAsRegistered}
use Rattle.gm_bench.specs.Benches.{progress_of, registry_of, shelf_of}
use Rattle.gm_bench.specs.Calls.{Keep, rows_for}
use Rattle.gm_bench.specs.Owed.{LookDoes}
use Rattle.gm_bench.specs.Phases.{IsCountBy}
use Rattle.gm_bench.specs.Recovering.{IsAt, IsCarriedOut}
use Rattle.gm_bench.specs.Standing.{Stands}
use Rattle.gm_bench.specs.declared.answer.Answer.{Answer}
use Rattle.gm_bench.specs.declared.answer.SeriesAnswer.{SeriesAnswer}
use Rattle.gm_bench.specs.declared.bench.Bench.{Bench}
use Rattle.gm_bench.specs.declared.fault.BenchFault.{BenchFault}
use Rattle.gm_bench.specs.declared.fault.BenchFault.TheVariants.{Absent, Closed, Disk, Memory, Store}
use Rattle.gm_bench.specs.declared.phase.Progress.TheVariants.{Failed}
use Rattle.gm_sync.specs.declared.due.Due.{Due}
use Rattle.gm_sync.specs.declared.passed_over.PassedOver.{PassedOver}
use Rattle.gm_sync.specs.declared.scope.Scope.{Scope}
use Rattle.gm_sync.specs.declared.synced.Synced.{Synced}
use Rattle.gm_sync.specs.Ends.{EndsAs}
use Rattle.gm_sync.specs.Series.{AllFit, AreKeyedAfter, EachFits, InSeries, IsAnswered, IsLast, calls_in, up_to_last}
use Rattle.gm_sync.specs.Scopes.{PassesNone, but, is_beside, is_due, is_passed_over, next_of}

-- the command fills this component
abbrev pub IsAdvanceOf : Component → Command → Type 0
IsAdvanceOf k c = c ≡ Advance k.mirror k.provider

-- the command fills a component that is due
abbrev pub IsAdvanceIn : Due → Command → Type 0
IsAdvanceIn due c = (mirror : List ℕ) × (provider : List ℕ) × (c ≡ Advance mirror provider)
    × (is_due due mirror provider ≡ true)

-- the command fills the component on this provider, which is due
abbrev pub IsAdvanceOn : Due → List ℕ → Command → Type 0
IsAdvanceOn due provider c = (mirror : List ℕ) × (c ≡ Advance mirror provider)
    × (is_due due mirror provider ≡ true)

-- In this world a call that fits is refused so.
pub record IsRefusedIn (Fit : Command → Type 0) (w : World) (why : CallRefusal) : Type 0 where
  pub call : Call
  pub fit : Fit call.command
  pub calls : run.Calls w call w (run.Refused why)

module _ {S H : Type 0} (g : StoreGhosts S) (h : ShelfGhosts H) (Fit : Command → Type 0) where
  -- From rest in u the bench came to rest again, by series of commands that fit and no others.
  pub record IsFilledFrom (b : Bench S H) (away : Image) (u : World) : Type 0 where
    pub handed : List (List Call)
    pub world : World
    pub run : InSeries u handed world
    pub fill : EachFits Fit handed
    pub at : IsAt g h (registry_of b) (shelf_of b) away [] [] world world

  -- A call that fills: both media are kept, and of an honest shelf and a disk that keeps what is
  -- written it does nothing but run commands that fit, from rest to rest.
  pub record Fills (old new : Bench S H) : Type 0 where
    pub stays : progress_of new ≡ progress_of old
    pub keep : Keep g h (registry_of old) (registry_of new) (shelf_of old) (shelf_of new)
    pub does : h.honest (shelf_of old) → DiskKept g (registry_of new) → (away : Image) (u : World)
        → IsAt g h (registry_of old) (shelf_of old) away [] [] u u
        → IsFilledFrom new away u

  -- If the bench stood for u, and v was before, it stands for another world, by series of commands
  -- that fit and no others.
  pub record IsFilledOn (b : Bench S H) (away : Image) (v u : World) : Type 0 where
    pub handed : List (List Call)
    pub world : World
    pub before : World
    pub run : InSeries u handed world
    pub fill : EachFits Fit handed
    pub last : IsLast v u handed before world
    pub stands : Stands g h (progress_of b) (registry_of b) (shelf_of b) away before world

  -- A call that fills, of which the last series may still be to be settled.
  pub record FillsOn (old new : Bench S H) : Type 0 where
    pub failed : progress_of old ≡ Failed → progress_of new ≡ Failed
    pub goes_on : progress_of new ≡ Failed → progress_of old ≡ Failed
    pub keep : Keep g h (registry_of old) (registry_of new) (shelf_of old) (shelf_of new)
    pub does : h.honest (shelf_of old) → DiskKept g (registry_of new) → (away : Image)
        (v u : World)
        → Stands g h (progress_of old) (registry_of old) (shelf_of old) away v u
        → IsFilledOn new away v u

  -- A series of calls that fit, under the keys after a number, was answered so by a bench that
  -- stood for u, and v was before: the bench stands for the world that the answer reaches.
  pub record IsAnsweredOn (number : ℕ) (b : Bench S H) (away : Image) (v u : World)
      (answer : Answer) (many : ℕ) : Type 0 where
    pub calls : List Call
    pub fit : AllFit Fit calls
    pub keys : AreKeyedAfter number calls
    pub world : World
    pub before : World
    pub count : IsCountBy calls answer many
    pub run : IsAnswered u calls world answer
    pub last : IsLast v u (calls ∷ []) before world
    pub stands : Stands g h (progress_of b) (registry_of b) (shelf_of b) away before world

  -- what is answered is what the abstract bench answers to such a series
  abbrev pub AnswersOn : ℕ → Bench S H → Bench S H → SeriesAnswer → Type 0
  AnswersOn number old new answered =
      h.honest (shelf_of old) → DiskKept g (registry_of new) → (away : Image) (v u : World)
      → Stands g h (progress_of old) (registry_of old) (shelf_of old) away v u
      → IsAnsweredOn number new away v u answered.answer answered.count

  -- the bench was filled, the last series perhaps still to be settled, and this holds of the series
  -- and the world that they reach
  abbrev pub FillsSoOn : (List (List Call) → World → Type 0) → Bench S H → Bench S H → Type 0
  FillsSoOn So old new =
      h.honest (shelf_of old) → DiskKept g (registry_of new) → (away : Image) (v u : World)
      → Stands g h (progress_of old) (registry_of old) (shelf_of old) away v u
      → (filled : IsFilledOn new away v u) × So filled.handed filled.world

  -- the same from rest to rest
  abbrev pub FillsSo : (List (List Call) → World → Type 0) → Bench S H → Bench S H → Type 0
  FillsSo So old new =
      h.honest (shelf_of old) → DiskKept g (registry_of new) → (away : Image) (u : World)
      → IsAt g h (registry_of old) (shelf_of old) away [] [] u u
      → (filled : IsFilledFrom new away u) × So filled.handed filled.world

  -- it was filled by at least so many calls
  abbrev pub FillsByOn : Bench S H → Bench S H → ℕ → Type 0
  FillsByOn old new count = FillsSoOn (λ handed w. count ≤ length (calls_in handed)) old new

  abbrev pub FillsBy : Bench S H → Bench S H → ℕ → Type 0
  FillsBy old new count = FillsSo (λ handed w. count ≤ length (calls_in handed)) old new

  -- the calls have the keys after a number, and another number is that of the last
  abbrev pub GoesOnTo : Bench S H → Bench S H → ℕ → ℕ → Type 0
  GoesOnTo old new from to = FillsSoOn (λ handed w. AreKeyedAfter from (calls_in handed)
      × (up_to_last to ≡ up_to_last (from + length (calls_in handed)))) old new

  -- it was filled until a call was refused so that fits, or that fits this
  abbrev pub RefusesOn : Bench S H → Bench S H → CallRefusal → Type 0
  RefusesOn old new why = FillsSoOn (λ handed w. IsRefusedIn Fit w why) old new

  abbrev pub Refuses : (Command → Type 0) → Bench S H → Bench S H → CallRefusal → Type 0
  Refuses Next old new why = FillsSo (λ handed w. IsRefusedIn Next w why) old new

module _ {S H : Type 0} (g : StoreGhosts S) (h : ShelfGhosts H) where
  -- The store failed at the last series, if it could number the rows of one when that was made.
  -- What was still to be settled then was carried out.
  pub record StoreFailedLast (new : Bench S H) (away : Image) : Type 0 where
    pub before : Bench S H
    pub earlier : World
    pub world : World
    pub intents : List Intent
    pub bytes : List (List ℕ)
    pub at : IsCarriedOut g h (registry_of before) (shelf_of before) away intents bytes
        earlier world
    pub failed : HasRoom (rows_for 63) (seen g (registry_of before))
        → StoreFailed g (registry_of before) (registry_of new)

  -- A fault of several calls is told as the bench's own calls tell it: `Closed` only of a bench
  -- that was so, no image is told to be absent, and at rest `Disk` comes only if a failure was
  -- counted, and `Store` only if the store failed.
  pub record FailsAsCalls (old new : Bench S H) (fault : BenchFault) : Type 0 where
    pub reopen : fault ≡ Closed → progress_of old ≡ Failed
    pub absent : (p : List ℕ) → fault ≡ Absent p → ⊥
    pub disk : h.honest (shelf_of old) → DiskKept g (registry_of new) → (away : Image)
        (u : World) → IsAt g h (registry_of old) (shelf_of old) away [] [] u u
        → fault ≡ Disk → (h.view (shelf_of old)).faults < (h.view (shelf_of new)).faults
    pub store : h.honest (shelf_of old) → DiskKept g (registry_of new) → (away : Image)
        (u : World) → IsAt g h (registry_of old) (shelf_of old) away [] [] u u
        → fault ≡ Store → StoreFailedLast new away

  -- The same of a bench that stands for a world, whatever is still to be settled.
  pub record FailsOn (old new : Bench S H) (fault : BenchFault) : Type 0 where
    pub reopen : fault ≡ Closed → progress_of old ≡ Failed
    pub absent : (p : List ℕ) → fault ≡ Absent p → ⊥
    pub disk : h.honest (shelf_of old) → DiskKept g (registry_of new) → (away : Image)
        (v u : World)
        → Stands g h (progress_of old) (registry_of old) (shelf_of old) away v u
        → fault ≡ Disk → (h.view (shelf_of old)).faults < (h.view (shelf_of new)).faults
    pub store : h.honest (shelf_of old) → DiskKept g (registry_of new) → (away : Image)
        (v u : World)
        → Stands g h (progress_of old) (registry_of old) (shelf_of old) away v u
        → fault ≡ Store → StoreFailedLast new away

-- but for want of memory a fault closes the bench
abbrev pub IsClosedBut : {S H : Type 0} → Bench S H → BenchFault → Type 0
IsClosedBut b fault = (fault ≡ Memory) ⊎ (progress_of b ≡ Failed)

-- The records are those that the registry held when it was looked at last; if the bench was at
-- rest before, it held some.
pub record AreLastSeen {S H : Type 0} (g : StoreGhosts S) (h : ShelfGhosts H) (old new : Bench S H)
    (state : Records) : Type 0 where
  pub seen : Held S
  pub looked : Reads g seen (registry_of new)
  pub has : h.honest (shelf_of old) → DiskKept g (registry_of new) → (away : Image) (u : World)
      → IsAt g h (registry_of old) (shelf_of old) away [] [] u u
      → (t : Tables) × HasTables g seen t
  pub are : DiskKept g (registry_of new) → (t : Tables) (r : Records)
      → HasTables g seen t → AreRecordsOf t r → state ≡ r

-- from rest the bench was filled, as far as is due, to rest in a world of these records
abbrev pub IsFilledTo : {S H : Type 0} → StoreGhosts S → ShelfGhosts H → Bench S H → Bench S H
    → Due → Records → Type 0
IsFilledTo g h old new due state =
    h.honest (shelf_of old) → DiskKept g (registry_of new) → (away : Image) (u : World)
    → IsAt g h (registry_of old) (shelf_of old) away [] [] u u
    → (filled : IsFilledFrom g h (IsAdvanceIn due) new away u) × (state ≡ filled.world.state)

-- Nothing that is due is left to be filled, by the records that the registry held at last. From
-- rest they are those of the world that filling came to.
pub record IsWhole {S H : Type 0} (g : StoreGhosts S) (h : ShelfGhosts H) (old new : Bench S H)
    (due : Due) (state : Records) : Type 0 where
  pub last : AreLastSeen g h old new state
  pub none : next_of due state ≡ None
  pub world : IsFilledTo g h old new due state

-- if nothing that is due is SYNCHRONIZING, by what the registry holds, nothing is written
abbrev pub IsStill : {S H : Type 0} → StoreGhosts S → ShelfGhosts H → Bench S H → Bench S H
    → Due → Type 0
IsStill g h old new due =
    h.honest (shelf_of old) → DiskKept g (registry_of new) → (t : Tables) (s : Records)
    → HasTables g (registry_of old) t → AreRecordsOf t s → next_of due s ≡ None
    → LookDoes g h (registry_of old) (registry_of new) (shelf_of old) (shelf_of new)

-- A call that only looks keeps both media; if it succeeds, they hold what they held, and the bench
-- is as far as it was.
pub record KeepsMedia {S H T : Type 0} (g : StoreGhosts S) (h : ShelfGhosts H) (old new : Bench S H)
    (result : Result T BenchFault) : Type 0 where
  pub keep : Keep g h (registry_of old) (registry_of new) (shelf_of old) (shelf_of new)
  pub does : h.honest (shelf_of old) → DiskKept g (registry_of new)
      → OnOk result (LookDoes g h (registry_of old) (registry_of new)
      (shelf_of old) (shelf_of new))
  pub stays : OnOk result (progress_of new ≡ progress_of old)

-- a component is refused: what is due was filled until an advance of it was refused so
abbrev pub RefusesOneOf : {S H : Type 0} → StoreGhosts S → ShelfGhosts H → Due → Bench S H
    → Bench S H → List ℕ → CallRefusal → Type 0
RefusesOneOf g h due old new provider why =
    Refuses g h (IsAdvanceIn due) (IsAdvanceOn due provider) old new why

-- A sync fills what is meant, but for what it passes over, and nothing else: if nothing of that is
-- to be filled, it writes nothing, whatever the images hold. If it ends whole, none is left, and if
-- it tells a refusal, that is what the bench answered.
pub record Syncs {S H : Type 0} (g : StoreGhosts S) (h : ShelfGhosts H) (old new : Bench S H)
    (scope : Scope) (synced : Synced) : Type 0 where
  pub fills : Fills g h (IsAdvanceIn (but scope synced.passed_over)) old new
  pub still : IsStill g h old new (but scope synced.passed_over)
  pub ends : EndsAs (IsWhole g h old new (but scope synced.passed_over))
      (RefusesOneOf g h (but scope synced.passed_over) old new)
      (FillsBy g h (IsAdvanceIn (but scope synced.passed_over)) old new) synced.ending

-- each component of the mirrors that are meant, and aren't passed over, is shown as it is
-- registered
abbrev pub AreAsRegistered : Due → Records → Sizes → Image → Type 0
AreAsRegistered due s size seen = (m : Mirror) (k : Component) → IsOf s m k
    → is_beside due.scope k ≡ true → is_passed_over due.passed_over m.name ≡ false
    → IsAsRegistered size seen m k

-- the names are those of just the components of the mirrors that are meant that aren't shown as
-- they are registered, in byte order
pub record IsAmiss (scope : Scope) (s : Records) (size : Sizes) (seen : Image)
    (names : List (List ℕ)) : Type 0 where
  pub amiss : (p : List ℕ) → Has names p → (m : Mirror) × (k : Component) × IsOf s m k
      × (k.provider ≡ p) × (is_beside scope k ≡ true) × (IsAsRegistered size seen m k → ⊥)
  pub others : (m : Mirror) (k : Component) → IsOf s m k → is_beside scope k ≡ true
      → IsAsRegistered size seen m k ⊎ Has names k.provider
  pub ascend : Ascends (λ p. p) names

-- the names are those of just the mirrors of which one of the images is, in byte order
pub record AreMirrorsOf (s : Records) (images names : List (List ℕ)) : Type 0 where
  pub named : (n : List ℕ) → Has names n → (m : Mirror) × (k : Component) × IsOf s m k
      × (m.name ≡ n) × Has images k.provider
  pub others : (m : Mirror) (k : Component) → IsOf s m k → Has images k.provider
      → Has names m.name
  pub ascend : Ascends (λ n. n) names

-- What is passed over is told by just the images that are amiss, and it is just their mirrors: the
-- images of each other mirror that is meant are as they are registered.
pub record IsPassedOver (scope : Scope) (s : Records) (size : Sizes) (seen : Image)
    (passed : PassedOver) : Type 0 where
  pub images : IsAmiss scope s size seen passed.images.items
  pub mirrors : AreMirrorsOf s passed.images.items passed.mirrors.items
  pub others : AreAsRegistered (but scope passed) s size seen

-- the same by what the registry and the shelf of a bench hold
abbrev pub IsPassedOverAt : {S H : Type 0} → StoreGhosts S → ShelfGhosts H → Bench S H → Scope
    → PassedOver → Type 0
IsPassedOverAt g h bench scope passed = (t : Tables) (s : Records)
    → HasTables g (registry_of bench) t → AreRecordsOf t s
    → IsPassedOver scope s (h.size (shelf_of bench)) (h.view (shelf_of bench)).seen passed

-- with an audit just the mirrors are passed over of which an image is amiss, without one none
abbrev pub PassesByAudit : {S H : Type 0} → StoreGhosts S → ShelfGhosts H → Bench S H → Bench S H
    → Scope → Bool → PassedOver → Type 0
PassesByAudit g h old new scope true passed =
    h.honest (shelf_of old) → DiskKept g (registry_of new) → IsPassedOverAt g h old scope passed
PassesByAudit g h old new scope false passed = PassesNone passed
