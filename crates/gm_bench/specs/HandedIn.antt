-- What a call owes that hands in a command: one that accepts it, one that carries it out too, and
-- one that settles it as well; and one that only carries out what was accepted, or settles it. What
-- is said of files goes by the registry's rows and the shelf's sizes alone.
use Rattle.std.specs.Prelude.{◌≡◌, ◌≢◌, ◌⊎◌, ◌<◌, ◌≤◌, ℕ, List, [], ◌∷◌, length, Option, Some, None, Result, Ok, Err, IfOk, OnOk, OnErr}
use Rattle.sqlite_trees.specs.declared.store.Store.{Ghosts as StoreGhosts}
use Rattle.gm_metadata.specs.Images.{Image}
use Rattle.gm_shelf.specs.declared.shelf.Shelf.{Ghosts as ShelfGhosts}
use Rattle.gm_commands.specs.declared.command.Command.{Command}
use Rattle.gm_state.specs.World.{World}
use Rattle.gm_rules.specs.AbstractCalls.{Call}
use Rattle.gm_registry.specs.Registry.{DiskKept, Refuses}
use Rattle.gm_bench.specs.declared.answer.Accepted.{Accepted}
use Rattle.gm_bench.specs.declared.answer.Answer.{Answer}
use Rattle.gm_bench.specs.declared.answer.SeriesAnswer.{SeriesAnswer}
use Rattle.gm_bench.specs.declared.answer.Work.{Work}
use Rattle.gm_bench.specs.declared.bench.Bench.{Bench}
use Rattle.gm_bench.specs.declared.fault.BenchFault.{BenchFault}
use Rattle.gm_bench.specs.declared.phase.Phase.TheVariants as far
use Rattle.gm_bench.specs.declared.phase.Progress.TheVariants.{Applied, Failed, Pending, Ready}
use Rattle.gm_bench.specs.Benches.{media_of, progress_of, registry_of, shelf_of}
use Rattle.gm_bench.specs.Accepting.{one_call}
use Rattle.gm_bench.specs.Series.{AcceptBegins, AreBegun}
use Rattle.gm_bench.specs.Calls.{Accepts, CarriesOut, ClosesOnFault, HandsInByKeys, HandsInByRows, RunsOnce, RunsSeries, Settles, TellsOfKeys, TellsOfRows, TellsStoreOf, TellsUnreadable}
use Rattle.gm_bench.specs.Owed.{AcceptAnswers, AcceptLeaves, ApplyDoes, ApplyLeaves, LeavesRun, RunAnswers, RunLeaves, SettleDoes, SettleLeaves}
use Rattle.gm_bench.specs.Phases.{IsCountOf, IsUndone, answer_of, series_answer_of, phase_after, phase_carried, phase_of, progress_after, waiting_of}
use Rattle.gm_bench.specs.Recovering.{IsAt, LeavesOnly}
use Rattle.gm_bench.specs.Standing.{AreHandedIn, IsHandedIn, Stands}

-- an answer that there is
abbrev pub some_answer : Result SeriesAnswer BenchFault → Result (Option SeriesAnswer) BenchFault
some_answer (Ok a) = Ok (Some a)
some_answer (Err e) = Err e

-- calls are handed in to a bench that stands for some world, and come to this
abbrev pub HandsInCalls : {S H : Type 0} → StoreGhosts S → ShelfGhosts H → Bench S H → Bench S H
    → List Call → SeriesAnswer → Type 0
HandsInCalls s h old new calls a = (away : Image) (v u : World)
    → Stands s h (progress_of old) (registry_of old) (shelf_of old) away v u
    → IsCountOf calls a × AreHandedIn s h (progress_of new)
    (registry_of old) (registry_of new) (shelf_of old) (shelf_of new) away v u calls a.answer

-- they are those of the command under the first of these keys
abbrev pub CallsBegin : {S H : Type 0} → StoreGhosts S → ShelfGhosts H → Bench S H → Command
    → List (List ℕ) → List Call → Type 0
CallsBegin s h old c keys calls = (away : Image) (v u : World)
    → Stands s h (progress_of old) (registry_of old) (shelf_of old) away v u
    → AreBegun c keys calls

-- a stop within them leaves this
abbrev pub LeavesCalls : {S H : Type 0} → StoreGhosts S → ShelfGhosts H → Bench S H → Bench S H
    → List Call → Type 0
LeavesCalls s h old new calls = (away : Image) (v u : World)
    → Stands s h (progress_of old) (registry_of old) (shelf_of old) away v u
    → LeavesRun s h
    (registry_of old) (registry_of new) (shelf_of old) (shelf_of new) away v u calls

module _ {S H : Type 0} (s : StoreGhosts S) (h : ShelfGhosts H) (old new : Bench S H)
    (result : Result SeriesAnswer BenchFault) (key : List ℕ) (more : List (List ℕ)) (c : Command)
  where
    -- a command is accepted under its key, and as many more of these keys as can be taken; all is
    -- then pending
    pub record AcceptsSeries : Type 0 where
      pub told : h.honest (shelf_of old) → DiskKept s (registry_of new) → (calls : List Call)
          × AcceptBegins s h (registry_of old) (shelf_of old) c (key ∷ more) calls
          × AcceptLeaves s h (waiting_of (progress_of old))
          (registry_of old) (registry_of new) (shelf_of old) (shelf_of new) calls
          × IfOk result (λ a. (it : Accepted) × (a ≡ series_answer_of it)
          × (progress_of new ≡ progress_after (progress_of old) it)
          × AcceptAnswers s h (waiting_of (progress_of old))
          (registry_of old) (registry_of new) (shelf_of old) (shelf_of new) calls it)
      pub not_failed : OnOk result (progress_of old ≢ Failed)
      pub phase : IfOk result (λ a. phase_of (progress_of new)
          ≡ phase_after (phase_of (progress_of old)) a.answer)
      pub rows : TellsOfKeys s h old new result key more c
      pub accepts : Accepts s h (media_of old) (media_of new) result (λ a. IsUndone a.answer)
      pub closes : ClosesOnFault old new result

    -- they are accepted and carried out, and are then still to be settled
    pub record HandsInSeries : Type 0 where
      pub told : h.honest (shelf_of old) → DiskKept s (registry_of new) → (calls : List Call)
          × CallsBegin s h old c (key ∷ more) calls
          × OnErr result (LeavesCalls s h old new calls)
          × IfOk result (HandsInCalls s h old new calls)
      pub not_failed : OnOk result (progress_of old ≢ Failed)
      pub phase : IfOk result (λ a. phase_of (progress_of new)
          ≡ phase_carried (phase_of (progress_of old)) a.answer)
      pub rows : HandsInByKeys s h old new result key more c
      pub runs : RunsSeries s h old new result
      pub closes : ClosesOnFault old new result

-- A series of a command under these keys: if there are some, and no more than 64, it is handed in
-- under the first, and under as many more as can be taken; else nothing is done.
pub record HandsInAdvances {S H : Type 0} (s : StoreGhosts S) (h : ShelfGhosts H)
    (old new : Bench S H) (result : Result (Option SeriesAnswer) BenchFault)
    (keys : List (List ℕ)) (c : Command) : Type 0 where
  pub few : (key : List ℕ) (more : List (List ℕ)) → keys ≡ key ∷ more → length keys ≤ 64
      → (answered : Result SeriesAnswer BenchFault) × (result ≡ some_answer answered)
      × HandsInSeries s h old new answered key more c
  pub none : ((keys ≡ []) ⊎ (64 < length keys)) → (result ≡ Ok None) × (new ≡ old)

module _ {S H : Type 0} (s : StoreGhosts S) (h : ShelfGhosts H) (old new : Bench S H)
    (result : Result Answer BenchFault) (key : List ℕ) (c : Command) where
  -- it is accepted, and is then pending
  pub record AcceptsCommand : Type 0 where
    pub answers : h.honest (shelf_of old) → DiskKept s (registry_of new)
        → IfOk result (λ a. (it : Accepted) × (a ≡ answer_of it)
        × (progress_of new ≡ progress_after (progress_of old) it)
        × AcceptAnswers s h (waiting_of (progress_of old))
        (registry_of old) (registry_of new) (shelf_of old) (shelf_of new) (one_call key c) it)
    pub leaves : h.honest (shelf_of old) → DiskKept s (registry_of new)
        → AcceptLeaves s h (waiting_of (progress_of old))
        (registry_of old) (registry_of new) (shelf_of old) (shelf_of new) (one_call key c)
    pub not_failed : OnOk result (progress_of old ≢ Failed)
    pub phase : IfOk result (λ a. phase_of (progress_of new)
        ≡ phase_after (phase_of (progress_of old)) a)
    pub rows : TellsOfRows s h old new result key c
    pub accepts : Accepts s h (media_of old) (media_of new) result IsUndone
    pub closes : ClosesOnFault old new result

  -- it is accepted and carried out, and is then still to be settled
  pub record HandsInCommand : Type 0 where
    pub answers : h.honest (shelf_of old) → DiskKept s (registry_of new)
        → IfOk result (λ a. (away : Image) (v u : World)
        → Stands s h (progress_of old) (registry_of old) (shelf_of old) away v u
        → IsHandedIn s h (progress_of new)
        (registry_of old) (registry_of new) (shelf_of old) (shelf_of new) away v u key c a)
    pub leaves : h.honest (shelf_of old) → DiskKept s (registry_of new)
        → OnErr result ((away : Image) (v u : World)
        → Stands s h (progress_of old) (registry_of old) (shelf_of old) away v u
        → LeavesRun s h
        (registry_of old) (registry_of new) (shelf_of old) (shelf_of new) away v u
        (one_call key c))
    pub not_failed : OnOk result (progress_of old ≢ Failed)
    pub phase : IfOk result (λ a. phase_of (progress_of new)
        ≡ phase_carried (phase_of (progress_of old)) a)
    pub rows : HandsInByRows s h old new result key c
    pub runs : RunsOnce s h old new result
    pub closes : ClosesOnFault old new result

  -- it is accepted, carried out and settled
  pub record RunsCommand : Type 0 where
    pub answers : h.honest (shelf_of old) → DiskKept s (registry_of new)
        → IfOk result (λ a. RunAnswers s h
        (registry_of old) (registry_of new) (shelf_of old) (shelf_of new) key c a)
    pub leaves : h.honest (shelf_of old) → DiskKept s (registry_of new)
        → RunLeaves s h
        (registry_of old) (registry_of new) (shelf_of old) (shelf_of new) key c
    pub ready : OnOk result ((progress_of old ≡ Ready) × (progress_of new ≡ Ready))
    pub readable : TellsUnreadable s h (media_of old) (media_of new) result key c
    pub store : TellsStoreOf s h (media_of old) (media_of new) result c
    pub runs : RunsOnce s h old new result
    pub closes : ClosesOnFault old new result

module _ {S H T : Type 0} (s : StoreGhosts S) (h : ShelfGhosts H) (old new : Bench S H)
    (result : Result T BenchFault) where
  -- what is pending is carried out, and is then still to be settled
  pub record CarriesOutWork : Type 0 where
    -- the shelf is then the world's
    pub does : h.honest (shelf_of old) → (work : Work) → progress_of old ≡ Pending work
        → OnOk result ((progress_of new ≡ Applied work)
        × ApplyDoes s h (registry_of old) (shelf_of old) (shelf_of new) work)
    -- a stop leaves what the work leads on from
    pub leaves : h.honest (shelf_of old) → (work : Work) → progress_of old ≡ Pending work
        → ApplyLeaves s h (registry_of old) (shelf_of old) (shelf_of new) work
    pub phase : OnOk result (phase_of (progress_of new) ≡ far.Applied)
    -- it writes the shelf alone
    pub carries : CarriesOut s h old new result
    pub closes : ClosesOnFault old new result

  -- what was carried out is settled
  pub record SettlesWork : Type 0 where
    -- the bench is then at rest
    pub does : h.honest (shelf_of old) → DiskKept s (registry_of new) → (work : Work)
        → progress_of old ≡ Applied work → OnOk result ((progress_of new ≡ Ready)
        × SettleDoes s h (registry_of old) (registry_of new) (shelf_of old) work)
    -- a stop leaves what the work leads on from, or what is at rest
    pub leaves : h.honest (shelf_of old) → DiskKept s (registry_of new) → (work : Work)
        → progress_of old ≡ Applied work
        → SettleLeaves s h (registry_of old) (registry_of new) (shelf_of old) work
    pub phase : OnOk result (progress_of new ≡ Ready)
    -- if it fails the tables stay
    pub refused : Refuses s (registry_of old) (registry_of new) result
    -- it writes the registry alone
    pub settles : Settles s old new result
    pub closes : ClosesOnFault old new result

  -- the last command is settled, if it is still to be settled
  pub record SettlesLast : Type 0 where
    -- the bench is then at rest in the world that it stood for
    pub does : h.honest (shelf_of old) → DiskKept s (registry_of new)
        → OnOk result ((away : Image) (v u : World)
        → Stands s h (progress_of old) (registry_of old) (shelf_of old) away v u
        → IsAt s h (registry_of new) (shelf_of new) away [] [] u u)
    -- a stop leaves what led to that world
    pub leaves : h.honest (shelf_of old) → DiskKept s (registry_of new)
        → (away : Image) (v u : World)
        → Stands s h (progress_of old) (registry_of old) (shelf_of old) away v u
        → LeavesOnly s h (registry_of old) (registry_of new) (shelf_of old) (shelf_of new) away v u
    pub phase : OnOk result (progress_of new ≡ Ready)
    -- at rest it does nothing
    pub rests : progress_of old ≡ Ready → OnErr result ⊥ × (new ≡ old)
    -- it writes the registry alone
    pub settles : Settles s old new result
    pub closes : ClosesOnFault old new result
