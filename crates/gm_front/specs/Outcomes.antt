-- Requests and outcomes, as the code holds them.
use Rattle.std.specs.Prelude.{◌≡◌, ◌≢◌, ◌⊎◌, ◌<◌, ℕ, Bool, true, false, List, [], Result, OnOk}
use Rattle.sqlite_trees.specs.declared.store.Store.{Ghosts}
use Rattle.sqlite.specs.Held.{Held}
use Rattle.gm_metadata.specs.Images.{Image}
use Rattle.gm_shelf.specs.declared.shelf.Shelf.{Ghosts as ShelfGhosts}
use Rattle.gm_commands.specs.declared.command.Command.{Command}
use Rattle.gm_state.specs.World.{World}
use Rattle.gm_registry.specs.Fitting.{HasRoom}
use Rattle.gm_registry.specs.Registry.{StoreFailed, seen}
use Rattle.gm_registry.specs.Replies.{AreWrittenUnder}
use Rattle.gm_bench.specs.Accepting.{one_call}
use Rattle.gm_bench.specs.Calls.{most_rows}
use Rattle.gm_bench.specs.declared.fault.BenchFault.{BenchFault}
use Rattle.gm_bench.specs.declared.fault.BenchFault.TheVariants.{Disk, Store, Unreadable}
use Rattle.gm_bench.specs.declared.phase.Progress.{Progress}
use Rattle.gm_bench.specs.declared.phase.Progress.TheVariants.{Failed, Ready}
use Rattle.gm_bench.specs.Phases.{TakesNext}
use Rattle.gm_bench.specs.Recovering.{IsAt, IsCarriedOut}
use Rattle.gm_bench.specs.Owed.{LeavesRun}
use Rattle.gm_bench.specs.Running.{IsRun, answer_of}
use Rattle.gm_bench.specs.Standing.{LeavesNext, Stands}
use Rattle.gm_bench.specs.declared.answer.Answer.{Answer}
use Rattle.gm_bench.specs.declared.answer.Answer.TheVariants.{Done, Repeated, Refused}
use Rattle.gm_rules.specs.AbstractCalls as run
use Rattle.gm_state.specs.declared.intents.Intent.{Intent}
use Rattle.gm_front.specs.declared.outcome.Outcome.{Outcome}
use Rattle.gm_front.specs.declared.outcome.Outcome.TheVariants as outcome
use Rattle.gm_lines.specs.Asked.{Asked, Nothing, Wrong, Call}
use Rattle.gm_front.specs.Told.{answer_line, fault_line, is_refusal, refusal_line}

-- what is told
abbrev pub text_of : Outcome → List ℕ
text_of outcome.Nothing = []
text_of (outcome.Wrong key) = refusal_line key.now 1
text_of (outcome.Answered key answer) = answer_line key.now (answer_of answer)
text_of (outcome.Failed key fault) = fault_line key.now fault

-- what was asked, by the kind of what came of it
abbrev pub IsAskedBy : Asked → Outcome → Type 0
IsAskedBy asks outcome.Nothing = asks ≡ Nothing
IsAskedBy asks (outcome.Wrong key) = asks ≡ Wrong key.now
IsAskedBy asks (outcome.Answered key answer) = (command : Command) × (asks ≡ Call key.now command)
IsAskedBy asks (outcome.Failed key fault) = (command : Command) × (asks ≡ Call key.now command)

-- it is a refusal
abbrev pub is_refused : Outcome → Bool
is_refused outcome.Nothing = false
is_refused (outcome.Wrong key) = true
is_refused (outcome.Answered key answer) = is_refusal (answer_of answer)
is_refused (outcome.Failed key fault) = false

-- what is still to be settled after an answer: the command that was done, or what it was before
abbrev pub IsWaiting : World → World → World → Answer → Type 0
IsWaiting v u before (Done n reply) = before ≡ u
IsWaiting v u before (Repeated n reply) = before ≡ v
IsWaiting v u before (Refused why) = before ≡ v

module _ {S H : Type 0} (g : Ghosts S) (j : ShelfGhosts H) where
  -- A command that failed: what it may have left, that a failure of the disk was counted, that the
  -- store failed if it is told, and that what this program wrote was read.
  pub record FailsAt (r s : Held S) (h k : H) (away : Image) (u : World) (key : List ℕ)
      (command : Command) (fault : BenchFault) : Type 0 where
    pub left : LeavesRun g j r s h k away u u (one_call key command)
    pub disk : fault ≡ Disk → (j.view h).faults < (j.view k).faults
    pub store : fault ≡ Store → HasRoom most_rows (seen g r) → StoreFailed g r s
    pub readable : fault ≡ Unreadable → (at : IsAt g j r h away [] [] u u)
        → AreWrittenUnder key at.tables → ⊥

  -- what a request comes to at rest in u, from the registry r and the shelf h to s and k
  abbrev pub ComesTo : Held S → Held S → H → H → Image → World → Asked → Outcome → Type 0
  ComesTo r s h k away u asks outcome.Nothing = (asks ≡ Nothing) × (s ≡ r) × (k ≡ h)
  ComesTo r s h k away u asks (outcome.Wrong key) = (asks ≡ Wrong key.now) × (s ≡ r) × (k ≡ h)
  ComesTo r s h k away u asks (outcome.Answered key answer) =
      (command : Command) × (asks ≡ Call key.now command)
      × IsRun g j s k away u key.now command answer
  ComesTo r s h k away u asks (outcome.Failed key fault) =
      (command : Command) × (asks ≡ Call key.now command)
      × FailsAt r s h k away u key.now command fault

  -- A command that was answered by a bench that stood for u, and v was before: the bench, which is
  -- now so far, stands for the world that the answer reaches, and either nothing is still to be
  -- settled or that.
  pub record IsAnsweredNext (p : Progress) (s : Held S) (k : H) (away : Image) (v u : World)
      (key : List ℕ) (command : Command) (answer : Answer) : Type 0 where
    pub world : World
    pub before : World
    pub calls : run.Calls u (record { key = key; command = command }) world (answer_of answer)
    pub waits : (before ≡ world) ⊎ IsWaiting v u before answer
    pub stands : Stands g j p s k away before world

  -- A command that failed at a bench that stood for u, and v was before.
  pub record FailsNext (r s : Held S) (h k : H) (away : Image) (v u : World) (key : List ℕ)
      (command : Command) (fault : BenchFault) : Type 0 where
    pub left : LeavesNext g j r s h k away v u (one_call key command)
    pub disk : fault ≡ Disk → (j.view h).faults < (j.view k).faults
    pub store : fault ≡ Store → HasRoom most_rows (seen g r) → StoreFailed g r s
    pub readable : fault ≡ Unreadable → (ts : List Intent) (bytes : List (List ℕ))
        → (at : IsCarriedOut g j r h away ts bytes v u) → AreWrittenUnder key at.tables → ⊥

  -- what a request comes to if a bench stands for u and v was before, from the registry r and the
  -- shelf h to s and k, after which the bench is so far
  abbrev pub NextComesTo : Progress → Held S → Held S → H → H → Image → World → World → Asked
      → Outcome → Type 0
  NextComesTo p r s h k away v u asks outcome.Nothing =
      (asks ≡ Nothing) × Stands g j p s k away v u
  NextComesTo p r s h k away v u asks (outcome.Wrong key) =
      (asks ≡ Wrong key.now) × Stands g j p s k away v u
  NextComesTo p r s h k away v u asks (outcome.Answered key answer) =
      (command : Command) × (asks ≡ Call key.now command)
      × IsAnsweredNext p s k away v u key.now command answer
  NextComesTo p r s h k away v u asks (outcome.Failed key fault) =
      (command : Command) × (asks ≡ Call key.now command)
      × FailsNext r s h k away v u key.now command fault

-- How far a bench is after a command: if that was answered, the bench hasn't failed, takes the
-- next one, and unless a command follows has nothing to settle.
pub record IsFarOn {T : Type 0} (p q : Progress) (follows : Bool) (result : Result T BenchFault)
    : Type 0 where
  pub phase : OnOk result (TakesNext q)
  pub goes_on : OnOk result ((p ≢ Failed) × (q ≢ Failed))
  pub rests : follows ≡ false → OnOk result (q ≡ Ready)

-- how far a bench is after a request: one that answered a command hasn't failed, takes the next,
-- and unless a command follows has nothing to settle
abbrev pub IsFarAfter : Progress → Progress → Bool → Outcome → Type 0
IsFarAfter p q follows outcome.Nothing = q ≡ p
IsFarAfter p q follows (outcome.Wrong key) = q ≡ p
IsFarAfter p q follows (outcome.Answered key answer) =
    (p ≢ Failed) × (q ≢ Failed) × TakesNext q × (follows ≡ false → q ≡ Ready)
IsFarAfter p q follows (outcome.Failed key fault) = q ≡ Failed

-- a bench that failed stays so, any other goes on
abbrev pub progress_after : Progress → Outcome → Progress
progress_after before outcome.Nothing = before
progress_after before (outcome.Wrong key) = before
progress_after before (outcome.Answered key answer) = before
progress_after before (outcome.Failed key fault) = Failed
