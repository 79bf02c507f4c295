-- What a call owes, of both media, that hands in a command, and its one step that writes: the plan
-- is written in one transaction.
use Rattle.std.specs.Prelude.{◌≡◌, ℕ, List, ◌∷◌, Result, IfOk, IfErr, OnOk, IsErrOf}
use Rattle.sqlite_trees.specs.declared.store.Store.{Ghosts as StoreGhosts}
use Rattle.gm_metadata.specs.Images.{Image}
use Rattle.gm_shelf.specs.declared.shelf.Shelf.{Ghosts as ShelfGhosts}
use Rattle.gm_commands.specs.declared.command.Command.{Command}
use Rattle.gm_state.specs.declared.intents.Intent.{Intent}
use Rattle.gm_state.specs.Rows.{Tables}
use Rattle.gm_state.specs.World.{World}
use Rattle.gm_rules.specs.AbstractCalls.{Call}
use Rattle.gm_registry.specs.Fitting.{HasRoom}
use Rattle.gm_registry.specs.Registry.{DiskKept, HasTables, Refuses, StoreFailed, seen}
use Rattle.gm_bench.specs.declared.answer.Accepted.{Accepted}
use Rattle.gm_bench.specs.declared.fault.BenchFault.{BenchFault}
use Rattle.gm_bench.specs.declared.fault.BenchFault.TheVariants.{Store}
use Rattle.gm_bench.specs.declared.judgement.Judgement.{Judgement}
use Rattle.gm_bench.specs.declared.media.Media.{Media}
use Rattle.gm_bench.specs.declared.phase.Waiting.{Waiting}
use Rattle.gm_bench.specs.Accepting.{AreAnswered, HasNothingElse, LeavesSteps, WaitsFor}
use Rattle.gm_bench.specs.Calls.{Accepts, GoesOn, TellsByRows, WritesAlone, rows_for}
use Rattle.gm_bench.specs.Faults.{IsOfCall}
use Rattle.gm_bench.specs.Judgements.{CanBeAccepted, IsJudgedToFit}
use Rattle.gm_bench.specs.Owed.{AcceptAnswers, AcceptLeaves}
use Rattle.gm_bench.specs.Phases.{IsUndone, answer_of}
use Rattle.gm_bench.specs.Planning.{IsWorkAtHand}
use Rattle.gm_bench.specs.Recovering.{IsCarriedOut}
use Rattle.gm_bench.specs.Series.{AcceptBegins, AreJudged, IsUnplanned, calls_in, further_in}

module _ {S H : Type 0} (s : StoreGhosts S) (h : ShelfGhosts H) (old new : Media S H)
    (waiting : Waiting) (result : Result Accepted BenchFault) where
  -- what a judgement plans is written, under a key; of another one nothing is
  pub record CommitsJudgement (jd : Judgement) (key : List ℕ) : Type 0 where
    -- a stop leaves what led from v to u, or the steps of all calls
    pub leaves : h.honest old.shelf → DiskKept s new.registry → (away : Image) (ts : List Intent)
        (bytes : List (List ℕ)) (c : Command) (v u : World)
        → IsCarriedOut s h old.registry old.shelf away ts bytes v u → WaitsFor waiting ts bytes
        → AreJudged u key c jd → LeavesSteps s h old.registry new.registry old.shelf old.shelf
        away v u (calls_in key c jd)
    -- the answer is the abstract bench's
    pub done : h.honest old.shelf → DiskKept s new.registry → IfOk result
        (λ a. (away : Image) (ts : List Intent) (bytes : List (List ℕ)) (c : Command) (v u : World)
        → IsCarriedOut s h old.registry old.shelf away ts bytes v u → WaitsFor waiting ts bytes
        → AreJudged u key c jd
        → AreAnswered s h new.registry old.shelf away ts bytes v u (calls_in key c jd) a)
    -- if it fails the tables stay
    pub refused : Refuses s old.registry new.registry result
    -- of what can be accepted, F2 comes only if the store failed
    pub store : DiskKept s new.registry → IsErrOf result Store → (t : Tables)
        → HasTables s old.registry t → CanBeAccepted (h.size old.shelf) key t jd
        → IsJudgedToFit t jd → HasNothingElse waiting t
        → HasRoom (rows_for (further_in jd)) (seen s old.registry)
        → StoreFailed s old.registry new.registry
    -- else the registry goes on
    pub goes_on : DiskKept s new.registry → OnOk result ((t : Tables)
        → HasTables s old.registry t → GoesOn s old.registry new.registry)
    -- what is then to be carried out is at hand
    pub at_hand : IfOk result (λ a. (t : Tables) → CanBeAccepted (h.size old.shelf) key t jd
        → IsWorkAtHand (h.size old.shelf) a)
    -- it writes the registry alone, and nothing if nothing is done
    pub alone : WritesAlone s old new result
    pub undone : IfOk result (λ a. IsUndone (answer_of a) → (new ≡ old) × IsUnplanned jd)

  -- a command is judged under its key, and committed if it can be, under as many more of these keys
  -- as can be
  pub record TakesCommand (key : List ℕ) (more : List (List ℕ)) (c : Command) : Type 0 where
    -- a stop leaves what led from v to u, or the steps of all calls; the answer is the abstract
    -- bench's
    pub told : h.honest old.shelf → DiskKept s new.registry → (calls : List Call)
        × AcceptBegins s h old.registry old.shelf c (key ∷ more) calls
        × AcceptLeaves s h waiting old.registry new.registry old.shelf new.shelf calls
        × IfOk result
        (AcceptAnswers s h waiting old.registry new.registry old.shelf new.shelf calls)
    -- its faults are those of a call
    pub fault : IfErr result IsOfCall
    -- by the rows and the sizes alone
    pub rows : TellsByRows s h old new result key more c (HasNothingElse waiting)
    -- it reads the shelf, and writes nothing if nothing is done
    pub accepts : Accepts s h old new result (λ a. IsUndone (answer_of a))
