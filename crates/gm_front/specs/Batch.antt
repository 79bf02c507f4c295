-- What a batch answers, and where it leaves the bench.
use Rattle.std.specs.Prelude.{◌≡◌, ◌≢◌, ◌⊎◌, ◌<◌, ◌||◌, ℕ, Bool, true, false, List, [], ◌∷◌, ◌++◌, Option, Some, None, Result, Ok, Err, IfOk, IfSome, OnSome}
use Rattle.std.specs.Io.KnownBytes.{Appends}
use Rattle.sqlite_trees.specs.declared.store.Store.{Ghosts}
use Rattle.sqlite.specs.Held.{Held}
use Rattle.gm_metadata.specs.Images.{Image}
use Rattle.gm_shelf.specs.declared.shelf.Shelf.{Ghosts as ShelfGhosts}
use Rattle.gm_commands.specs.declared.command.Command.{Command}
use Rattle.gm_state.specs.declared.intents.Intent.{Intent}
use Rattle.gm_state.specs.declared.intents.Reply.{Reply}
use Rattle.gm_state.specs.World.{World}
use Rattle.gm_rules.specs.Step.{Step}
use Rattle.gm_rules.specs.AbstractCalls as run
use Rattle.gm_registry.specs.Fitting.{HasRoom}
use Rattle.gm_registry.specs.Registry.{DiskKept, StoreFailed, seen}
use Rattle.gm_registry.specs.Replies.{AreWrittenUnder}
use Rattle.gm_bench.specs.Accepting.{one_call}
use Rattle.gm_bench.specs.Benches.{progress_of, registry_of, shelf_of}
use Rattle.gm_bench.specs.Calls.{Keep, most_rows}
use Rattle.gm_bench.specs.Phases.{TakesCommands, TakesNext, phase_of}
use Rattle.gm_bench.specs.declared.bench.Bench.{Bench}
use Rattle.gm_bench.specs.declared.fault.BenchFault.{BenchFault}
use Rattle.gm_bench.specs.declared.fault.BenchFault.TheVariants.{Disk, Store, Unreadable}
use Rattle.gm_bench.specs.declared.phase.Phase.TheVariants as phase
use Rattle.gm_bench.specs.declared.phase.Progress.{Progress}
use Rattle.gm_bench.specs.declared.phase.Progress.TheVariants.{Failed}
use Rattle.gm_bench.specs.Recovering.{IsAt, IsCarriedOut, LeavesOnly}
use Rattle.gm_bench.specs.Standing.{LeavesNext, Stands}
use Rattle.gm_front.specs.declared.answer_lines.BatchEnd.{BatchEnd}
use Rattle.gm_front.specs.declared.answer_lines.BatchEnd.TheVariants.{Ended, Stopped}
use Rattle.gm_front.specs.declared.answer_lines.FrontFault.{FrontFault}
use Rattle.gm_front.specs.declared.answer_lines.FrontFault.TheVariants.{Memory, Read, Write}
use Rattle.gm_lines.specs.Input.{lines_of}
use Rattle.gm_lines.specs.Asked.{Asked, Nothing, Wrong, Call, asked}
use Rattle.gm_front.specs.Closing.{KeepsClosed, end_fault}
use Rattle.gm_front.specs.Told.{answer_line, fault_line, is_refusal, refusal_line}

-- One line takes u to w: what it is told, and whether it is refused.
abbrev pub Replies : World → Asked → World → List ℕ → Bool → Type 0
Replies u Nothing w text refused = (w ≡ u) × (text ≡ []) × (refused ≡ false)
Replies u (Wrong key) w text refused = (w ≡ u) × (text ≡ refusal_line key 1) × (refused ≡ true)
Replies u (Call key command) w text refused =
    (answer : run.Answer) × run.Calls u (record { key = key; command = command }) w answer
    × (text ≡ answer_line key answer) × (refused ≡ is_refusal answer)

-- A line, and then others.
pub record Follows (Rest : World → List ℕ → Bool → Type 0) (u : World) (line text : List ℕ)
    (refused : Bool) : Type 0 where
  pub world : World
  pub first : List ℕ
  pub more : List ℕ
  pub is_first_refused : Bool
  pub is_more_refused : Bool
  pub replies : Replies u (asked line) world first is_first_refused
  pub rest : Rest world more is_more_refused
  pub all : text ≡ first ++ more
  pub either : refused ≡ (is_first_refused || is_more_refused)

-- Lines in turn: what they are told one after another, and whether one is refused.
abbrev pub Answers : World → List (List ℕ) → World → List ℕ → Bool → Type 0
Answers u [] w text refused = (w ≡ u) × (text ≡ []) × (refused ≡ false)
Answers u (line ∷ lines) w text refused =
    Follows (λ v more is_refused. Answers v lines w more is_refused) u line text refused

-- known bytes grow by a beginning of these
abbrev pub AppendsFront : Option (List ℕ) → Option (List ℕ) → List ℕ → Type 0
AppendsFront None new bytes = Unit {0}
AppendsFront (Some xs) None bytes = ⊥
AppendsFront (Some xs) (Some ys) bytes =
    (front : List ℕ) × (rest : List ℕ) × (bytes ≡ front ++ rest) × (ys ≡ xs ++ front)

-- if the input failed all is told, else a beginning of it
abbrev pub Tells : FrontFault → Option (List ℕ) → Option (List ℕ) → List ℕ → Type 0
Tells Read = Appends
Tells Memory = AppendsFront
Tells Write = AppendsFront

-- the number of a fault
abbrev pub front_fault_number : FrontFault → ℕ
front_fault_number Memory = 1
front_fault_number Read = 2
front_fault_number Write = 3

-- a bench that failed stays so, any other is as it was
abbrev pub progress_at : Progress → BatchEnd → Progress
progress_at before (Ended refused) = before
progress_at before (Stopped fault) = Failed

-- how far a bench is at the end of the lines, before what waits is settled: only a bench that
-- failed has failed
abbrev pub IsFarAtEnd : Progress → Progress → BatchEnd → Type 0
IsFarAtEnd before now (Ended refused) = before ≢ Failed → now ≢ Failed
IsFarAtEnd before now (Stopped fault) = now ≡ Failed

-- How far a bench is after lines, before what waits is settled: it takes the next command, or
-- failed.
pub record IsFarAfterLines (before now : Progress) (result : Result BatchEnd FrontFault) : Type 0
  where
    pub takes : TakesNext now
    pub ended : IfOk result (IsFarAtEnd before now)

-- the fault of a batch whose last command couldn't be settled
abbrev pub unsettled_fault : Result BatchEnd FrontFault → FrontFault
unsettled_fault (Ok end) = Read
unsettled_fault (Err fault) = fault

-- these are the lines of the input, if that is known, or its first ones
abbrev pub AreLines : Option (List ℕ) → List (List ℕ) → Type 0
AreLines input lines = IfSome input (λ bytes. lines_of bytes ≡ lines)

abbrev pub AreFirst : Option (List ℕ) → List (List ℕ) → Type 0
AreFirst input lines =
    IfSome input (λ bytes. (more : List (List ℕ)) × (lines_of bytes ≡ lines ++ more))

-- after these, lines of the input are left, if that is known
abbrev pub LeavesLines : Option (List ℕ) → List (List ℕ) → Type 0
LeavesLines input lines = IfSome input (λ bytes. lines_of bytes ≢ lines)

-- The last command of these lines that was done led from v to w; the lines after it did nothing.
pub record IsLastDone (u : World) (lines : List (List ℕ)) (v w : World) : Type 0 where
  pub older : List (List ℕ)
  pub line : List ℕ
  pub newer : List (List ℕ)
  pub all : lines ≡ older ++ line ∷ newer
  pub text : List ℕ
  pub refused : Bool
  pub answers : Answers u older v text refused
  pub key : List ℕ
  pub command : Command
  pub reply : Reply
  pub asks : asked line ≡ Call key command
  pub step : Step v key command w reply

-- so it did, or no command is still to be settled
abbrev pub IsLast : World → List (List ℕ) → World → World → Type 0
IsLast u lines v w = (v ≡ w) ⊎ IsLastDone u lines v w

-- All lines were answered, and told what they are answered.
pub record Ends (input before now : Option (List ℕ))
    (Answered : List (List ℕ) → List ℕ → Bool → Type 0) (refused : Bool) : Type 0 where
  pub lines : List (List ℕ)
  pub text : List ℕ
  pub read : AreLines input lines
  pub told : Appends before now text
  pub answered : Answered lines text refused

-- Some of the lines were answered, and told so.
pub record Breaks (input : Option (List ℕ)) (Told : List ℕ → Type 0)
    (Answered : List (List ℕ) → List ℕ → Bool → Type 0) : Type 0 where
  pub lines : List (List ℕ)
  pub text : List ℕ
  pub refused : Bool
  pub read : AreFirst input lines
  pub told : Told text
  pub answered : Answered lines text refused

module _ {S H : Type 0} (g : Ghosts S) (j : ShelfGhosts H) where
  -- The lines were answered in turn from the world u on, and the bench is at rest in the world that
  -- they reach.
  pub record AreAnswered (s : Held S) (k : H) (away : Image) (u : World) (lines : List (List ℕ))
      (text : List ℕ) (refused : Bool) : Type 0 where
    pub world : World
    pub answers : Answers u lines world text refused
    pub at : IsAt g j s k away [] [] world world

  -- The lines were answered in turn from the world u on, and carried out; the last command of them
  -- that was done is perhaps still to be settled.
  pub record AreCarriedOut (s : Held S) (k : H) (away : Image) (u : World) (lines : List (List ℕ))
      (text : List ℕ) (refused : Bool) : Type 0 where
    pub world : World
    pub before : World
    pub answers : Answers u lines world text refused
    pub last : IsLast u lines before world
    pub intents : List Intent
    pub bytes : List (List ℕ)
    pub at : IsCarriedOut g j s k away intents bytes before world

  -- So they were, and the bench, which is so far, stands for the world that they reach.
  pub record AreStanding (p : Progress) (s : Held S) (k : H) (away : Image) (u : World)
      (lines : List (List ℕ)) (text : List ℕ) (refused : Bool) : Type 0 where
    pub world : World
    pub before : World
    pub answers : Answers u lines world text refused
    pub last : IsLast u lines before world
    pub stands : Stands g j p s k away before world

  -- So they were, and the bench failed as it settled the last command.
  pub record AreUnsettled (s : Held S) (k : H) (away : Image) (u : World) (lines : List (List ℕ))
      (text : List ℕ) (refused : Bool) : Type 0 where
    pub registry : Held S
    pub shelf : H
    pub carried : AreCarriedOut registry shelf away u lines text refused
    pub left : LeavesOnly g j registry s shelf k away carried.before carried.world

  -- The bench failed at the command of a line, after those before it were answered.
  pub record Stops (input : Option (List ℕ)) (Told : List ℕ → Type 0) (s : Held S) (k : H)
      (away : Image) (u : World) (fault : BenchFault) : Type 0 where
    pub lines : List (List ℕ)
    pub line : List ℕ
    pub key : List ℕ
    pub command : Command
    pub text : List ℕ
    pub refused : Bool
    pub registry : Held S
    pub shelf : H
    pub read : AreFirst input (lines ++ line ∷ [])
    pub asks : asked line ≡ Call key command
    pub answered : AreCarriedOut registry shelf away u lines text refused
    pub told : Told (text ++ fault_line key fault)
    pub left : LeavesNext g j registry s shelf k away answered.before answered.world
        (one_call key command)
    pub disk : fault ≡ Disk → (j.view shelf).faults < (j.view k).faults
    pub store : fault ≡ Store → HasRoom most_rows (seen g registry) → StoreFailed g registry s
    pub readable : fault ≡ Unreadable → AreWrittenUnder key answered.at.tables → ⊥

  -- What is owed of lines that are answered, if they ended, if the bench failed, and if the answers
  -- weren't all told. Of a known input a command is still to be settled only if lines are left.
  abbrev pub HandsIn : Progress → Option (List ℕ) → Option (List ℕ) → Option (List ℕ) → Held S → H
      → Image → World → Result BatchEnd FrontFault → Type 0
  HandsIn p input before now s k away u (Ok (Ended refused)) =
      Ends input before now (AreStanding p s k away u) refused
      × OnSome input (phase_of p ≢ phase.Applied)
  HandsIn p input before now s k away u (Ok (Stopped fault)) =
      (p ≡ Failed) × Stops input (Appends before now) s k away u fault
  HandsIn p input before now s k away u (Err fault) =
      ((it : Breaks input (Tells fault before now) (AreStanding p s k away u))
      × (phase_of p ≡ phase.Applied → LeavesLines input it.lines))
      ⊎ ((f : BenchFault) × (p ≡ Failed) × Stops input (AppendsFront before now) s k away u f)

  -- What a batch owes, after which nothing is still to be settled. If the answers weren't all
  -- told, the bench may also have failed as it settled the last command; of a known input only if
  -- lines are left.
  abbrev pub Batches : Option (List ℕ) → Option (List ℕ) → Option (List ℕ) → Held S → H → Image
      → World → Result BatchEnd FrontFault → Type 0
  Batches input before now s k away u (Ok (Ended refused)) =
      Ends input before now (AreAnswered s k away u) refused
  Batches input before now s k away u (Ok (Stopped fault)) =
      Stops input (Appends before now) s k away u fault
  Batches input before now s k away u (Err fault) =
      Breaks input (Tells fault before now) (AreAnswered s k away u)
      ⊎ (((f : BenchFault) × Stops input (AppendsFront before now) s k away u f)
      ⊎ ((it : Breaks input (Tells fault before now) (AreUnsettled s k away u))
      × LeavesLines input it.lines))

-- What a batch owes of a bench, if its input was known so, and its output before and now.
pub record AnswersBatch {S H : Type 0} (s : Ghosts S) (h : ShelfGhosts H)
    (input before now : Option (List ℕ)) (old new : Bench S H)
    (result : Result BatchEnd FrontFault) : Type 0 where
  pub does : h.honest (shelf_of old) → DiskKept s (registry_of new) → (away : Image) (u : World)
      → IsAt s h (registry_of old) (shelf_of old) away [] [] u u
      → Batches s h input before now (registry_of new) (shelf_of new) away u result
  pub progress : IfOk result (λ end. progress_of new ≡ progress_at (progress_of old) end)
  pub phase : TakesCommands (progress_of new)
  pub closes : KeepsClosed old new (end_fault result)
  pub keep : Keep s h (registry_of old) (registry_of new) (shelf_of old) (shelf_of new)
