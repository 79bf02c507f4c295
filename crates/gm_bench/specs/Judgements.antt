-- What a command comes to under its key, before anything is written: the abstract bench repeats or
-- refuses it, or it can be accepted.
use Rattle.std.specs.Prelude.{◌≡◌, ◌≤◌, ℕ, true, List, [], ◌∷◌, length, Result, IfOk, IsErrOf}
use Rattle.std.specs.String.{string_bytes}
use Rattle.sqlite_trees.specs.declared.store.Store.{Ghosts as StoreGhosts}
use Rattle.gm_metadata.specs.Images.{Image, Sizes}
use Rattle.gm_shelf.specs.declared.shelf.Shelf.{Ghosts as ShelfGhosts}
use Rattle.gm_commands.specs.declared.command.Command.{Command}
use Rattle.gm_commands.specs.Commands.{CommandFits, is_key, words_of}
use Rattle.gm_state.specs.declared.intents.Intent.{Intent}
use Rattle.gm_state.specs.Records.{Records}
use Rattle.gm_state.specs.Rows.{Tables}
use Rattle.gm_state.specs.World.{World}
use Rattle.gm_rules.specs.AbstractCalls as run
use Rattle.gm_rules.specs.Step.{CanAnswer}
use Rattle.gm_rows.specs.ReadableTables.{AreRecordsOf}
use Rattle.gm_registry.specs.Registry.{DiskKept, HasTables}
use Rattle.gm_registry.specs.Replies.{IsFree}
use Rattle.gm_bench.specs.declared.fault.BenchFault.{BenchFault}
use Rattle.gm_bench.specs.declared.fault.BenchFault.TheVariants.{Disk, Unreadable}
use Rattle.gm_bench.specs.declared.found_key.FoundKey.TheVariants.{Free}
use Rattle.gm_bench.specs.declared.judgement.Judgement.{Judgement}
use Rattle.gm_bench.specs.declared.judgement.Judgement.TheVariants.{New, Refused, Repeated}
use Rattle.gm_bench.specs.declared.media.Media.{Media}
use Rattle.gm_bench.specs.declared.phase.Waiting.{Waiting}
use Rattle.gm_bench.specs.declared.plan.Planned.{Planned}
use Rattle.gm_bench.specs.Accepting.{left_by}
use Rattle.gm_bench.specs.Calls.{OnlyLooks}
use Rattle.gm_bench.specs.FoundKeys.{AreReadUnder, TellsKey}
use Rattle.gm_bench.specs.Planning.{IsFitting, IsPlanned}
use Rattle.gm_bench.specs.Presence.{AreAtHand}
use Rattle.gm_bench.specs.Recovering.{IsCarriedOut}
use Rattle.gm_bench.specs.Keys.{AreReadUnderAll, MayBeTaken, further_keys}
use Rattle.gm_bench.specs.Series.{AreBegun, AreJudged, IsUnplanned, calls_in, further_in}
use Rattle.gm_bench.specs.ShelfFacts.{IsHonestToAdopt}

-- what the abstract bench answers without a step, or what is planned of a command that it does
abbrev pub IsJudgement : World → List ℕ → Command → Judgement → Type 0
IsJudgement u key c (Repeated n reply) =
    run.Calls u (record { key = key; command = c }) u (run.Repeated n reply)
IsJudgement u key c (Refused why) =
    run.Calls u (record { key = key; command = c }) u (run.Refused why)
IsJudgement u key c (New words planned) =
    IsPlanned u c planned × CanAnswer u key c × (string_bytes words ≡ words_of c)

-- What is planned of a command can be written under its keys, and is then at hand.
pub record CanBeWritten (size : Sizes) (key : List ℕ) (t : Tables) (planned : Planned) : Type 0
  where
    pub key_ok : is_key key ≡ true
    pub free : IsFree t key
    pub further : MayBeTaken key (further_keys planned.change) t
    pub at_hand : AreAtHand size planned.work.intents.items

-- so can what is planned, if anything is
abbrev pub CanBeAccepted : Sizes → List ℕ → Tables → Judgement → Type 0
CanBeAccepted size key t (New words planned) = CanBeWritten size key t planned
CanBeAccepted size key t _ = Unit {0}

-- it is planned under no further key
abbrev pub IsJudgedOnce : Judgement → Type 0
IsJudgedOnce (New words planned) = planned.change.further ≡ []
IsJudgedOnce _ = Unit {0}

-- and it fits the tables
abbrev pub IsJudgedToFit : Tables → Judgement → Type 0
IsJudgedToFit t (New words planned) =
    (waiting : Waiting) → IsFitting planned.change (string_bytes words) (left_by waiting t)
IsJudgedToFit t _ = Unit {0}

-- the tables have room for one more command, under a key that is free, and these are its words
pub record IsLeftToRules (key words : List ℕ) (c : Command) (t : Tables) : Type 0 where
  pub told : TellsKey key (λ w. w ≡ words) Free t
  pub fits : CommandFits c
  pub words_are : words ≡ words_of c

-- any tables
abbrev pub AreAny : Tables → Type 0
AreAny t = Unit {0}

-- A command is judged under its key, whose tables are such.
pub record JudgesCommand {S H : Type 0} (s : StoreGhosts S) (h : ShelfGhosts H)
    (old new : Media S H) (result : Result Judgement BenchFault) (key : List ℕ) (c : Command)
    (AreSuch : Tables → Type 0) : Type 0 where
  -- of a bench that stands for u it is what the abstract bench answers
  pub answers : h.honest old.shelf → DiskKept s new.registry → IfOk result
      (λ j. (away : Image) (ts : List Intent) (bytes : List (List ℕ)) (v u : World)
      → (at : IsCarriedOut s h old.registry old.shelf away ts bytes v u) → AreSuch at.tables
      → IsJudgement u key c j × HasTables s new.registry at.tables)
  -- of rows that say a state, what is planned can be written and carried out
  pub plans : DiskKept s new.registry → IfOk result (λ j. (t : Tables) (r : Records)
      → HasTables s old.registry t → AreRecordsOf t r → AreSuch t
      → CanBeAccepted (h.size old.shelf) key t j × IsJudgedOnce j
      × (IsHonestToAdopt h old.shelf c → IsJudgedToFit t j) × HasTables s new.registry t)
  -- F6 comes only if the rows can't be read
  pub readable : DiskKept s new.registry → IsErrOf result Unreadable
      → (t : Tables) (r : Records) → HasTables s old.registry t → AreRecordsOf t r → AreSuch t
      → AreReadUnder key t → IsHonestToAdopt h old.shelf c → ⊥
  -- it only looks at both media
  pub looks : OnlyLooks s h old new result

-- A judgement of a command under its first key is taken further: under as many more keys as may be
-- taken, while the command can go on.
pub record TakesFurther {S H : Type 0} (s : StoreGhosts S) (h : ShelfGhosts H)
    (old new : Media S H) (result : Result Judgement BenchFault) (jd : Judgement) (key : List ℕ)
    (more : List (List ℕ)) (c : Command) : Type 0 where
  -- of a bench that stands for u it is what the abstract bench answers to all
  pub answers : h.honest old.shelf → DiskKept s new.registry → IfOk result
      (λ j. (away : Image) (ts : List Intent) (bytes : List (List ℕ)) (v u : World)
      → (at : IsCarriedOut s h old.registry old.shelf away ts bytes v u) → IsJudgement u key c jd
      → AreJudged u key c j × AreBegun c (key ∷ more) (calls_in key c j)
      × HasTables s new.registry at.tables)
  -- of rows that say a state, what is planned can be written and carried out
  pub plans : DiskKept s new.registry → IfOk result (λ j. (t : Tables) (r : Records)
      → HasTables s old.registry t → AreRecordsOf t r → IsJudgedOnce jd
      → CanBeAccepted (h.size old.shelf) key t jd
      → CanBeAccepted (h.size old.shelf) key t j × (IsJudgedToFit t jd → IsJudgedToFit t j)
      × (further_in j ≤ length more) × HasTables s new.registry t)
  -- F6 comes only if the rows can't be read
  pub readable : DiskKept s new.registry → IsErrOf result Unreadable
      → (t : Tables) (r : Records) → HasTables s old.registry t → AreRecordsOf t r
      → AreReadUnderAll more t → ⊥
  -- no disk fault comes
  pub disk : IsErrOf result Disk → ⊥
  -- if nothing is planned, nothing is read
  pub unread : IfOk result (λ j. IsUnplanned j → new ≡ old)
  -- it only looks at both media
  pub looks : OnlyLooks s h old new result
