-- What a listener hears of a batch: each line, and what it was answered.
use Rattle.std.specs.Prelude.{◌≡◌, ℕ, List, ◌++◌, flat_map, map, length, take, nat_lt, if◌then◌else◌, Option, Some, None, Result, Ok, Err}
use Rattle.std.specs.Io.KnownBytes.{Appends}
use Rattle.gm_lines.specs.declared.lines.Line.{Line}
use Rattle.gm_lines.specs.declared.lines.Line.TheVariants.{End, Whole, Long}
use Rattle.gm_front.specs.declared.answer_lines.BatchEnd.{BatchEnd}
use Rattle.gm_front.specs.declared.answer_lines.BatchEnd.TheVariants.{Ended, Stopped}
use Rattle.gm_front.specs.declared.answer_lines.FrontFault.{FrontFault}
use Rattle.gm_front.specs.declared.answer_lines.FrontFault.TheVariants.{Memory, Read, Write}
use Rattle.gm_front.specs.Batch.{AreFirst, AreLines}

-- a line, unless it is too long to be handed on, and what it was answered
pub record Heard : Type 0 where
  pub line : Option (List ℕ)
  pub answer : List ℕ

-- a line as it is handed on
abbrev pub handed_on : List ℕ → Option (List ℕ)
handed_on line = if nat_lt 131072 (length line) then None else Some line

-- the same of what was found at the front of an input
abbrev pub handed_at : List ℕ → Line → Option (List ℕ)
handed_at line End = None
handed_at line (Whole n) = Some (take n line)
handed_at line Long = None

-- What was heard grows by this. A listener may lose what it knows of it, as if memory ends, and
-- doesn't find it again.
abbrev pub Hears : Option (List Heard) → Option (List Heard) → List Heard → Type 0
Hears before None heard = Unit {0}
Hears None (Some now) heard = ⊥
Hears (Some before) (Some now) heard = now ≡ before ++ heard

-- the answers, one after another
abbrev pub answers_heard : List Heard → List ℕ
answers_heard heard = flat_map (λ it. it.answer) heard

-- the lines are the input's, or if the batch didn't come to its end the first of them
abbrev pub AreHeard : Option (List ℕ) → Result BatchEnd FrontFault → List (List ℕ) → Type 0
AreHeard input (Ok (Ended refused)) lines = AreLines input lines
AreHeard input (Ok (Stopped fault)) lines = AreFirst input lines
AreHeard input (Err fault) lines = AreFirst input lines

-- the text was written; if an answer couldn't be told, perhaps a beginning of that too
abbrev pub WasTold : Option (List ℕ) → Option (List ℕ) → Result BatchEnd FrontFault → List ℕ
    → Type 0
WasTold before now (Ok end) text = Appends before now text
WasTold before now (Err Read) text = Appends before now text
WasTold before now (Err Memory) text = (rest : List ℕ) × Appends before now (text ++ rest)
WasTold before now (Err Write) text = (rest : List ℕ) × Appends before now (text ++ rest)

-- A listener heard the lines of a batch in their order, and what each was told.
pub record HearsBatch (input before now : Option (List ℕ)) (old new : Option (List Heard))
    (result : Result BatchEnd FrontFault) : Type 0 where
  pub lines : List (List ℕ)
  pub heard : List Heard
  pub hears : Hears old new heard
  pub read : AreHeard input result lines
  pub handed : map (λ it. it.line) heard ≡ map handed_on lines
  pub told : WasTold before now result (answers_heard heard)
