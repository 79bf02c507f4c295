-- What a batch makes of a schedule: those commands of its lines that are done are accepted and
-- acknowledged, in their order.
use Rattle.std.specs.Prelude.{◌≡◌, ◌⊎◌, ℕ, List, [], ◌∷◌, ◌++◌, Option, Result, Ok, Err}
use Rattle.sqlite_trees.specs.declared.store.Store.{Ghosts}
use Rattle.sqlite.specs.Held.{Held}
use Rattle.gm_metadata.specs.Images.{Image, Sizes}
use Rattle.gm_shelf.specs.declared.shelf.Shelf.{Ghosts as ShelfGhosts}
use Rattle.gm_rules.specs.AbstractCalls as run
use Rattle.gm_bench.specs.Schedule.{Entry}
use Rattle.gm_front.specs.declared.answer_lines.BatchEnd.{BatchEnd}
use Rattle.gm_front.specs.declared.answer_lines.BatchEnd.TheVariants as end
use Rattle.gm_front.specs.declared.answer_lines.FrontFault.{FrontFault}
use Rattle.gm_front.specs.Batch.{AreLines, AreFirst, LeavesLines}
use Rattle.gm_front.specs.HandedIn.{AreCarriedBehind, IsAtRestBehind, IsStoppedNext, IsStoppedSettling, with_calls}
use Rattle.gm_lines.specs.Asked.{Asked, Nothing, Wrong, Call, asked}

-- what a line asks for, and then these calls
abbrev pub with_asked : Asked → List run.Call → List run.Call
with_asked Nothing calls = calls
with_asked (Wrong key) calls = calls
with_asked (Call key command) calls = record { key = key; command = command } ∷ calls

-- the calls that the lines ask for, in order
abbrev pub calls_of : List (List ℕ) → List run.Call
calls_of [] = []
calls_of (line ∷ lines) = with_asked (asked line) (calls_of lines)

module _ {S H : Type 0} (g : Ghosts S) (j : ShelfGhosts H) (all : Sizes) where
  -- The bench failed at the call of some line, after those of the lines before it.
  pub record StopsAtLine (input : Option (List ℕ)) (s : Held S) (k : H) (away : Image)
      (acc ack : List Entry) : Type 0 where
    pub lines : List (List ℕ)
    pub line : List ℕ
    pub call : run.Call
    pub read : AreFirst input (lines ++ line ∷ [])
    pub asks : asked line ≡ Call call.key call.command
    pub registry : Held S
    pub shelf : H
    pub behind : AreCarriedBehind g j all (calls_of lines) registry shelf away acc ack
    pub stopped : IsStoppedNext g j all call registry s shelf k away behind.before
        behind.world (with_calls behind.calls acc) (with_calls behind.calls ack)

  -- what a batch leaves of a bench that was at rest after these entries
  abbrev pub BatchLeaves : Option (List ℕ) → Held S → H → Image → List Entry → List Entry
      → Result BatchEnd FrontFault → Type 0
  BatchLeaves input s k away acc ack (Ok (end.Ended refused)) = (lines : List (List ℕ))
      × AreLines input lines × IsAtRestBehind g j all (calls_of lines) s k away acc ack
  BatchLeaves input s k away acc ack (Ok (end.Stopped fault)) = StopsAtLine input s k away acc ack
  BatchLeaves input s k away acc ack (Err fault) =
      ((lines : List (List ℕ)) × AreFirst input lines
      × IsAtRestBehind g j all (calls_of lines) s k away acc ack)
      ⊎ (StopsAtLine input s k away acc ack ⊎ ((lines : List (List ℕ)) × AreFirst input lines
      × LeavesLines input lines × IsStoppedSettling g j all (calls_of lines) s k away acc ack))
