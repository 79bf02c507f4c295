-- What each call owes of its media, of an honest shelf and a disk that keeps what is written. The
-- contract of the call and the law over schedules say the same words.
use Rattle.std.specs.Prelude.{◌≡◌, ◌⊎◌, ℕ, List, []}
use Rattle.sqlite_trees.specs.declared.store.Store.{Ghosts}
use Rattle.sqlite.specs.Held.{Held}
use Rattle.gm_metadata.specs.Images.{Image}
use Rattle.gm_shelf.specs.declared.shelf.Shelf.{Ghosts as ShelfGhosts}
use Rattle.gm_commands.specs.declared.command.Command.{Command}
use Rattle.gm_state.specs.World.{World, present}
use Rattle.gm_rules.specs.AbstractCalls.{Call}
use Rattle.gm_rules.specs.Series.{Steps}
use Rattle.gm_registry.specs.Opens.{IsStored}
use Rattle.gm_registry.specs.Registry.{stored, HasTables, MayLeave}
use Rattle.gm_bench.specs.declared.answer.Accepted.{Accepted}
use Rattle.gm_bench.specs.declared.answer.Answer.{Answer}
use Rattle.gm_bench.specs.declared.answer.Work.{Work}
use Rattle.gm_bench.specs.Recovering.{Recovers, IsAt, IsAtWork, IsCarriedOut, IsShelfOf, LeavesOnly}
use Rattle.gm_bench.specs.Accepting.{AreAnswered, LeavesSteps, WaitsFor, one_call}
use Rattle.gm_bench.specs.declared.phase.Waiting.{Waiting}
use Rattle.gm_bench.specs.Running.{IsRun}
use Rattle.gm_state.specs.declared.intents.Intent.{Intent}
use Rattle.gm_state.specs.Rows.{Tables}

-- What stands between a call's start, with the registry r and the shelf h, and its end, with s and
-- k.
module _ {S H : Type 0} (g : Ghosts S) (j : ShelfGhosts H) where
  -- calls that are handed in at rest, or after a command that was carried out: what a stop leaves,
  -- and what they are answered
  abbrev pub AcceptLeaves : Waiting → Held S → Held S → H → H → List Call → Type 0
  AcceptLeaves waiting r s h k calls =
      (away : Image) (ts : List Intent) (bytes : List (List ℕ)) (v u : World)
      → IsCarriedOut g j r h away ts bytes v u → WaitsFor waiting ts bytes
      → LeavesSteps g j r s h k away v u calls

  abbrev pub AcceptAnswers : Waiting → Held S → Held S → H → H → List Call → Accepted → Type 0
  AcceptAnswers waiting r s h k calls a =
      (away : Image) (ts : List Intent) (bytes : List (List ℕ)) (v u : World)
      → IsCarriedOut g j r h away ts bytes v u → WaitsFor waiting ts bytes
      → AreAnswered g j s k away ts bytes v u calls a

  -- work that is carried out: what a stop leaves, and that the shelf is then the world's
  abbrev pub ApplyLeaves : Held S → H → H → Work → Type 0
  ApplyLeaves r h k work =
      (away : Image) (u w : World) → IsAtWork g j r h away work u w
      → LeavesOnly g j r r h k away u w

  abbrev pub ApplyDoes : Held S → H → H → Work → Type 0
  ApplyDoes r h k work =
      (away : Image) (u w : World) → IsAtWork g j r h away work u w
      → IsAtWork g j r k away work u w × IsShelfOf (j.view k) w (j.size k)

  -- work that is settled: what a stop leaves, and that the bench is then at rest
  abbrev pub SettleLeaves : Held S → Held S → H → Work → Type 0
  SettleLeaves r s h work =
      (away : Image) (u w : World) → IsAtWork g j r h away work u w
      → IsShelfOf (j.view h) w (j.size h)
      → LeavesOnly g j r s h h away u w

  abbrev pub SettleDoes : Held S → Held S → H → Work → Type 0
  SettleDoes r s h work =
      (away : Image) (u w : World) → IsAtWork g j r h away work u w
      → IsShelfOf (j.view h) w (j.size h)
      → IsAt g j s h away [] [] w w

  -- some work is pending that leads from u to w
  abbrev pub HasWork : Held S → H → Image → World → World → Type 0
  HasWork r h away u w = (work : Work) × IsAtWork g j r h away work u w

  -- A stop within calls that are carried out: they are accepted at some point, until which what led
  -- from v to u still does, or the world becomes that of their steps. At that point the steps are
  -- pending, or nothing more is done; and what is left after it leads to them.
  pub record LeavesRun (r s : Held S) (h k : H) (away : Image) (v u : World) (calls : List Call)
      : Type 0 where
    pub registry : Held S
    pub shelf : H
    pub sizes : j.size shelf ≡ j.size h
    pub accepting : LeavesSteps g j r registry h shelf away v u calls
    pub carrying :
        ((registry ≡ s) × (shelf ≡ k))
        ⊎ ((w : World) × Steps u calls w × HasWork registry shelf away u w
        × LeavesOnly g j registry s shelf k away u w)

  -- a command that is handed in at rest, carried out and settled
  abbrev pub RunLeaves : Held S → Held S → H → H → List ℕ → Command → Type 0
  RunLeaves r s h k key c =
      (away : Image) (u : World) → IsAt g j r h away [] [] u u
      → LeavesRun r s h k away u u (one_call key c)

  abbrev pub RunAnswers : Held S → Held S → H → H → List ℕ → Command → Answer → Type 0
  RunAnswers r s h k key c a =
      (away : Image) (u : World) → IsAt g j r h away [] [] u u
      → IsRun g j s k away u key c a

  -- The store and the shelf before an opening lead to w.
  pub record IsLeft (store : Held S) (h : H) (away : Image) (u w : World) : Type 0 where
    pub sizes : present w ≡ j.size h
    pub recovers : Recovers (stored g store) (j.size h) away (j.view h).may_leave u w

  -- The registry is opened: a crash finds the store as it was, or a registry with its tables; and
  -- the registry has these tables.
  pub record IsOpening (store registry : Held S) : Type 0 where
    pub crash : (t : Tables) → IsStored (stored g store) t → MayLeave g store registry t
    pub tables : (t : Tables) → IsStored (stored g store) t → HasTables g registry t

  -- A stop within an opening: first the registry is opened, and may be carried over; then the rest
  -- is carried out over it. At each moment what is left leads to w. Nothing more is done after an
  -- opening of the registry that failed.
  pub record OpenLeaves (store s : Held S) (h k : H) : Type 0 where
    pub registry : Held S
    pub opened : IsOpening store registry ⊎ ((registry ≡ s) × (k ≡ h))
    pub opening : (away : Image) (u w : World) → IsLeft store h away u w
        → LeavesOnly g j store registry h h away u w
    pub carrying : (away : Image) (u w : World) → IsLeft store h away u w
        → LeavesOnly g j registry s h k away u w

  -- after an opening the bench is at rest in the world that was left
  abbrev pub OpenDoes : Held S → Held S → H → H → Type 0
  OpenDoes store s h k = (away : Image) (u w : World) → IsLeft store h away u w
      → IsAt g j s k away [] [] w w

  -- A look: the tables stay, a crash leaves no image that it couldn't leave before, and the sizes
  -- stay.
  pub record LookDoes (r s : Held S) (h k : H) : Type 0 where
    pub tables : (t : Tables) → HasTables g r t → HasTables g s t
    pub images : (x : Image) → (j.view k).may_leave x → (j.view h).may_leave x
    pub sizes : j.size k ≡ j.size h

  -- what a look leaves that is stopped leads on as before
  abbrev pub LookLeaves : Held S → Held S → H → H → Type 0
  LookLeaves r s h k =
      (away : Image) (ts : List Intent) (bytes : List (List ℕ)) (u w : World)
      → IsAt g j r h away ts bytes u w
      → LeavesOnly g j r s h k away u w
