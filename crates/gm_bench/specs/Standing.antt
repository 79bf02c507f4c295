-- Which world a bench stands for that takes a command: at rest, or with work that is carried out
-- and still to be settled; and what a command comes to that is handed in then.
use Rattle.std.specs.Prelude.{◌≡◌, ◌⊎◌, ℕ, List, []}
use Rattle.sqlite_trees.specs.declared.store.Store.{Ghosts}
use Rattle.sqlite.specs.Held.{Held}
use Rattle.gm_metadata.specs.Images.{Image}
use Rattle.gm_shelf.specs.declared.shelf.Shelf.{Ghosts as ShelfGhosts}
use Rattle.gm_commands.specs.declared.command.Command.{Command}
use Rattle.gm_state.specs.World.{World}
use Rattle.gm_rules.specs.AbstractCalls as run
use Rattle.gm_rules.specs.AbstractCalls.{Call}
use Rattle.gm_rules.specs.Series.{DoneFrom, IsFirstAnswered}
use Rattle.gm_bench.specs.declared.answer.Answer.{Answer}
use Rattle.gm_bench.specs.declared.answer.Answer.TheVariants.{Done, Repeated, Refused}
use Rattle.gm_bench.specs.declared.phase.Progress.{Progress}
use Rattle.gm_bench.specs.declared.phase.Progress.TheVariants.{Ready, Pending, Applied, Failed}
use Rattle.gm_bench.specs.Accepting.{LeavesSteps, one_call}
use Rattle.gm_bench.specs.Owed.{HasWork, LeavesRun}
use Rattle.gm_bench.specs.Recovering.{IsAt, IsAtWork, IsShelfOf, LeavesOnly}

module _ {S H : Type 0} (g : Ghosts S) (j : ShelfGhosts H) where
  -- A bench that is so far stands for the world u; v is the world before the command that is still
  -- to be settled, or u itself. One that failed stands for a world only if its media are at rest.
  abbrev pub Stands : Progress → Held S → H → Image → World → World → Type 0
  Stands Ready r h away v u = (v ≡ u) × IsAt g j r h away [] [] u u
  Stands (Pending work) r h away v u = ⊥
  Stands (Applied work) r h away v u =
      IsAtWork g j r h away work v u × IsShelfOf (j.view h) u (j.size h)
  Stands Failed r h away v u = (v ≡ u) × IsAt g j r h away [] [] u u

  -- Calls were accepted and carried out, from r and h to s and k: a stop until some point leaves
  -- what led from v to u, or the steps to w; at that point the steps are pending, and after it what
  -- is left leads to w.
  pub record Carries (r s : Held S) (h k : H) (away : Image) (v u w : World) (calls : List Call)
      : Type 0 where
    pub registry : Held S
    pub shelf : H
    pub sizes : j.size shelf ≡ j.size h
    pub accepting : LeavesSteps g j r registry h shelf away v u calls
    pub pending : HasWork g j registry shelf away u w
    pub carrying : LeavesOnly g j registry s shelf k away u w

  -- What a command comes to that is handed in to a bench that stands for u, from r and h to s and
  -- k: the answer is the abstract bench's. If it is done, the bench stands for the world of the
  -- step; else it stands for u as before.
  abbrev pub IsHandedIn : Progress → Held S → Held S → H → H → Image → World → World → List ℕ
      → Command → Answer → Type 0
  IsHandedIn p r s h k away v u key c (Done n reply) =
      (w : World) × run.Calls u (record { key = key; command = c }) w (run.Done n reply)
      × Carries r s h k away v u w (one_call key c) × Stands p s k away u w
  IsHandedIn p r s h k away v u key c (Repeated n reply) =
      run.Calls u (record { key = key; command = c }) u (run.Repeated n reply)
      × LeavesSteps g j r s h k away v u (one_call key c) × Stands p s k away v u
  IsHandedIn p r s h k away v u key c (Refused why) =
      run.Calls u (record { key = key; command = c }) u (run.Refused why)
      × LeavesSteps g j r s h k away v u (one_call key c) × Stands p s k away v u

  -- What calls come to that are handed in so: these are done, numbered on from n and the last with
  -- this reply, and the bench stands for the world of their steps; or the first isn't, and it
  -- stands for u as before.
  abbrev pub AreHandedIn : Progress → Held S → Held S → H → H → Image → World → World → List Call
      → Answer → Type 0
  AreHandedIn p r s h k away v u calls (Done n reply) =
      (w : World) × (answers : List run.Answer) × run.Run u calls w answers
      × DoneFrom n reply answers × Carries r s h k away v u w calls × Stands p s k away u w
  AreHandedIn p r s h k away v u calls (Repeated n reply) =
      IsFirstAnswered u calls (run.Repeated n reply)
      × LeavesSteps g j r s h k away v u calls × Stands p s k away v u
  AreHandedIn p r s h k away v u calls (Refused why) =
      IsFirstAnswered u calls (run.Refused why)
      × LeavesSteps g j r s h k away v u calls × Stands p s k away v u

  -- The first of the calls was found repeated or refused, and then what waited was settled: a stop
  -- leaves what led from v to u.
  pub record SettlesAfter (r s : Held S) (h k : H) (away : Image) (v u : World)
      (calls : List Call) : Type 0 where
    pub registry : Held S
    pub shelf : H
    pub sizes : j.size shelf ≡ j.size h
    pub accepting : LeavesSteps g j r registry h shelf away v u calls
    pub settling : LeavesOnly g j registry s shelf k away v u

  -- a stop within calls that are handed in and then settled, or within the settling of the last
  -- ones after them
  abbrev pub LeavesNext : Held S → Held S → H → H → Image → World → World → List Call → Type 0
  LeavesNext r s h k away v u calls =
      LeavesRun g j r s h k away v u calls ⊎ SettlesAfter r s h k away v u calls
