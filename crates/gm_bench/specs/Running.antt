-- What a command is answered that is carried out and settled.
use Rattle.std.specs.Prelude.{ℕ, List, []}
use Rattle.sqlite_trees.specs.declared.store.Store.{Ghosts}
use Rattle.sqlite.specs.Held.{Held}
use Rattle.gm_metadata.specs.Images.{Image}
use Rattle.gm_shelf.specs.declared.shelf.Shelf.{Ghosts as ShelfGhosts}
use Rattle.gm_commands.specs.declared.command.Command.{Command}
use Rattle.gm_state.specs.World.{World}
use Rattle.gm_rules.specs.AbstractCalls as run
use Rattle.gm_bench.specs.declared.answer.Answer.{Answer}
use Rattle.gm_bench.specs.declared.answer.Answer.TheVariants.{Done, Repeated, Refused}
use Rattle.gm_bench.specs.Recovering.{IsAt}

-- the answer, as the abstract bench gives it
abbrev pub answer_of : Answer → run.Answer
answer_of (Done n reply) = run.Done n reply
answer_of (Repeated n reply) = run.Repeated n reply
answer_of (Refused n) = run.Refused n

-- The answer is the abstract bench's, and the bench is at rest in the world that it reaches by the
-- call.
pub record IsRun {S H : Type 0} (g : Ghosts S) (j : ShelfGhosts H) (r : Held S)
    (h : H) (away : Image) (u : World) (key : List ℕ) (c : Command) (a : Answer) : Type 0 where
  pub world : World
  pub calls : run.Calls u (record { key = key; command = c }) world (answer_of a)
  pub at : IsAt g j r h away [] [] world world
