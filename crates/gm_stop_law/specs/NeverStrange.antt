-- That no image is strange which a stop left.
use Rattle.std.specs.Prelude.{List, map}
use Rattle.sqlite.specs.Tree.{Trees}
use Rattle.gm_metadata.specs.Images.{Image, Sizes}
use Rattle.gm_shelf.specs.declared.shelf.Shelf.{Ghosts as ShelfGhosts}
use Rattle.gm_lists.specs.Ordered.{Has}
use Rattle.gm_commands.specs.declared.command.Command.{Command}
use Rattle.gm_state.specs.declared.intents.Intent.{Intent}
use Rattle.gm_state.specs.Records.{Records}
use Rattle.gm_state.specs.World.{Answered, World}
use Rattle.gm_stopped.specs.declared.stopped.Stopped.{Stopped}
use Rattle.gm_stopped.specs.declared.strange.Need.{Need}
use Rattle.gm_stopped.specs.Losses.{stopped_by}
use Rattle.gm_stopped.specs.Strange.{IsStrange, Needs}
use Rattle.gm_bench.specs.Recovering.{Recovers}
use Rattle.gm_bench.specs.Schedule.{Phase, Ready, Pending, Applied, Down}

-- the commands that were accepted, the newest first
abbrev pub commands_of : World → List Command
commands_of w = map (λ (a : Answered). a.command) w.answered

-- none of the images that the intents need is strange
abbrev pub NoneIsStrange : Records → Stopped → Sizes → Image → List Intent → Type 0
NoneIsStrange s stopped size x ts = (t : Intent) → Has ts t → (need : Need) → Needs t need
    → IsStrange s stopped size x need → ⊥

-- The store leads to a world with each image that may be left of the shelf; and by the records and
-- the commands of that world, and the intents that are stored, none of these images is strange.
pub record LeavesNoneStrange {H : Type 0} (j : ShelfGhosts H) (db : Trees) (h : H) (away : Image)
    : Type 0 where
  pub before : World
  pub world : World
  pub recovers : Recovers db (j.size h) away (j.view h).may_leave before world
  pub none : (x : Image) → (j.view h).may_leave x → NoneIsStrange world.state
      (stopped_by world.state recovers.intents (commands_of world)) (j.size h) x recovers.intents

-- so it is whenever a stop left a store and a shelf
abbrev pub NeverStrange : {R H : Type 0} → ShelfGhosts H → Phase R H → Image → Type 0
NeverStrange j (Ready r h) away = Unit {0}
NeverStrange j (Pending r h work) away = Unit {0}
NeverStrange j (Applied r h work) away = Unit {0}
NeverStrange j (Down db h) away = LeavesNoneStrange j db h away
