-- What a command that is handed in may leave, and what it is answered.
use Rattle.std.specs.Prelude.{◌⊎◌, ℕ, List, [], ◌∷◌, ◌≡◌, length}
use Rattle.gm_state.specs.declared.intents.Intent.{Intent}
use Rattle.gm_state.specs.Rows.{Tables}
use Rattle.gm_registry.specs.Changes.{settled}
use Rattle.sqlite_trees.specs.declared.store.Store.{Ghosts}
use Rattle.sqlite.specs.Tree.{Trees}
use Rattle.sqlite.specs.Held.{Held}
use Rattle.gm_metadata.specs.Images.{Image}
use Rattle.gm_shelf.specs.declared.shelf.Shelf.{Ghosts as ShelfGhosts}
use Rattle.gm_commands.specs.declared.command.Command.{Command}
use Rattle.gm_state.specs.declared.intents.Reply.{Reply}
use Rattle.gm_state.specs.World.{World}
use Rattle.gm_rules.specs.AbstractCalls as run
use Rattle.gm_rules.specs.AbstractCalls.{Call}
use Rattle.gm_rules.specs.Series.{DoneFrom, IsFirstAnswered, Steps}
use Rattle.gm_registry.specs.Registry.{CrashLeaves}
use Rattle.gm_bench.specs.Recovering.{Recovers, IsAtWork, IsCarriedOut}
use Rattle.gm_bench.specs.declared.answer.Work.{Work}
use Rattle.gm_bench.specs.declared.answer.Accepted.{Accepted}
use Rattle.gm_bench.specs.declared.answer.Accepted.TheVariants.{Done, Repeated, Refused}
use Rattle.gm_bench.specs.declared.phase.Waiting.{Waiting}
use Rattle.gm_bench.specs.declared.phase.Waiting.TheVariants.{Nothing, Done as Carried}

-- these intents and bytes are what waits to be settled
abbrev pub WaitsFor : Waiting → List Intent → List (List ℕ) → Type 0
WaitsFor Nothing ts bytes = (ts ≡ []) × (bytes ≡ [])
WaitsFor Carried ts bytes = Unit {0}

-- the tables that a command is accepted on: without what waits
abbrev pub left_by : Waiting → Tables → Tables
left_by Nothing t = t
left_by Carried t = settled t

-- no other intent is pending, and no other bytes are to be laid
abbrev pub HasNothingElse : Waiting → Tables → Type 0
HasNothingElse Nothing t = (t.intents ≡ []) × (t.patches ≡ [])
HasNothingElse Carried t = Unit {0}

-- the one call of a command under a key
abbrev pub one_call : List ℕ → Command → List Call
one_call key c = record { key = key; command = c } ∷ []

-- the world stays, from the one before it, or becomes that of the steps of these calls
abbrev pub OrSteps : World → World → List Call → (World → World → Type 0) → Type 0
OrSteps v u calls P = P v u ⊎ ((w : World) × Steps u calls w × P u w)

module _ {S H : Type 0} (g : Ghosts S) (j : ShelfGhosts H) where
  -- A stop leaves what led from v to u, or the steps of all these calls, whatever image goes with
  -- it.
  pub record LeavesSteps (r s : Held S) (h k : H) (away : Image) (v u : World) (calls : List Call)
      : Type 0 where
    pub within : (db : Trees) → CrashLeaves g r db
        → Recovers db (j.size h) away ((j.view k).left_since (j.view h).moment) v u
    pub end : (db : Trees) → CrashLeaves g s db
        → OrSteps v u calls (λ x w. Recovers db (j.size h) away (j.view k).may_leave x w)

  -- The calls are done, numbered on from n, the last with this reply: the bench is at the world of
  -- their steps, with this work still to be carried out; whatever a crash leaves leads there alone.
  pub record AreDone (r : Held S) (h : H) (away : Image) (u : World) (calls : List Call) (n : ℕ)
      (reply : Reply) (work : Work) : Type 0 where
    pub world : World
    pub answers : List run.Answer
    pub run : run.Run u calls world answers
    pub done : DoneFrom n reply answers
    pub at : IsAtWork g j r h away work u world
    pub only : (db : Trees) → CrashLeaves g r db
        → Recovers db (j.size h) away (j.view h).may_leave u world

  -- The answer is the abstract bench's: these calls are done, or the first isn't, and then the
  -- bench stays in the same world, with the same intents to be taken out.
  abbrev pub AreAnswered : Held S → H → Image → List Intent → List (List ℕ) → World → World
      → List Call → Accepted → Type 0
  AreAnswered r h away ts bytes v u calls (Done n count reply work) =
      (length calls ≡ count) × AreDone r h away u calls n reply work
  AreAnswered r h away ts bytes v u calls (Repeated n reply) =
      IsFirstAnswered u calls (run.Repeated n reply) × IsCarriedOut g j r h away ts bytes v u
  AreAnswered r h away ts bytes v u calls (Refused why) =
      IsFirstAnswered u calls (run.Refused why) × IsCarriedOut g j r h away ts bytes v u
