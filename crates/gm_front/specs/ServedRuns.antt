-- What a request makes of a schedule: a command of its that is done is accepted and acknowledged.
use Rattle.std.specs.Prelude.{◌⊎◌, ℕ, List, [], ◌∷◌, Option, Result, Ok, Err, IfSome}
use Rattle.sqlite_trees.specs.declared.store.Store.{Ghosts}
use Rattle.sqlite.specs.Held.{Held}
use Rattle.sqlite.specs.Tree.{Trees}
use Rattle.gm_metadata.specs.Images.{Image, Sizes}
use Rattle.gm_shelf.specs.declared.shelf.Shelf.{Ghosts as ShelfGhosts}
use Rattle.gm_rules.specs.AbstractCalls as run
use Rattle.gm_bench.specs.Schedule.{Entry, IsStop, AtRest, Stopped}
use Rattle.gm_http.specs.Requests.{Asked, Asks}
use Rattle.gm_http.specs.Senders.{IsFromPage}
use Rattle.gm_front.specs.declared.answer_lines.FrontFault.{FrontFault}
use Rattle.gm_front.specs.declared.answer_lines.FrontFault.TheVariants.{Memory, Read, Write}
use Rattle.gm_front.specs.Demands.{Demand, Carry, demand_of}
use Rattle.gm_front.specs.HandedIn.{IsAtRestBehind, IsStoppedAt}

-- the command that is handed in, if one is demanded
abbrev pub calls_in : Demand → List run.Call
calls_in (Carry key command) = record { key = key; command = command } ∷ []
calls_in _ = []

module _ {S H : Type 0} (g : Ghosts S) (j : ShelfGhosts H) (all : Sizes) where
  -- The bench, which was at rest with the registry r and the shelf h, failed at what is demanded:
  -- at a command; or at a look, after which whatever a stop leaves leads on as before.
  abbrev pub IsStoppedIn : Demand → (r s : Held S) (h k : H) (away : Image) (acc ack : List Entry)
      → AtRest g j all r h away acc ack → Type 0
  IsStoppedIn (Carry key command) r s h k away acc ack rest =
      IsStoppedAt g j all (record { key = key; command = command }) r s h k away acc ack rest
  IsStoppedIn _ r s h k away acc ack rest = (db : Trees) (l : H)
      → IsStop g j r s h k db l → Stopped g j all db l away acc ack

  -- What the request in this input demands was put to the bench, which is at rest after it, or
  -- failed at it.
  pub record IsServed (input : Option (List ℕ)) (r s : Held S) (h k : H) (away : Image)
      (acc ack : List Entry) (rest : AtRest g j all r h away acc ack) : Type 0 where
    pub asked : Asked
    pub asks : IfSome input (λ bytes. Asks bytes asked)
    pub leaves : IsAtRestBehind g j all (calls_in (demand_of asked)) s k away acc ack
        ⊎ IsStoppedIn (demand_of asked) r s h k away acc ack rest

  -- what serving a request leaves of a bench that was at rest after these entries; if the input
  -- failed, or memory early, nothing was put to it
  abbrev pub ServedLeaves : Option (List ℕ) → (r s : Held S) (h k : H) (away : Image)
      (acc ack : List Entry) → AtRest g j all r h away acc ack → Result ℕ FrontFault
      → Type 0
  ServedLeaves input r s h k away acc ack rest (Ok code) = IsServed input r s h k away acc ack rest
  ServedLeaves input r s h k away acc ack rest (Err Read) =
      AtRest g j all s k away acc ack
  ServedLeaves input r s h k away acc ack rest (Err Memory) =
      AtRest g j all s k away acc ack ⊎ IsServed input r s h k away acc ack rest
  ServedLeaves input r s h k away acc ack rest (Err Write) =
      IsServed input r s h k away acc ack rest

  -- the same if pages are turned away: after a page's request the bench is at rest as it was
  abbrev pub ServedUnlessPage : Option (List ℕ) → (r s : Held S) (h k : H) (away : Image)
      (acc ack : List Entry) → AtRest g j all r h away acc ack → Result ℕ FrontFault
      → Type 0
  ServedUnlessPage input r s h k away acc ack rest result =
      ServedLeaves input r s h k away acc ack rest result
      ⊎ (IfSome input IsFromPage × AtRest g j all s k away acc ack)
