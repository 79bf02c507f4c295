-- What a store and the images of a shelf lead to, and what a stop may leave of both.
use Rattle.std.specs.Prelude.{◌≡◌, ℕ, List}
use Rattle.sqlite_trees.specs.declared.store.Store.{Ghosts}
use Rattle.sqlite.specs.Tree.{Trees}
use Rattle.sqlite.specs.Held.{Held}
use Rattle.gm_metadata.specs.Images.{Image, Sizes, SameThere}
use Rattle.gm_shelf.specs.declared.shelf.Shelf.{Ghosts as ShelfGhosts}
use Rattle.gm_shelf.specs.Disk.{View}
use Rattle.gm_state.specs.declared.intents.Intent.{Intent}
use Rattle.gm_state.specs.declared.intents.Intent.TheVariants.{Meta}
use Rattle.gm_state.specs.declared.records.Mirror.{Mirror}
use Rattle.gm_state.specs.declared.records.Component.{Component}
use Rattle.gm_state.specs.Intents.{IsOf, IsAtHand}
use Rattle.gm_state.specs.Records.{Records, IsState}
use Rattle.gm_state.specs.Rows.{Tables}
use Rattle.gm_lists.specs.Ordered.{Has}
use Rattle.gm_state.specs.World.{World, present}
use Rattle.gm_registry.specs.Opens.{IsStored}
use Rattle.gm_registry.specs.Registry.{CrashLeaves, HasTables}
use Rattle.gm_bench.specs.declared.answer.Work.{Work}
use Rattle.gm_bench.specs.Leading.{AllLead}

-- The store leads to w with each of the shelf's images, if the providers that aren't on it hold
-- what is away.
pub record Recovers (db : Trees) (size : Sizes) (away : Image) (X : Image → Type 0)
    (u w : World) : Type 0 where
  pub tables : Tables
  pub intents : List Intent
  pub bytes : List (List ℕ)
  pub stored : IsStored db tables
  pub leads : AllLead tables intents bytes size away X u w

-- these records say of each Meta among the intents what all records say
pub record Cover (part all : Records) (ts : List Intent) : Type 0 where
  pub state : IsState part
  pub metas : (p : List ℕ) → Has ts (Meta p) → (m : Mirror) (k : Component) → IsOf all m k
      → k.provider ≡ p → IsOf part m k

-- each image that a crash may leave is the world's, on the providers that are there
abbrev pub IsShelfOf : View → World → Sizes → Type 0
IsShelfOf v w size = (x : Image) → v.may_leave x → SameThere size x w.shelf

module _ {S H : Type 0} (g : Ghosts S) (j : ShelfGhosts H) where
  -- The registry holds tables with these intents and bytes, and with each image that a crash may
  -- leave of the shelf they lead to w.
  pub record IsFound (r : Held S) (h : H) (away : Image) (ts : List Intent)
      (bytes : List (List ℕ)) (u w : World) : Type 0 where
    pub tables : Tables
    pub has : HasTables g r tables
    pub sizes : present w ≡ j.size h
    pub leads : AllLead tables ts bytes (j.size h) away (j.view h).may_leave u w

  -- The registry holds tables with these intents, whose providers are on the shelf, and these
  -- bytes; and with each image that a crash may leave of the shelf they lead to w.
  pub record IsAt (r : Held S) (h : H) (away : Image) (ts : List Intent)
      (bytes : List (List ℕ)) (u w : World) : Type 0 where
    pub tables : Tables
    pub has : HasTables g r tables
    pub sizes : present w ≡ j.size h
    pub at_hand : (t : Intent) → Has ts t → IsAtHand (j.size h) t
    pub leads : AllLead tables ts bytes (j.size h) away (j.view h).may_leave u w

  -- The same, and the images hold what the intents say already: these alone are still to be taken
  -- out. A bench at rest is one of these, without any intent.
  pub record IsCarriedOut (r : Held S) (h : H) (away : Image) (ts : List Intent)
      (bytes : List (List ℕ)) (u w : World) : Type 0 where
    pub tables : Tables
    pub has : HasTables g r tables
    pub sizes : present w ≡ j.size h
    pub at_hand : (t : Intent) → Has ts t → IsAtHand (j.size h) t
    pub leads : AllLead tables ts bytes (j.size h) away (j.view h).may_leave u w
    pub shelf : IsShelfOf (j.view h) w (j.size h)

  -- The bench is at a world to which this work leads, and the work's part of the records says what
  -- its intents need.
  pub record IsAtWork (r : Held S) (h : H) (away : Image) (work : Work) (u w : World) : Type 0 where
    pub at : IsAt r h away work.intents.items work.bytes.items u w
    pub cover : Cover work.part w.state work.intents.items

  -- A stop within a call finds the registry as it was with an image of any moment, or what both may
  -- leave at the call's end. Every such pair leads to w.
  pub record LeavesOnly (r s : Held S) (h k : H) (away : Image) (u w : World) : Type 0 where
    pub within : (db : Trees) → CrashLeaves g r db
        → Recovers db (j.size h) away ((j.view k).left_since (j.view h).moment) u w
    pub end : (db : Trees) → CrashLeaves g s db
        → Recovers db (j.size h) away (j.view k).may_leave u w
