-- Commands that are handed in as a part of a schedule: those that are done are accepted and
-- acknowledged, in their order.
use Rattle.std.specs.Prelude.{◌⊎◌, ℕ, List, [], ◌∷◌}
use Rattle.std.proofs.Common.{inl, inr}
use Rattle.sqlite_trees.specs.declared.store.Store.{Ghosts}
use Rattle.sqlite.specs.Held.{Held}
use Rattle.sqlite.specs.Tree.{Trees}
use Rattle.gm_metadata.specs.Images.{Image, Sizes}
use Rattle.gm_shelf.specs.declared.shelf.Shelf.{Ghosts as ShelfGhosts}
use Rattle.gm_rules.specs.AbstractCalls as run
use Rattle.gm_bench.specs.Owed.{LeavesRun}
use Rattle.gm_bench.specs.Recovering.{IsCarriedOut}
use Rattle.gm_bench.specs.Schedule.{ArePending, AtRest, Entry, Handed_in, IsButMoved, IsLeftIn, IsRunStop, IsStop, Reached, Stopped, Within}
use Rattle.gm_bench.specs.Standing.{LeavesNext}
use Rattle.gm_state.specs.declared.intents.Intent.{Intent}
use Rattle.gm_state.specs.World.{World}

-- entries, the newest first, after which these calls were handed in one after another, each in a
-- commit of its own
abbrev pub with_calls : List run.Call → List Entry → List Entry
with_calls [] entries = entries
with_calls (call ∷ calls) entries = with_calls calls (Handed_in (call ∷ []) ∷ entries)

module _ {S H : Type 0} (g : Ghosts S) (j : ShelfGhosts H) (all : Sizes) where
  -- Some of the calls that were handed in are done, and the bench is at rest after them.
  pub record IsAtRestBehind (handed : List run.Call) (s : Held S) (k : H) (away : Image)
      (acc ack : List Entry) : Type 0 where
    pub calls : List run.Call
    pub among : Within calls handed
    pub rest : AtRest g j all s k away (with_calls calls acc) (with_calls calls ack)

  -- A bench that was at rest, with the registry r and the shelf h, failed at this call: whatever a
  -- stop leaves leads on, with the call or without.
  pub record IsStoppedAt (call : run.Call) (r s : Held S) (h k : H) (away : Image)
      (acc ack : List Entry) (rest : AtRest g j all r h away acc ack) : Type 0 where
    pub left : LeavesRun g j r s h k away rest.world rest.world (call ∷ [])
    pub leads : (db : Trees) (l : H) (after : List Entry)
        → IsLeftIn db (Handed_in (call ∷ [])) acc after
        → IsRunStop g j r s h k away rest.world rest.world (call ∷ []) left db l
        → Stopped g j all db l away after ack

  -- Some of the calls that were handed in are done and carried out; the last of them is perhaps
  -- still to be settled.
  pub record AreCarriedBehind (handed : List run.Call) (s : Held S) (k : H) (away : Image)
      (acc ack : List Entry) : Type 0 where
    pub calls : List run.Call
    pub among : Within calls handed
    pub world : World
    pub before : World
    pub reached : Reached all (with_calls calls acc) world
    pub last : IsButMoved before world ⊎ ArePending all (with_calls calls acc) before world
    pub intents : List Intent
    pub bytes : List (List ℕ)
    pub at : IsCarriedOut g j s k away intents bytes before world
    pub told : Within (with_calls calls ack) (with_calls calls acc)

  -- one store and one shelf that a stop leaves within a call that is handed in and then settled, or
  -- within the settling of the last one after it
  abbrev pub IsNextStop : (r s : Held S) (h k : H) (away : Image) (v u : World) (call : run.Call)
      → LeavesNext g j r s h k away v u (call ∷ []) → Trees → H → Type 0
  IsNextStop r s h k away v u call (inl it) db l =
      IsRunStop g j r s h k away v u (call ∷ []) it db l
  IsNextStop r s h k away v u call (inr it) db l =
      IsStop g j r it.registry h it.shelf db l
      ⊎ IsStop g j it.registry s it.shelf k db l

  -- A bench whose calls were carried out failed at the next one: whatever a stop leaves leads on,
  -- with that call or without.
  pub record IsStoppedNext (call : run.Call) (r s : Held S) (h k : H) (away : Image) (v u : World)
      (acc ack : List Entry) : Type 0 where
    pub left : LeavesNext g j r s h k away v u (call ∷ [])
    pub leads : (db : Trees) (l : H) (after : List Entry)
        → IsLeftIn db (Handed_in (call ∷ [])) acc after
        → IsNextStop r s h k away v u call left db l
        → Stopped g j all db l away after ack

  -- A bench whose calls were carried out failed as it settled the last one: whatever a stop leaves
  -- leads on.
  pub record IsStoppedSettling (handed : List run.Call) (s : Held S) (k : H) (away : Image)
      (acc ack : List Entry) : Type 0 where
    pub registry : Held S
    pub shelf : H
    pub behind : AreCarriedBehind handed registry shelf away acc ack
    pub leads : (db : Trees) (l : H) → IsStop g j registry s shelf k db l
        → Stopped g j all db l away (with_calls behind.calls acc) (with_calls behind.calls ack)
