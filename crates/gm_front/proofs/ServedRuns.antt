-- A request as a part of a schedule.
use Rattle.gm_front.proofs.Common.{◌≡◌, inl, inr, ℕ, List, [], Option, Some, None, Result, Ok, Err, sym, subst, Appends, Ghosts, Held, Trees, Image, Sizes, World, BenchFault, IsAt, LeavesOnly, Entry, IsStop, none, AtRest, Stopped, stopped, stays, FrontFault, Memory, Read, Write, AppendsFront, Demand, TurnedDown, AllMirrors, OneMirror, LastSector, NoCommand, Carry, Told, Responds, demand_of, Fails, IsAtRestBehind, calls_in, IsStoppedIn, IsServed, ServedLeaves, ServedUnlessPage, Serves, ServesUnlessPage, Tells}
use Rattle.gm_shelf.specs.declared.shelf.Shelf.{Ghosts as ShelfGhosts}
use Rattle.gm_front.proofs.BatchRuns.{one_call, stopped_at}

module _ {S H : Type 0} (g : Ghosts S) (j : ShelfGhosts H) (all : Sizes)
    (r s : Held S) (h k : H) (away : Image) (acc ack : List Entry)
    (rest : AtRest g j all r h away acc ack) where
  -- the bench is at rest in the same world
  stayed : (w : World) → w ≡ rest.world → IsAt g j s k away [] [] w w
      → IsAtRestBehind g j all [] s k away acc ack
  stayed w same at = record {
    calls = [];
    among = none;
    rest = record {
      world = rest.world;
      reached = rest.reached;
      at = subst (λ (v : World). IsAt g j s k away [] [] v v) same at;
      told = rest.told;
    };
  }

  -- what was demanded is responded to, and the bench is at rest in the world that this leaves
  rests : (d : Demand) (w : World) (told : Told) → Responds rest.world d w told
      → IsAt g j s k away [] [] w w
      → IsAtRestBehind g j all (calls_in d) s k away acc ack
  rests (TurnedDown status message) w told responds at = stayed w responds.0 at
  rests AllMirrors w told responds at = stayed w responds.0 at
  rests (OneMirror name) w told responds at = stayed w responds.0 at
  rests (LastSector provider) w told responds at = stayed w responds.0 at
  rests NoCommand w told responds at = stayed w responds.0 at
  rests (Carry key command) w told responds at =
      let l = one_call all (record { key = key; command = command }) responds.0 [] rest.world w w
      acc ack responds.1
      (λ more told reached within. record {
        calls = [];
        among = none;
        reached = reached;
        told = within;
      })
      rest.reached rest.told in
      record {
        calls = l.calls;
        among = l.among;
        rest = record { world = w; reached = l.reached; at = at; told = l.told };
      }

  -- a look that failed, or was stopped
  looked : LeavesOnly g j r s h k away rest.world rest.world → (db : Trees) (l : H)
      → IsStop g j r s h k db l → Stopped g j all db l away acc ack
  looked left db l stop =
      stopped g j all r s h k db l away rest.world rest.world acc ack rest.reached
      (inl (stays rest.world)) rest.at.sizes rest.told left stop

  fails : (d : Demand) (fault : BenchFault) → Fails g j r s h k away rest.world d fault
      → IsStoppedIn g j all d r s h k away acc ack rest
  fails (TurnedDown status message) fault f = looked f.left
  fails AllMirrors fault f = looked f.left
  fails (OneMirror name) fault f = looked f.left
  fails (LastSector provider) fault f = looked f.left
  fails NoCommand fault f = looked f.left
  fails (Carry key command) fault f =
      stopped_at all g j (record { key = key; command = command }) r s h k away acc ack rest f.left

  served : (input : Option (List ℕ)) (Wrote : List ℕ → Type 0) (IsCode : ℕ → Type 0)
      (fault : Option BenchFault)
      → Tells g j input Wrote r s h k away rest.world IsCode fault
      → IsServed g j all input r s h k away acc ack rest
  served input Wrote IsCode None (told, code, it) = record {
    asked = it.asked;
    asks = it.asks;
    leaves = inl (rests (demand_of it.asked) it.found.world told it.found.responds it.found.at);
  }
  served input Wrote IsCode (Some fault) (code, it) = record {
    asked = it.asked;
    asks = it.asks;
    leaves = inr (fails (demand_of it.asked) fault it.failed);
  }

  -- nothing was put to the bench
  untouched : s ≡ r → k ≡ h → AtRest g j all s k away acc ack
  untouched same there =
      subst (λ (q : Held S). AtRest g j all q k away acc ack) (sym same)
      (subst (λ (q : H). AtRest g j all r q away acc ack) (sym there) rest)

  pub served_leaves : (input before now : Option (List ℕ)) (end : Result ℕ FrontFault)
      (fault : Option BenchFault)
      → Serves g j input before now r s h k away rest.world end fault
      → ServedLeaves g j all input r s h k away acc ack rest end
  served_leaves input before now (Ok code) fault it =
      served input (Appends before now) (λ n. code ≡ n) fault it
  served_leaves input before now (Err Read) fault it = untouched it.0 it.1
  served_leaves input before now (Err Memory) fault (inl it) = inl (untouched it.0 it.1)
  served_leaves input before now (Err Memory) fault (inr it) =
      inr (served input (AppendsFront before now) (λ n. Unit {0}) fault it)
  served_leaves input before now (Err Write) fault it =
      served input (AppendsFront before now) (λ n. Unit {0}) fault it

  pub served_unless_page : (input before now : Option (List ℕ)) (end : Result ℕ FrontFault)
      (fault : Option BenchFault)
      → ServesUnlessPage g j input before now r s h k away rest.world end fault
      → ServedUnlessPage g j all input r s h k away acc ack rest end
  served_unless_page input before now end fault (inl it) =
      inl (served_leaves input before now end fault it)
  served_unless_page input before now end fault (inr it) = inr (it.0, untouched it.1 it.2)
