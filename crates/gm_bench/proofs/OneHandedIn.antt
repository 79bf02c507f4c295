-- A command under its key alone, by what is told of calls under several.
use Rattle.gm_bench.proofs.Common.{inl, inr, ℕ, List, [], ◌∷◌, sym, subst, Ghosts, Held, Image, Call, Command, Reply, World, Answer, Done, Repeated, Progress, AreBegun, AreHandedIn, DoneFrom, IsHandedIn, LeavesRun, AreReadUnderAll, Tables, count_of, one_call, ◌≤◌}
use Rattle.gm_shelf.specs.declared.shelf.Shelf.{Ghosts as ShelfGhosts}
use Rattle.gm_registry.specs.Replies.{AreWrittenUnder}
use Rattle.gm_rules.specs.AbstractCalls as run
use Rattle.gm_bench.specs.declared.answer.Answer.TheVariants.{Refused}
use Rattle.gm_bench.proofs.BegunCalls.{one_is}

-- one call that is done
one_done : (u w : World) (call : Call) (answers : List run.Answer) (n : ℕ) (r : Reply)
    → run.Run u (call ∷ []) w answers → DoneFrom n r answers → run.Calls u call w (run.Done n r)
one_done u w call [] n r runs done = absurd runs
one_done u w call (a ∷ []) n r (v, calls, is) done =
    subst (λ (x : run.Answer). run.Calls u call w x) done
    (subst (λ (x : World). run.Calls u call x a) (sym is) calls)
one_done u w call (a ∷ (b ∷ answers)) n r (v, calls, more) done = absurd more

-- what one call comes to that is handed in
module _ {S H : Type 0} (g : Ghosts S) (j : ShelfGhosts H) (p : Progress) (r s : Held S) (h k : H)
    (away : Image) (v u : World) (key : List ℕ) (c : Command) where
  one_so : (a : Answer) → AreHandedIn g j p r s h k away v u (one_call key c) a
      → IsHandedIn g j p r s h k away v u key c a
  one_so (Done n reply) (w, answers, runs, done, carries, stands) = (
    w,
    one_done u w (record { key = key; command = c }) answers n reply runs done,
    carries,
    stands,
  )
  one_so (Repeated n reply) it = it
  one_so (Refused why) it = it

  pub one_handed : (calls : List Call) (a : Answer) → AreBegun c (key ∷ []) calls
      → AreHandedIn g j p r s h k away v u calls a → IsHandedIn g j p r s h k away v u key c a
  one_handed calls a begun it =
      one_so a (subst (λ (l : List Call). AreHandedIn g j p r s h k away v u l a)
      (one_is c key calls begun) it)

  -- and what a stop within it leaves
  pub one_left : (calls : List Call) → AreBegun c (key ∷ []) calls
      → LeavesRun g j r s h k away v u calls → LeavesRun g j r s h k away v u (one_call key c)
  one_left calls begun it =
      subst (λ (l : List Call). LeavesRun g j r s h k away v u l) (one_is c key calls begun) it

-- the rows under one key can be read
pub read_under : (key : List ℕ) (t : Tables) → count_of t ≤ 100000 → AreWrittenUnder key t
    → AreReadUnderAll (key ∷ []) t
read_under key t few written = (
  few,
  λ k h. elim h [
    | inl same ↦ subst (λ (x : List ℕ). AreWrittenUnder x t) same written
    | inr none ↦ absurd none
  ],
)
