-- What a call leaves that asks the rules, and writes nothing.
use Rattle.gm_bench.proofs.Common.{◌≡◌, ◌∙◌, inl, inr, ℕ, List, subst, sym, arith, refl, Result, Ok, Err, IfOk, IfErr, OnOk, on_ok_weaker, Ghosts, Held, Trees, Image, Sizes, IsLawful, IsQuiet, quiet_itself, quiet_moment, Call, Intent, IsAtHand, Has, World, CrashLeaves, CrashLeavesOnly, DiskKept, HasTables, IsRegistry, LeavesAlone, LeavesNothingNew, WasClean, Reads, state, survives_then, BenchFault, Media, TakenUp, OrSteps, LeavesSteps, IsOfRegistry, OnlyLooksUp, StaysUnlost, AllLead, IsCarriedOut, IsShelfOf, Recovers, IsSettling, saved, Tables}
use Rattle.gm_shelf.specs.declared.shelf.Shelf.{Ghosts as ShelfGhosts}
use Rattle.gm_bench.proofs.RegistryLeaves.{leads_in}

-- a shelf that wasn't touched
pub quiet_same : {H : Type 0} (j : ShelfGhosts H) (h k : H) → k ≡ h
    → IsQuiet (j.view h) (j.view k)
quiet_same j h k same =
    subst (λ x. IsQuiet (j.view h) (j.view x)) (sym same) (quiet_itself (j.view h))

-- a bench whose intents are done, and whose shelf was only read
module _ {S H : Type 0} (g : Ghosts S) (j : ShelfGhosts H) (r : Held S) (h k : H)
    (away : Image) (ts : List Intent) (bytes : List (List ℕ)) (v u : World)
    (at : IsCarriedOut g j r h away ts bytes v u)
    (lawful : IsLawful (j.view h))
    (quiet : IsQuiet (j.view h) (j.view k)) (same : j.size k ≡ j.size h) where
  abbrev moments : AllLead at.tables ts bytes (j.size h) away
      ((j.view k).left_since (j.view h).moment) v u
  moments x left = at.leads x (quiet_moment (j.view h) (j.view k) lawful quiet x left)

  abbrev now : AllLead at.tables ts bytes (j.size h) away (j.view k).may_leave v u
  now x left = at.leads x (quiet.crash x left)

  -- the same tables
  abbrev pub still : (s : Held S) → HasTables g s at.tables → IsCarriedOut g j s k away ts bytes v u
  still s has = record {
    tables = at.tables;
    has = has;
    sizes = at.sizes ∙ sym same;
    at_hand = subst (λ (z : Sizes). (t : Intent) → Has ts t → IsAtHand z t) (sym same) at.at_hand;
    leads = subst (λ (z : Sizes). AllLead at.tables ts bytes z away (j.view k).may_leave v u)
        (sym same) now;
    shelf = subst (λ (z : Sizes). IsShelfOf (j.view k) u z) (sym same)
        (λ x left. at.shelf x (quiet.crash x left));
  }

  before_step : CrashLeavesOnly g r at.tables → (db : Trees) → CrashLeaves g r db
      → Recovers db (j.size h) away ((j.view k).left_since (j.view h).moment) v u
  before_step only =
      leads_in g j r h away at.tables ts bytes v u only
      ((j.view k).left_since (j.view h).moment) moments

  -- a registry that was only read
  pub unstepped : (s : Held S) (calls : List Call) → CrashLeavesOnly g r at.tables
      → DiskKept g s → LeavesNothingNew g r s → LeavesSteps g j r s h k away v u calls
  unstepped s calls only clean nothing = record {
    within = before_step only;
    end = λ db left. elim (nothing.crash clean db left) [
      | inl was ↦ inl (leads_in g j r h away at.tables ts bytes v u only
          (j.view k).may_leave now db was)
      | inr none ↦ absurd none
    ];
  }

  -- reads, and then more reads and a commit
  pub then_step : (mid s : Held S) (l : H) (calls : List Call)
      → IsQuiet (j.view h) (j.view l)
      → CrashLeavesOnly g r at.tables → LeavesSteps g j mid s k l away v u calls
      → LeavesSteps g j r s h l away v u calls
  then_step mid s l calls all only leaves = record {
    within = leads_in g j r h away at.tables ts bytes v u only
        ((j.view l).left_since (j.view h).moment)
        (λ x left. at.leads x (quiet_moment (j.view h) (j.view l) lawful all x left));
    end = λ db left.
        subst (λ (z : Sizes). OrSteps v u calls (λ x w. Recovers db z away (j.view l).may_leave x w))
        same
        (leaves.end db left);
  }

-- nothing was asked
pub unstepped_same : {S H : Type 0} (g : Ghosts S) (j : ShelfGhosts H) (r : Held S) (h : H)
    (away : Image) (ts : List Intent) (bytes : List (List ℕ)) (v u : World)
    (at : IsCarriedOut g j r h away ts bytes v u)
    (lawful : IsLawful (j.view h)) (calls : List Call) → CrashLeavesOnly g r at.tables
    → LeavesSteps g j r r h h away v u calls
unstepped_same g j r h away ts bytes v u at lawful calls only = record {
  within = leads_in g j r h away at.tables ts bytes v u only
      ((j.view h).left_since (j.view h).moment)
      (λ x left. at.leads x (lawful.only_now x left));
  end = λ db left. inl (leads_in g j r h away at.tables ts bytes v u only
      (j.view h).may_leave at.leads db left);
}

-- what is answered at Ok, in other words
pub ok_then : {X E : Type 0} (P Q : X → Type 0) → ((x : X) → P x → Q x) → (r : Result X E)
    → IfOk r P → IfOk r Q
ok_then P Q f (Ok x) p = f x p
ok_then P Q f (Err e) p = tt

-- both are answered at Ok
pub ok_and : {X E : Type 0} (P Q : X → Type 0) (r : Result X E) → IfOk r P → IfOk r Q
    → IfOk r (λ x. P x × Q x)
ok_and P Q (Ok x) p q = (p, q)
ok_and P Q (Err e) p q = tt

-- two reads, one after the other
pub nothing_then : {S : Type 0} (g : Ghosts S) (r mid s : Held S) → LeavesNothingNew g r mid
    → LeavesNothingNew g mid s → LeavesNothingNew g r s
nothing_then g r mid s first second =
    survives_then (state g r) (state g mid) (state g s) (λ _. ⊥) (λ _. ⊥) (λ _. ⊥) (λ _ db f. f)
    (λ _ db f. f) first second

-- a registry that was left alone, and then again
pub alone_then : {S : Type 0} (g : Ghosts S) (r mid s : Held S) → IsRegistry g mid
    → WasClean g mid s → LeavesAlone g r mid → LeavesAlone g mid s → LeavesAlone g r s
alone_then g r mid s is clean first second = record {
  tables = λ kept is_open. second.tables kept is_open
      ∙ first.tables (omega (arith, clean, kept)) is.is_open;
  crash = nothing_then g r mid s first.crash second.crash;
}

-- what only looked a loss up left all that a refusal of it leaves
pub unlost_looked : {S H T : Type 0} (g : Ghosts S) (old new : Media S H)
    (looked : Result T BenchFault)
    → OnlyLooksUp g old new looked → (result : Result TakenUp BenchFault)
    → StaysUnlost g old new result
unlost_looked g old new looked looks result = record {
  shelf = λ before. looks.shelf;
  registry = λ clean before. looks.untouched clean;
}

-- a read, and then another, of a registry that keeps its tables in between
pub reads_then : {S : Type 0} (g : Ghosts S) (r mid s : Held S)
    → ((t : Tables) → HasTables g r t → HasTables g mid t) → Reads g r mid → Reads g mid s
    → Reads g r s
reads_then g r mid s has first second = record {
  kept = λ clean t h is_open. second.kept clean t (has t h) is_open;
  same = λ clean t h is_open.
      let early : DiskKept g mid = omega (arith, second.clean, clean) in
      second.same clean t (has t h) is_open ∙ first.same early t h (has t h).is_open;
  left = λ t h. nothing_then g r mid s (first.left t h) (second.left t (has t h));
  clean = let one = first.clean in
      let two = second.clean in omega (arith, one, two);
}

-- a read that leaves the shelf, and then a look for a loss
pub looks_then : {S H T U : Type 0} (g : Ghosts S) (old mid new : Media S H)
    (looked : Result T BenchFault) (result : Result U BenchFault) → mid.shelf ≡ old.shelf
    → Reads g old.registry mid.registry → OnlyLooksUp g mid new looked
    → (DiskKept g mid.registry → (t : Tables) → HasTables g old.registry t
    → HasTables g mid.registry t)
    → (IsRegistry g old.registry → LeavesAlone g old.registry mid.registry)
    → (DiskKept g mid.registry → IsRegistry g old.registry → IsRegistry g mid.registry)
    → (DiskKept g new.registry → OnOk result (IsRegistry g mid.registry
    → IsRegistry g new.registry)) → IfErr result IsOfRegistry → OnlyLooksUp g old new result
looks_then g old mid new looked result shelf reads looks has left is still fault = record {
  shelf = looks.shelf ∙ shelf;
  clean = let one = reads.clean in
      let two = looks.clean in omega (arith, one, two);
  reads = λ clean.
      let early : DiskKept g mid.registry = omega (arith, looks.clean, clean) in
      reads_then g old.registry mid.registry new.registry (has early) reads (looks.reads clean);
  untouched = λ clean was.
      let early : DiskKept g mid.registry = omega (arith, looks.clean, clean) in
      alone_then g old.registry mid.registry new.registry (is early was) looks.clean (left was)
      (looks.untouched clean (is early was));
  still = λ clean.
      let early : DiskKept g mid.registry = omega (arith, looks.clean, clean) in
      on_ok_weaker result (λ goes was. goes (is early was)) (still clean);
  fault = fault;
}

-- a registry that wasn't asked for anything
nothing_none : {S : Type 0} (g : Ghosts S) (r : Held S) → LeavesNothingNew g r r
nothing_none g r = record {
  clean = omega arith;
  shield = λ is. is;
  counts = omega arith;
  limit = refl;
  closes = λ _ is. inl is;
  crash = λ _ db left. inl left;
}

pub alone_none : {S : Type 0} (g : Ghosts S) (r : Held S) → LeavesAlone g r r
alone_none g r = record { tables = λ kept is_open. refl; crash = nothing_none g r }

pub reads_none : {S : Type 0} (g : Ghosts S) → IsSettling g → (r : Held S) → Reads g r r
reads_none g settling r = record {
  kept = λ clean t h is_open. saved g settling r t h;
  same = λ clean t h is_open. refl;
  left = λ t h. nothing_none g r;
  clean = omega arith;
}
