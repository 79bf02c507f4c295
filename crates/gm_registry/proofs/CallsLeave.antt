-- What a call that reads or writes leaves, over values of the registry.
use Rattle.gm_registry.proofs.Common.{◌≡◌, ◌∙◌, inl, inr, arith, ℕ, List, IsTrue, Result, Ok, Err, IfOk, IfErr, OnOk, OnErr, IsErrAnd, sym, ap, subst, Ghosts, Trees, Held, state, Row, Schema, Database, Error, understood, IsPlain, CommitsShowing, FailsToQuery, Shown, Survives, survives_then, failed_by, read_at_most, read_by, registry_schema, IsOurSchema, Tables, Holds}
use Rattle.gm_registry.specs.Registry as of
use Rattle.gm_registry.proofs.ReadsInTurn.{failed_leaves, nothing_new, sees_registry, tables_refused}

-- while a store is open, a crash leaves its last commit and nothing else
abbrev pub IsSettling : {S : Type 0} → Ghosts S → Type 0
IsSettling {S} g = (s : S) (db : Trees) → IsTrue (g.view s).is_open → g.recovers s db
    → db ≡ (g.view s).committed

-- a query of our tables, answered or not
module _ {S X : Type 0} (g : Ghosts S) (old new : Held S) (items : X → List Row) (sql : List ℕ)
    (params : Row) (plain : IsPlain (understood registry_schema sql))
    (left : Survives (state g old) (state g new) (CommitsShowing sql params (state g old))) where
  known_plain : (s : Schema) → IsOurSchema s → IsPlain (understood s sql)
  known_plain s is = subst (λ (x : Schema). IsPlain (understood x sql)) (sym is) plain

  pub query_read : (result : Result X Error) → (of.DiskKept g new
      → IfOk result (λ rows. Shown sql params (state g old) (state g new) (items rows)))
      → OnOk result (of.HasRead g old new)
  query_read (Ok rows) shown = read_by IsOurSchema sql params known_plain (state g old)
      (state g new) (items rows) shown left
  query_read (Err e) shown = tt

  pub query_failed : (result : Result X Error) → (of.DiskKept g new
      → IfErr result (FailsToQuery sql params (state g old) (state g new)))
      → OnErr result (of.HasFailed g old new)
  query_failed (Ok rows) fails = tt
  query_failed (Err e) fails = failed_by IsOurSchema sql params known_plain (state g old)
      (state g new) e fails left

module _ {S : Type 0} (g : Ghosts S) (settling : IsSettling g) where
  pub saved : (r : Held S) (t : Tables) → of.HasTables g r t → of.HasSaved g r t
  saved r t has = record {
    tables = has;
    crash = λ db left. subst (λ d. Holds d t) (sym (settling r.store db has.is_open left))
        has.tables;
  }

  -- a read of our tables that failed, or was answered
  pub failed_reads : (old new : Held S) → of.HasFailed g old new → of.Reads g old new
  failed_reads old new failed = record {
    kept = λ kept t was is. saved new t
        (tables_refused (state g old) (state g new) t failed kept was is);
    same = λ kept t was is.
        let then = tables_refused (state g old) (state g new) t failed kept was is in
        let stays = (failed_leaves (state g old) (state g new) failed
        (sees_registry (state g old) t was)).tables kept is in
        ap (λ (d : Database). d.trees) (then.settled ∙ (stays ∙ sym was.settled));
    left = λ t was. nothing_new (state g old) (state g new) t failed.left was;
    clean = failed.left.clean;
  }

  pub answered_reads : (old new : Held S) → of.HasRead g old new → of.Reads g old new
  answered_reads old new read =
      failed_reads old new (read_at_most IsOurSchema (state g old) (state g new) read)

  -- a query of them, answered or not
  pub query_reads : {X : Type 0} (old new : Held S) (result : Result X Error) (items : X → List Row)
      (sql : List ℕ) (params : Row) → IsPlain (understood registry_schema sql)
      → (of.DiskKept g new
      → IfOk result (λ rows. Shown sql params (state g old) (state g new) (items rows)))
      → (of.DiskKept g new
      → IfErr result (FailsToQuery sql params (state g old) (state g new)))
      → Survives (state g old) (state g new) (CommitsShowing sql params (state g old))
      → of.Reads g old new
  query_reads old new (Ok rows) items sql params plain shown fails left =
      answered_reads old new (query_read g old new items sql params plain left (Ok rows) shown)
  query_reads old new (Err e) items sql params plain shown fails left =
      failed_reads old new (query_failed g old new items sql params plain left (Err e) fails)

  -- a write, from what is known of it
  pub writes : {X E : Type 0} (old new : Held S) (result : Result X E) (after : Tables → Tables)
      → (of.DiskKept g new → OnOk result ((t : Tables) → of.HasTables g old t
      → of.HasTables g new (after t)))
      → of.Refuses g old new result → ((t : Tables) → of.HasTables g old t
      → of.MayLeave g old new (after t)) → of.WasClean g old new
      → of.Writes g old new result after
  writes old new (Ok x) after done refused left clean =
      record {
        done = λ kept t was. saved new (after t) (done kept t was);
        refused = λ kept. tt;
        left = left;
        clean = clean;
      }
  writes old new (Err e) after done refused left clean =
      record {
        done = λ kept. tt;
        refused = λ kept t was is. saved new t (refused kept t was is);
        left = left;
        clean = clean;
      }

-- an error that is passed on is no Ok
pub never_ok : {X E : Type 0} (result : Result X E) (P : E → Type 0) (Q : Type 0)
    → IsErrAnd result P → OnOk result Q
never_ok (Ok x) P Q none = absurd none
never_ok (Err e) P Q it = tt

-- a read, and then a write that asks for what the read found
then_left : {S : Type 0} (g : Ghosts S) (a b c : Held S) (t : Tables) (N : Type 0) (after : Tables)
    → of.Reads g a b → (of.DiskKept g b → of.HasTables g a t → N × of.HasTables g b t)
    → (of.HasTables g b t → N → of.MayLeave g b c after)
    → Survives (state g b) (state g c) (λ _. Unit {0}) → of.HasTables g a t
    → of.MayLeave g a c after
then_left g a b c t N after read found left survives was =
    let first = read.left t was in
    let all = survives_then (state g a) (state g b) (state g c) (λ _. ⊥) (λ _. Unit {0})
    (λ _. Unit {0}) (λ _ db none. absurd none) (λ clean db is. tt) first survives in
    record {
      clean = all.clean;
      shield = all.shield;
      counts = all.counts;
      limit = all.limit;
      closes = all.closes;
      crash = λ kept db there.
          let mid : of.DiskKept g b = omega (arith, survives.clean) in
          let it = found mid was in
          elim ((left it.1 it.0).crash kept db there) [
            | inl before ↦ elim (first.crash mid db before) [
              | inl at_first ↦ inl at_first
              | inr none
                  ↦ absurd none
            ]
            | inr new ↦ inr new
          ];
    }

module _ {S : Type 0} (g : Ghosts S) (settling : IsSettling g) (a b c : Held S)
    (N : Tables → Type 0) (after : Tables → Tables) (read : of.Reads g a b)
    (found : of.DiskKept g b → (t : Tables) → of.HasTables g a t → N t × of.HasTables g b t)
    (left : (t : Tables) → of.HasTables g b t → N t → of.MayLeave g b c (after t))
    (survives : Survives (state g b) (state g c) (λ _. Unit {0})) where
  clean_then : of.WasClean g a c
  clean_then = omega (arith, read.clean, survives.clean)

  pub then_writes : {X E : Type 0} (result : Result X E)
      → (of.DiskKept g c → OnOk result ((t : Tables) → of.HasTables g b t → N t
      → of.HasTables g c (after t)))
      → (of.DiskKept g c → OnErr result ((t : Tables) → of.HasTables g b t → N t → of.IsOpen g c
      → of.HasTables g c t)) → of.Writes g a c result after
  then_writes (Ok x) done refused = record {
    done = λ kept t was.
        let it = found (omega (arith, survives.clean)) t was in
        saved g settling c (after t) (done kept t it.1 it.0);
    refused = λ kept. tt;
    left = λ t was. then_left g a b c t (N t) (after t) read (λ kept is. found kept t is)
        (left t) survives was;
    clean = clean_then;
  }
  then_writes (Err e) done refused = record {
    done = λ kept. tt;
    refused = λ kept t was is.
        let it = found (omega (arith, survives.clean)) t was in
        saved g settling c t (refused kept t it.1 it.0 is);
    left = λ t was. then_left g a b c t (N t) (after t) read (λ kept is. found kept t is)
        (left t) survives was;
    clean = clean_then;
  }
