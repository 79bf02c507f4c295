-- The faults of calls in turn are those of the call that failed.
use Rattle.gm_sync.proofs.Common.{◌≡◌, ◌∙◌, Bool, true, false, refl, sym, ap, arith, [], Result, Err, IfErr, Held, state, Command, DiskKept, registry_of, shelf_of, ClosesOnFault, Keep, LooksOn, TellsOfRecords, TellsStore, Bench, BenchFault, Absent, Closed, Disk, Memory, Store, done_at_rest, FailsAsCalls, Fills, PassedOver, PassesByAudit, Scope}
use Rattle.sqlite_trees.specs.declared.store.Store.{Ghosts as StoreGhosts}
use Rattle.gm_shelf.specs.declared.shelf.Shelf.{Ghosts as ShelfGhosts}
use Rattle.gm_registry.proofs.ReadsInTurn.{sees_registry}

module _ {S H : Type 0} (g : StoreGhosts S) (h : ShelfGhosts H) where
  -- a look that failed
  pub look_fails : (a b : Bench S H) {T : Type 0} (r : Result T BenchFault) (fault : BenchFault)
      → r ≡ Err fault → LooksOn g h a b r → ClosesOnFault a b r
      → TellsStore g (registry_of a) (registry_of b) r → FailsAsCalls g h a b fault
  look_fails a b r fault is looks closes store = record {
    reopen = λ e. closes.reopen (is ∙ ap Err e);
    absent = λ p e. closes.absent p (is ∙ ap Err e);
    disk = λ honest kept away u at e. looks.disk (is ∙ ap Err e);
    store = λ honest kept away u at e. record {
      before = a;
      earlier = u;
      world = u;
      intents = [];
      bytes = [];
      at = done_at_rest g h (registry_of a) (shelf_of a) away u at;
      failed = λ room. store kept (is ∙ ap Err e) at.tables at.has;
    };
  }

  -- what is told by the rows of records is told by tables
  pub store_of_records : (r s : Held S) {T : Type 0} {result : Result T BenchFault}
      → TellsOfRecords g r s result → TellsStore g r s result
  store_of_records r s told = λ kept is t has.
      told.store kept is (sees_registry (state g r) t has)

  -- want of memory closes nothing
  pub memory_fails : (a b : Bench S H) → FailsAsCalls g h a b Memory
  memory_fails a b = record {
    reopen = λ e. absurd (let no : Memory ≡ Closed = e in cc);
    absent = λ p e. absurd (let no : Memory ≡ Absent p = e in cc);
    disk = λ honest kept away u at e. absurd (let no : Memory ≡ Disk = e in cc);
    store = λ honest kept away u at e. absurd (let no : Memory ≡ Store = e in cc);
  }

  -- a call that failed after others that filled
  pub fails_then : (Fit : Command → Type 0) (a b c : Bench S H) (fault : BenchFault)
      → Fills g h Fit a b → Keep g h (registry_of b) (registry_of c) (shelf_of b) (shelf_of c)
      → FailsAsCalls g h b c fault → FailsAsCalls g h a c fault
  fails_then Fit a b c fault first keep then = record {
    reopen = λ e. sym first.stays ∙ then.reopen e;
    absent = then.absent;
    disk = λ honest kept away u at e.
        let mid : DiskKept g (registry_of b) = omega (arith, keep.clean, kept) in
        let filled = first.does honest mid away u at in
        let more = then.disk (first.keep.shelf.honest honest) kept away filled.world filled.at e in
        omega (arith, first.keep.shelf.count, more);
    store = λ honest kept away u at e.
        let mid : DiskKept g (registry_of b) = omega (arith, keep.clean, kept) in
        let filled = first.does honest mid away u at in
        then.store (first.keep.shelf.honest honest) kept away filled.world filled.at e;
  }

-- the fault of a result that failed
pub told : {U : Type 0} (P : BenchFault → Type 0) (r : Result U BenchFault) (fault : BenchFault)
    → r ≡ Err fault → P fault → IfErr r P
told P r fault is holds = rw is holds

-- what is owed with an audit and without one
pub by_audit : {S H : Type 0} (g : StoreGhosts S) (h : ShelfGhosts H) (a b : Bench S H)
    (scope : Scope) (passed : PassedOver) (audits : Bool)
    → (audits ≡ true → PassesByAudit g h a b scope true passed)
    → (audits ≡ false → PassesByAudit g h a b scope false passed)
    → PassesByAudit g h a b scope audits passed
by_audit g h a b scope passed true asked unasked = asked refl
by_audit g h a b scope passed false asked unasked = unasked refl
