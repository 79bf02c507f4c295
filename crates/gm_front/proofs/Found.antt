-- What a bench at rest shows is the world's.
use Rattle.gm_front.proofs.Common.{◌≡◌, [], ap, subst, Option, Some, Result, Ok, Err, OnOk, Ghosts, Held, Image, IsLawful, World, AreRecordsOf, AreTablesOf, DiskKept, Bench, BenchFault, Store, Unreadable, registry_of, shelf_of, LooksOn, whole, LookDoes, IsAt, LeavesOnly, looked_at, tables_of, Demand, Fails, LeavesDemand}
use Rattle.sqlite_trees.specs.declared.store.Store.{Ghosts as StoreGhosts}
use Rattle.gm_shelf.specs.declared.shelf.Shelf.{Ghosts as ShelfGhosts}
use Rattle.gm_bench.proofs.CarriedOut.{done_at_rest}
use Rattle.gm_bench.proofs.GatheredFacts.{are_records}

module _ {S H : Type 0} (g : Ghosts S) (j : ShelfGhosts H) (r : Held S) (h : H)
    (away : Image) (u : World) (at : IsAt g j r h away [] [] u u)
    (lawful : IsLawful (j.view h)) where
  -- what the tables of mirrors and components say are the records
  pub records_shown : AreRecordsOf at.tables u.state
  records_shown = are_records g j r h away [] [] u u (done_at_rest g j r h away u at) lawful

  -- and nothing is pending
  pub tables_shown : AreTablesOf at.tables u.state [] []
  tables_shown = tables_of at.tables [] [] (whole (j.size h) away (j.view h).seen) u
      (at.leads (j.view h).seen lawful.holds_now).0

-- the fault that is told of a result that failed is its own
pub store_of : {T : Type 0} (fault : BenchFault)
    → ◌≡◌ {A = Option BenchFault} (Some fault) (Some Store)
    → ◌≡◌ {A = Result T BenchFault} (Err fault) (Err Store)
store_of fault is = let same : fault ≡ Store = cc in ap Err same

-- A look at a bench at rest: the bench stays so, and if it failed, what it left leads on.
module _ {S H T : Type 0} (s : StoreGhosts S) (h : ShelfGhosts H) (old new : Bench S H)
    (result : Result T BenchFault) (looks : LooksOn s h old new result)
    (honest : h.honest (shelf_of old)) (kept : DiskKept s (registry_of new)) (away : Image)
    (u : World)
    (at : IsAt s h (registry_of old) (shelf_of old) away [] [] u u) where
  pub stays_at_rest : (x : T) → result ≡ Ok x
      → IsAt s h (registry_of new) (shelf_of new) away [] [] u u
  stays_at_rest x is =
      looked_at s h (registry_of old) (registry_of new) (shelf_of old) (shelf_of new) away [] [] u u
      (let P : Result T BenchFault → Type 0 = λ r. OnOk r (LookDoes s h
      (registry_of old) (registry_of new) (shelf_of old) (shelf_of new)) in
      subst P is (looks.does honest kept)) at

  pub look_fails : (demand : Demand) (fault : BenchFault)
      → (LeavesOnly s h (registry_of old) (registry_of new) (shelf_of old) (shelf_of new) away u u
      → LeavesDemand s h (registry_of old) (registry_of new) (shelf_of old)
      (shelf_of new) away u demand)
      → result ≡ Err fault → (fault ≡ Unreadable → ⊥)
      → Fails s h (registry_of old) (registry_of new) (shelf_of old) (shelf_of new)
      away u demand fault
  look_fails demand fault look is readable = record {
    left = look (looks.leaves honest kept away [] [] u u at);
    disk = λ e. looks.disk (rw is (ap Err e));
    readable = λ e found written. readable e;
  }
