-- What a look leaves: a call that reads both media and writes neither.
use Rattle.gm_bench.proofs.Common.{◌≡◌, ◌∙◌, ℕ, List, Result, Ok, Err, refl, sym, subst, arith, IsErrOf, OnOk, Ghosts, Held, Has, Image, Sizes, IsLawful, IsQuiet, Looks, ReadsOnly, ShelfFault, quiet_itself, quiet_moment, reads_itself, only_then, Intent, IsAtHand, Tables, World, DiskKept, HasTables, Reads, IsSettling, saved, progress_of, registry_of, shelf_of, LooksOn, TellsDisk, AllLead, LookDoes, LookLeaves, IsAt, Bench, BenchFault, of_shelf, Closed, Disk, Memory}
use Rattle.gm_shelf.specs.declared.fault.ShelfFault.TheVariants as shelf
use Rattle.gm_shelf.specs.declared.shelf.Shelf.{Ghosts as ShelfGhosts}
use Rattle.gm_bench.proofs.DecidesOnly.{reads_none}
use Rattle.gm_bench.proofs.RegistryLeaves.{read_only}

module _ {S H : Type 0} (g : Ghosts S) (j : ShelfGhosts H) (r s : Held S) (h k : H)
    (quiet : IsQuiet (j.view h) (j.view k)) where
  -- wherever it is stopped
  pub look_leaves : IsSettling g → IsLawful (j.view h) → DiskKept g s → Reads g r s
      → LookLeaves g j r s h k
  look_leaves settling lawful clean reads away ts bytes u w at =
      read_only g j r s h k away at.tables ts bytes u w
      (saved g settling r at.tables at.has).crash clean
      (reads.left at.tables at.has)
      (λ x l. at.leads x (quiet_moment (j.view h) (j.view k) lawful quiet x l))
      (λ x l. at.leads x (quiet.crash x l))

  -- if it ended well
  pub look_does : ((t : Tables) → HasTables g r t → HasTables g s t) → j.size k ≡ j.size h
      → LookDoes g j r s h k
  look_does tables sizes = record { tables = tables; images = quiet.crash; sizes = sizes }

module _ {S H : Type 0} (g : Ghosts S) (j : ShelfGhosts H) where
  -- after a look, a bench is where it was before
  abbrev pub looked_at : (r s : Held S) (h k : H) (away : Image) (ts : List Intent)
      (bytes : List (List ℕ)) (u w : World)
      → LookDoes g j r s h k → IsAt g j r h away ts bytes u w
      → IsAt g j s k away ts bytes u w
  looked_at r s h k away ts bytes u w does at = record {
    tables = at.tables;
    has = does.tables at.tables at.has;
    sizes = at.sizes ∙ sym does.sizes;
    at_hand = subst (λ (z : Sizes). (t : Intent) → Has ts t
        → IsAtHand z t) (sym does.sizes) at.at_hand;
    leads = subst (λ (z : Sizes). AllLead at.tables ts bytes z away (j.view k).may_leave u w)
        (sym does.sizes) (λ x l. at.leads x (does.images x l));
  }

-- ---- a look of both media, as a call of the bench

-- nothing is read
only_itself : {H : Type 0} (h : ShelfGhosts H) (k : H) → ReadsOnly h k k
only_itself h k = record {
  keeps = record { honest = λ honest. honest; size = refl; count = omega arith };
  reads = λ honest. reads_itself (h.view k);
}

on_ok : {T E A B : Type 0} (r : Result T E) → OnOk r A → (A → B) → OnOk r B
on_ok (Ok x) a f = f a
on_ok (Err e) a f = tt

module _ {S H T : Type 0} (s : Ghosts S) (h : ShelfGhosts H) (settling : IsSettling s)
    (a c : Bench S H) (result : Result T BenchFault)
    (lawful : h.honest (shelf_of a) → IsLawful (h.view (shelf_of a))) where
  looks_by : OnOk result (progress_of c ≡ progress_of a)
      → Reads s (registry_of a) (registry_of c) → ReadsOnly h (shelf_of a) (shelf_of c)
      → TellsDisk h (shelf_of a) (shelf_of c) result
      → (h.honest (shelf_of a) → DiskKept s (registry_of c) → OnOk result ((t : Tables)
      → HasTables s (registry_of a) t → HasTables s (registry_of c) t))
      → LooksOn s h a c result
  looks_by stays reads only disk tables = record {
    stays = stays;
    does = λ honest clean. on_ok result (tables honest clean)
        (λ tables. look_does s h (registry_of a) (registry_of c) (shelf_of a)
        (shelf_of c) (only.reads honest).quiet tables only.keeps.size);
    leaves = λ honest clean. look_leaves s h (registry_of a) (registry_of c)
        (shelf_of a) (shelf_of c) (only.reads honest).quiet settling (lawful honest) clean
        reads;
    store = reads;
    only = only;
    disk = disk;
  }

  -- at the registry alone
  pub looks_at_registry : OnOk result (progress_of c ≡ progress_of a)
      → Reads s (registry_of a) (registry_of c) → shelf_of c ≡ shelf_of a
      → (IsErrOf result Disk → ⊥)
      → (DiskKept s (registry_of c) → OnOk result ((t : Tables)
      → HasTables s (registry_of a) t → HasTables s (registry_of c) t))
      → LooksOn s h a c result
  looks_at_registry stays reads same no_disk tables =
      looks_by stays reads (subst (λ (k : H). ReadsOnly h (shelf_of a) k) (sym same)
      (only_itself h (shelf_of a))) (λ is. absurd (no_disk is)) (λ honest clean. tables clean)

  -- at the shelf alone
  pub looks_at_shelf : OnOk result (progress_of c ≡ progress_of a)
      → registry_of c ≡ registry_of a → ReadsOnly h (shelf_of a) (shelf_of c)
      → TellsDisk h (shelf_of a) (shelf_of c) result → LooksOn s h a c result
  looks_at_shelf stays same only disk =
      looks_by stays (subst (λ (r : Held S). Reads s (registry_of a) r) (sym same)
      (reads_none s settling (registry_of a))) only disk
      (λ honest clean. on_ok result stays (λ e t has.
      subst (λ (r : Held S). HasTables s r t) (sym same) has))

  -- at the registry, and then at the shelf
  pub looks_at_both : {U : Type 0} (b : Bench S H) (state : U) → LooksOn s h a b (Ok state)
      → OnOk result (progress_of c ≡ progress_of b) → registry_of c ≡ registry_of b
      → ReadsOnly h (shelf_of b) (shelf_of c) → TellsDisk h (shelf_of b) (shelf_of c) result
      → LooksOn s h a c result
  looks_at_both b state first stays same only disk =
      let reads = subst (λ (r : Held S). Reads s (registry_of a) r) (sym same) first.store in
      looks_by (on_ok result stays (λ e. e ∙ first.stays)) reads
      (only_then h (shelf_of a) (shelf_of b) (shelf_of c) first.only only)
      (λ is. omega (arith, first.only.keeps.count, disk is))
      (λ honest clean. on_ok result stays (λ e t has.
      subst (λ (r : Held S). HasTables s r t) (sym same)
      ((first.does honest (subst (DiskKept s) same clean)).tables t has)))

-- a fault of the disk is one of the device, which was counted
module _ {H T U : Type 0} (h : ShelfGhosts H) (b c : H) (r : Result T ShelfFault)
    (told : Result U BenchFault) where
  pub shelf_disk : (fault : ShelfFault) → r ≡ Err fault → told ≡ Err (of_shelf fault)
      → Looks h b c r → TellsDisk h b c told
  shelf_disk shelf.Memory was e looks is =
      let both : ◌≡◌ {A = Result U BenchFault} (Err Memory) (Err Disk) = sym e ∙ is in
      absurd (let no : ⊥ = cc in no)
  shelf_disk shelf.Absent was e looks is = absurd (looks.absent was)
  shelf_disk shelf.Range was e looks is = absurd (looks.range was)
  shelf_disk shelf.Device was e looks is = looks.device was

-- ---- one at a closed bench

not_ok : {T : Type 0} (r : Result T BenchFault) (P : Type 0) → IsErrOf r Closed → OnOk r P
not_ok (Ok x) P is = absurd (let no : ⊥ = cc in no)
not_ok (Err e) P is = tt

other_fault : {T : Type 0} (r : Result T BenchFault) (fault : BenchFault) → IsErrOf r Closed
    → IsErrOf r fault → Closed ≡ fault
other_fault {T} r fault is other =
    let both : ◌≡◌ {A = Result T BenchFault} (Err Closed) (Err fault) = sym is ∙ other in cc

module _ {S H T : Type 0} (s : Ghosts S) (h : ShelfGhosts H) (settling : IsSettling s)
    (b : Bench S H) (result : Result T BenchFault) (is : IsErrOf result Closed) where
  pub closed_looks : (h.honest (shelf_of b) → IsLawful (h.view (shelf_of b)))
      → LooksOn s h b b result
  closed_looks lawful = record {
    stays = not_ok result _ is;
    does = λ honest clean. not_ok result _ is;
    leaves = λ honest clean. look_leaves s h (registry_of b) (registry_of b)
        (shelf_of b) (shelf_of b) (quiet_itself (h.view (shelf_of b))) settling (lawful honest)
        clean (reads_none s settling (registry_of b));
    store = reads_none s settling (registry_of b);
    only = only_itself h (shelf_of b);
    disk = λ disk. absurd (let no : Closed ≡ Disk = other_fault result Disk is disk in cc);
  }
