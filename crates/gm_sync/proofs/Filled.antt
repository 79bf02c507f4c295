-- Calls that fill, one after the other.
use Rattle.gm_sync.proofs.Common.{◌≡◌, ◌∙◌, refl, arith, List, [], ◌++◌, Result, Ok, Image, IsLawful, Command, Records, World, Call, AreRecordsOf, DiskKept, progress_of, registry_of, shelf_of, Keep, LooksOn, LookDoes, IsAt, BenchFault, Bench, done_at_rest, CallRefusal, ℕ, ◌+◌, ◌≤◌, length, Due, Fills, FillsBy, FillsSo, IsRefusedIn, IsFilledFrom, IsWhole, Refuses, calls_in}
use Rattle.sqlite_trees.specs.declared.store.Store.{Ghosts as StoreGhosts}
use Rattle.gm_shelf.specs.declared.shelf.Shelf.{Ghosts as ShelfGhosts}
use Rattle.gm_shelf.proofs.Keeping.{keeps_then}
use Rattle.gm_bench.proofs.Looks.{looked_at}
use Rattle.gm_bench.proofs.GatheredFacts.{are_records}
use Rattle.gm_sync.proofs.Series.{both_fill, count_append, each_too, none_fills, run_then}

module _ {S H : Type 0} (g : StoreGhosts S) (h : ShelfGhosts H) where
  pub keep_then : (a b c : Bench S H)
      → Keep g h (registry_of a) (registry_of b) (shelf_of a) (shelf_of b)
      → Keep g h (registry_of b) (registry_of c) (shelf_of b) (shelf_of c)
      → Keep g h (registry_of a) (registry_of c) (shelf_of a) (shelf_of c)
  keep_then a b c first then = record {
    shelf = keeps_then h (shelf_of a) (shelf_of b) (shelf_of c) first.shelf then.shelf;
    clean = omega (arith, first.clean, then.clean);
  }

  pub keep_none : (a : Bench S H)
      → Keep g h (registry_of a) (registry_of a) (shelf_of a) (shelf_of a)
  keep_none a = record {
    shelf = record { honest = λ x. x; size = refl; count = omega arith };
    clean = omega arith;
  }

  pub look_keeps : (a b : Bench S H) {T : Type 0} {result : Result T BenchFault}
      → LooksOn g h a b result
      → Keep g h (registry_of a) (registry_of b) (shelf_of a) (shelf_of b)
  look_keeps a b looks =
      record { shelf = looks.only.keeps; clean = looks.store.clean }

  -- at rest the tables are those of the world's records
  pub tables_at_rest : (b : Bench S H) (away : Image) (w : World)
      (at : IsAt g h (registry_of b) (shelf_of b) away [] [] w w)
      → IsLawful (h.view (shelf_of b)) → AreRecordsOf at.tables w.state
  tables_at_rest b away w at lawful =
      are_records g h (registry_of b) (shelf_of b) away [] [] w w
      (done_at_rest g h (registry_of b) (shelf_of b) away w at) lawful

  -- no look
  pub look_none : (a : Bench S H)
      → LookDoes g h (registry_of a) (registry_of a) (shelf_of a) (shelf_of a)
  look_none a = record { tables = λ t has. has; images = λ x may. may; sizes = refl }

  -- looks in turn
  pub look_then : (a b c : Bench S H)
      → LookDoes g h (registry_of a) (registry_of b) (shelf_of a) (shelf_of b)
      → LookDoes g h (registry_of b) (registry_of c) (shelf_of b) (shelf_of c)
      → LookDoes g h (registry_of a) (registry_of c) (shelf_of a) (shelf_of c)
  look_then a b c first then = record {
    tables = λ t has. then.tables t (first.tables t has);
    images = λ x may. first.images x (then.images x may);
    sizes = then.sizes ∙ first.sizes;
  }

-- Calls that run commands that fit, whatever is asked of these.
module _ {S H : Type 0} (g : StoreGhosts S) (h : ShelfGhosts H) (Fit : Command → Type 0) where
  pub fills_none : (a : Bench S H) → Fills g h Fit a a
  fills_none a = record {
    stays = refl;
    keep = keep_none g h a;
    does = λ honest kept away u at. record {
      handed = [];
      world = u;
      run = refl;
      fill = none_fills Fit;
      at = at;
    };
  }

  abbrev pub filled_then : (b c : Bench S H) (away : Image) (u : World)
      (one : IsFilledFrom g h Fit b away u) → IsFilledFrom g h Fit c away one.world
      → IsFilledFrom g h Fit c away u
  filled_then b c away u one two = record {
    handed = one.handed ++ two.handed;
    world = two.world;
    run = run_then u one.handed one.world two.handed two.world one.run two.run;
    fill = both_fill Fit one.handed two.handed one.fill two.fill;
    at = two.at;
  }

  pub fills_then : (a b c : Bench S H) → Fills g h Fit a b → Fills g h Fit b c → Fills g h Fit a c
  fills_then a b c first then = record {
    stays = then.stays ∙ first.stays;
    keep = keep_then g h a b c first.keep then.keep;
    does = λ honest kept away u at.
        let clean : DiskKept g (registry_of b) = omega (arith, then.keep.clean, kept) in
        let one = first.does honest clean away u at in
        filled_then b c away u one
        (then.does (first.keep.shelf.honest honest) kept away one.world one.at);
  }

  -- what holds of the series of two in turn, and of the world that they reach
  pub so_then : (P Q R : List (List Call) → World → Type 0)
      → ((xs ys : List (List Call)) (v w : World) → P xs v → Q ys w → R (xs ++ ys) w)
      → (a b c : Bench S H)
      → Keep g h (registry_of a) (registry_of b) (shelf_of a) (shelf_of b)
      → Keep g h (registry_of b) (registry_of c) (shelf_of b) (shelf_of c)
      → FillsSo g h Fit P a b → FillsSo g h Fit Q b c → FillsSo g h Fit R a c
  so_then P Q R both a b c keep then_keep first then = λ honest kept away u at.
      let clean : DiskKept g (registry_of b) = omega (arith, then_keep.clean, kept) in
      let one = first honest clean away u at in
      let two = then (keep.shelf.honest honest) kept away one.0.world one.0.at in (
        filled_then b c away u one.0 two.0,
        both one.0.handed two.0.handed one.0.world two.0.world one.1 two.1,
      )

  -- a call that was refused after others that filled
  pub refuses_then : (Next : Command → Type 0) (a b c : Bench S H) (why : CallRefusal)
      → Fills g h Fit a b → Keep g h (registry_of b) (registry_of c) (shelf_of b) (shelf_of c)
      → Refuses g h Fit Next b c why → Refuses g h Fit Next a c why
  refuses_then Next a b c why first keep refuses =
      so_then (λ handed w. Unit {0}) (λ handed w. IsRefusedIn Next w why)
      (λ handed w. IsRefusedIn Next w why) (λ xs ys v w some is. is) a b c first.keep keep
      (λ honest kept away u at. (first.does honest kept away u at, tt)) refuses

  -- so many calls, and then so many more
  pub by_then : (a b c : Bench S H) (n m : ℕ)
      → Keep g h (registry_of a) (registry_of b) (shelf_of a) (shelf_of b)
      → Keep g h (registry_of b) (registry_of c) (shelf_of b) (shelf_of c)
      → FillsBy g h Fit a b n → FillsBy g h Fit b c m → FillsBy g h Fit a c (n + m)
  by_then a b c n m keep then_keep first then =
      so_then (λ handed w. n ≤ length (calls_in handed)) (λ handed w. m ≤ length (calls_in handed))
      (λ handed w. n + m ≤ length (calls_in handed))
      (λ xs ys v w some more. omega (arith, count_append xs ys, some, more)) a b c keep then_keep
      first then

  -- at least none
  pub by_none : (a b : Bench S H) → Fills g h Fit a b → FillsBy g h Fit a b 0
  by_none a b fills = λ honest kept away u at. (fills.does honest kept away u at, omega arith)

  -- so many calls after others that filled
  pub by_behind : (a b c : Bench S H) (n : ℕ) → Fills g h Fit a b
      → Keep g h (registry_of b) (registry_of c) (shelf_of b) (shelf_of c)
      → FillsBy g h Fit b c n → FillsBy g h Fit a c n
  by_behind a b c n first keep then =
      so_then (λ handed w. Unit {0}) (λ handed w. n ≤ length (calls_in handed))
      (λ handed w. n ≤ length (calls_in handed))
      (λ xs ys v w some many. omega (arith, count_append xs ys, many)) a b c first.keep keep
      (λ honest kept away u at. (first.does honest kept away u at, tt)) then

  -- fewer
  pub by_fewer : (a b : Bench S H) (n m : ℕ) → n ≤ m → FillsBy g h Fit a b m → FillsBy g h Fit a b n
  by_fewer a b n m few by = λ honest kept away u at.
      let it = by honest kept away u at in
      let many = it.1 in (it.0, omega (arith, few, many))

  -- a look runs nothing
  pub fills_look : (a b : Bench S H) → progress_of b ≡ progress_of a
      → Keep g h (registry_of a) (registry_of b) (shelf_of a) (shelf_of b)
      → (h.honest (shelf_of a) → DiskKept g (registry_of b)
      → LookDoes g h (registry_of a) (registry_of b) (shelf_of a) (shelf_of b))
      → Fills g h Fit a b
  fills_look a b stays keep does = record {
    stays = stays;
    keep = keep;
    does = λ honest kept away u at. record {
      handed = [];
      world = u;
      run = refl;
      fill = none_fills Fit;
      at = looked_at g h (registry_of a) (registry_of b) (shelf_of a) (shelf_of b)
          away [] [] u u (does honest kept) at;
    };
  }

  -- and a look after it
  pub fills_looked : (a b c : Bench S H) {T : Type 0} (x : T) → Fills g h Fit a b
      → LooksOn g h b c (Ok x) → Fills g h Fit a c
  fills_looked a b c x fills looks = fills_then a b c fills
      (fills_look b c looks.stays (look_keeps g h b c looks) looks.does)

  -- after a look the bench has come from rest as it had before it
  abbrev pub filled_look : (b c : Bench S H) (away : Image) (u : World)
      → LookDoes g h (registry_of b) (registry_of c) (shelf_of b) (shelf_of c)
      → IsFilledFrom g h Fit b away u → IsFilledFrom g h Fit c away u
  filled_look b c away u does filled = record {
    handed = filled.handed;
    world = filled.world;
    run = filled.run;
    fill = filled.fill;
    at = looked_at g h (registry_of b) (registry_of c) (shelf_of b) (shelf_of c) away []
        [] filled.world filled.world does filled.at;
  }

  pub by_looked : (a b c : Bench S H) {T : Type 0} (x : T) (n : ℕ)
      → Keep g h (registry_of a) (registry_of b) (shelf_of a) (shelf_of b)
      → FillsBy g h Fit a b n → LooksOn g h b c (Ok x) → FillsBy g h Fit a c n
  by_looked a b c x n keep by looks = λ honest kept away u at.
      let mid : DiskKept g (registry_of b) = omega (arith, looks.store.clean, kept) in
      let it = by honest mid away u at in
      (filled_look b c away u (looks.does (keep.shelf.honest honest) kept) it.0, it.1)

  -- what fits one way fits another way that asks for less
  abbrev pub filled_too : (More : Command → Type 0) → ((c : Command) → Fit c → More c)
      → (b : Bench S H) (away : Image) (u : World)
      → IsFilledFrom g h Fit b away u → IsFilledFrom g h More b away u
  filled_too More then b away u filled = record {
    handed = filled.handed;
    world = filled.world;
    run = filled.run;
    fill = each_too Fit More then filled.handed filled.fill;
    at = filled.at;
  }

  pub fills_too : (More : Command → Type 0) → ((c : Command) → Fit c → More c) → (a b : Bench S H)
      → Fills g h Fit a b → Fills g h More a b
  fills_too More then a b fills = record {
    stays = fills.stays;
    keep = fills.keep;
    does = λ honest kept away u at.
        filled_too More then b away u (fills.does honest kept away u at);
  }

  -- so does what holds of the series and the world
  pub so_too : (More : Command → Type 0) (P Q : List (List Call) → World → Type 0)
      → ((c : Command) → Fit c → More c)
      → ((xs : List (List Call)) (w : World) → P xs w → Q xs w)
      → (a b : Bench S H) → FillsSo g h Fit P a b → FillsSo g h More Q a b
  so_too More P Q then other a b so = λ honest kept away u at.
      let it = so honest kept away u at in
      (filled_too More then b away u it.0, other it.0.handed it.0.world it.1)

-- a call that is refused and fits one way fits another way that asks for less
pub refused_in_too : (Next Other : Command → Type 0) → ((c : Command) → Next c → Other c)
    → (w : World) (why : CallRefusal) → IsRefusedIn Next w why → IsRefusedIn Other w why
refused_in_too Next Other then w why it =
    record { call = it.call; fit = then it.call.command it.fit; calls = it.calls }

-- What is whole by a call after a look is whole by both.
module _ {S H : Type 0} (g : StoreGhosts S) (h : ShelfGhosts H) (a b c : Bench S H) (due : Due)
    (state : Records) where
  pub whole_behind : Keep g h (registry_of a) (registry_of b) (shelf_of a) (shelf_of b)
      → Keep g h (registry_of b) (registry_of c) (shelf_of b) (shelf_of c)
      → (h.honest (shelf_of a) → DiskKept g (registry_of b)
      → LookDoes g h (registry_of a) (registry_of b) (shelf_of a) (shelf_of b))
      → IsWhole g h b c due state → IsWhole g h a c due state
  whole_behind first then does whole = record {
    last = record {
      seen = whole.last.seen;
      looked = whole.last.looked;
      has = λ honest kept away u at.
          whole.last.has (first.shelf.honest honest) kept away u (behind honest kept away u at);
      are = whole.last.are;
    };
    none = whole.none;
    world = λ honest kept away u at.
        whole.world (first.shelf.honest honest) kept away u (behind honest kept away u at);
  } where
    behind : h.honest (shelf_of a) → DiskKept g (registry_of c) → (away : Image) (u : World)
        → IsAt g h (registry_of a) (shelf_of a) away [] [] u u
        → IsAt g h (registry_of b) (shelf_of b) away [] [] u u
    behind honest kept away u at =
        let mid : DiskKept g (registry_of b) = omega (arith, then.clean, kept) in
        looked_at g h (registry_of a) (registry_of b) (shelf_of a) (shelf_of b) away
        [] [] u u (does honest mid) at
