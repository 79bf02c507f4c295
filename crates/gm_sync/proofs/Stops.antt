-- Where a fault leaves a bench that is filled.
use Rattle.gm_sync.proofs.Common.{◌≡◌, inl, inr, ℕ, refl, sym, subst, arith, List, [], ◌∷◌, ◌++◌, Result, Ok, Err, OnErr, OnOk, Held, Image, Command, World, Call, DiskKept, HandsInSeries, AllFit, EachFits, InSeries, progress_of, registry_of, shelf_of, ClosesOnFault, Keep, LooksOn, LeavesNext, LeavesOnly, TakesCommands, TellsStore, IsAt, Stands, Bench, BenchFault, Memory, Failed, done_at_rest, carried_so, stands_rest, AreCarriedOut, FailsFilling, FailsFillingOn, FailsOn, FaultLeavesFrom, FaultLeavesOn, Fills, FillsOn, IsFilledFrom, IsFilledOn, IsLast, StopsBetween, StopsNext}
use Rattle.sqlite_trees.specs.declared.store.Store.{Ghosts as StoreGhosts}
use Rattle.gm_shelf.specs.declared.shelf.Shelf.{Ghosts as ShelfGhosts}
use Rattle.gm_sync.proofs.Faults.{fails_then, look_fails, memory_fails}
use Rattle.gm_sync.proofs.Filled.{filled_then, filled_too}
use Rattle.gm_sync.proofs.Series.{all_too, begun_fit, both_fill, each_too, last_then, none_fills, run_then}
use Rattle.gm_sync.proofs.FilledOn.{fails_from_rest, fails_on_then, fails_settled, filled_on_none, filled_on_then, memory_fails_on}

module _ {S H : Type 0} (g : StoreGhosts S) (h : ShelfGhosts H) (Fit : Command → Type 0) where
  -- what waits is carried out
  abbrev pub carried_on : (b : Bench S H) (away : Image) (v u : World)
      → IsFilledOn g h Fit b away v u
      → AreCarriedOut g h Fit (registry_of b) (shelf_of b) away v u
  carried_on b away v u it =
      let was = carried_so g h (progress_of b) (registry_of b) (shelf_of b) away it.before it.world
      it.stands in
      record {
        handed = it.handed;
        world = it.world;
        before = it.before;
        run = it.run;
        fill = it.fill;
        last = it.last;
        intents = was.intents;
        bytes = was.bytes;
        at = was.at;
      }

  -- at rest nothing waits
  abbrev pub carried_none : (b : Bench S H) (away : Image) (u : World)
      → IsAt g h (registry_of b) (shelf_of b) away [] [] u u
      → AreCarriedOut g h Fit (registry_of b) (shelf_of b) away u u
  carried_none b away u at = record {
    handed = [];
    world = u;
    before = u;
    run = refl;
    fill = none_fills Fit;
    last = inl refl;
    intents = [];
    bytes = [];
    at = done_at_rest g h (registry_of b) (shelf_of b) away u at;
  }

  -- these series came before
  module _ (away : Image) (v u : World) (handed : List (List Call)) (before world : World)
      (ran : InSeries u handed world) (fill : EachFits Fit handed)
      (last : IsLast v u handed before world) where
    abbrev carried_then : (r : Held S) (k : H) → AreCarriedOut g h Fit r k away before world
        → AreCarriedOut g h Fit r k away v u
    carried_then r k it = record {
      handed = handed ++ it.handed;
      world = it.world;
      before = it.before;
      run = run_then u handed world it.handed it.world ran it.run;
      fill = both_fill Fit handed it.handed fill it.fill;
      last = last_then v u handed before world it.handed it.before it.world ran last it.last;
      intents = it.intents;
      bytes = it.bytes;
      at = it.at;
    }

    next_then : (b : Bench S H) → StopsNext g h Fit b away before world
        → StopsNext g h Fit b away v u
    next_then b it = record {
      registry = it.registry;
      shelf = it.shelf;
      carried = carried_then it.registry it.shelf it.carried;
      calls = it.calls;
      fit = it.fit;
      left = it.left;
      failed = it.failed;
    }

    between_then : (b : Bench S H) → StopsBetween g h Fit b away before world
        → StopsBetween g h Fit b away v u
    between_then b it = record {
      registry = it.registry;
      shelf = it.shelf;
      carried = carried_then it.registry it.shelf it.carried;
      left = it.left;
      failed = it.failed;
    }

  -- a fault after calls that filled
  on_then : (b c : Bench S H) (away : Image) (v u : World) (fault : BenchFault)
      (one : IsFilledOn g h Fit b away v u)
      → FaultLeavesOn g h Fit c away one.before one.world fault
      → FaultLeavesOn g h Fit c away v u fault
  on_then b c away v u fault one (inl (memory, filled)) =
      inl (memory, filled_on_then g h Fit b c away v u one filled)
  on_then b c away v u fault one (inr stops) =
      inr (next_then away v u one.handed one.before one.world one.run one.fill one.last c stops)

  from_then : (b c : Bench S H) (away : Image) (u : World) (fault : BenchFault)
      (one : IsFilledFrom g h Fit b away u)
      → FaultLeavesFrom g h Fit c away one.world fault → FaultLeavesFrom g h Fit c away u fault
  from_then b c away u fault one (inl (memory, filled)) =
      inl (memory, filled_then g h Fit b c away u one filled)
  from_then b c away u fault one (inr (inl stops)) =
      inr (inl (next_then away u u one.handed one.world one.world one.run one.fill (inl refl) c
      stops))
  from_then b c away u fault one (inr (inr stops)) =
      inr (inr (between_then away u u one.handed one.world one.world one.run one.fill (inl refl) c
      stops))

  pub fails_filling_on_then : (a b c : Bench S H) (fault : BenchFault) → FillsOn g h Fit a b
      → Keep g h (registry_of b) (registry_of c) (shelf_of b) (shelf_of c)
      → FailsFillingOn g h Fit b c fault → FailsFillingOn g h Fit a c fault
  fails_filling_on_then a b c fault first keep fails = record {
    told = fails_on_then g h Fit a b c fault first keep fails.told;
    closed = fails.closed;
    leaves = λ honest kept away v u stands.
        let mid : DiskKept g (registry_of b) = omega (arith, keep.clean, kept) in
        let one = first.does honest mid away v u stands in
        on_then b c away v u fault one (fails.leaves (first.keep.shelf.honest honest) kept away
        one.before one.world one.stands);
  }

  pub fails_filling_then : (a b c : Bench S H) (fault : BenchFault) → Fills g h Fit a b
      → Keep g h (registry_of b) (registry_of c) (shelf_of b) (shelf_of c)
      → FailsFilling g h Fit b c fault → FailsFilling g h Fit a c fault
  fails_filling_then a b c fault first keep fails = record {
    told = fails_then g h Fit a b c fault first keep fails.told;
    leaves = λ honest kept away u at.
        let mid : DiskKept g (registry_of b) = omega (arith, keep.clean, kept) in
        let one = first.does honest mid away u at in
        from_then b c away u fault one
        (fails.leaves (first.keep.shelf.honest honest) kept away one.world one.at);
  }

  -- want of memory, after calls that filled
  pub memory_fails_filling : (a b : Bench S H) → Fills g h Fit a b → FailsFilling g h Fit a b Memory
  memory_fails_filling a b fills = record {
    told = memory_fails g h a b;
    leaves = λ honest kept away u at. inl (refl, fills.does honest kept away u at);
  }

  pub memory_fails_filling_on : (a : Bench S H) → FailsFillingOn g h Fit a a Memory
  memory_fails_filling_on a = record {
    told = memory_fails_on g h a a;
    closed = inl refl;
    leaves = λ honest kept away v u stands.
        inl (refl, filled_on_none g h Fit a away v u stands);
  }

  -- a series that fits failed
  pub next_fails : (a b : Bench S H) (fault : BenchFault) → FailsOn g h a b fault
      → progress_of b ≡ Failed
      → (h.honest (shelf_of a) → DiskKept g (registry_of b) → (away : Image) (v u : World)
      → Stands g h (progress_of a) (registry_of a) (shelf_of a) away v u
      → (calls : List Call) × AllFit Fit calls × LeavesNext g h (registry_of a) (registry_of b)
      (shelf_of a) (shelf_of b) away v u calls)
      → FailsFillingOn g h Fit a b fault
  next_fails a b fault told failed leaves = record {
    told = told;
    closed = inr failed;
    leaves = λ honest kept away v u stands. inr (
        let next = leaves honest kept away v u stands in
        record {
          registry = registry_of a;
          shelf = shelf_of a;
          carried = carried_on a away v u (filled_on_none g h Fit a away v u stands);
          calls = next.0;
          fit = next.1;
          left = next.2;
          failed = failed;
        });
  }

  -- so a series of a command that fits does
  pub series_leaves : (a b : Bench S H) (fault : BenchFault) (key : List ℕ)
      (more : List (List ℕ)) (c : Command) → Fit c
      → HandsInSeries g h a b (Err fault) key more c
      → h.honest (shelf_of a) → DiskKept g (registry_of b) → (away : Image) (v u : World)
      → Stands g h (progress_of a) (registry_of a) (shelf_of a) away v u
      → (calls : List Call) × AllFit Fit calls × LeavesNext g h (registry_of a) (registry_of b)
      (shelf_of a) (shelf_of b) away v u calls
  series_leaves a b fault key more c is hands honest kept away v u stands =
      let it = hands.told honest kept in (
        it.0,
        begun_fit Fit c (key ∷ more) it.0 is (it.1 away v u stands),
        inl (it.2 away v u stands),
      )

  -- a look failed
  pub look_fails_filling : (a b : Bench S H) {T : Type 0} (r : Result T BenchFault)
      (fault : BenchFault) → r ≡ Err fault → LooksOn g h a b r → ClosesOnFault a b r
      → TellsStore g (registry_of a) (registry_of b) r → FailsFilling g h Fit a b fault
  look_fails_filling a b r fault is looks closes store = record {
    told = look_fails g h a b r fault is looks closes store;
    leaves = λ honest kept away u at. inr (inr (record {
      registry = registry_of a;
      shelf = shelf_of a;
      carried = carried_none a away u at;
      left = looks.leaves honest kept away [] [] u u at;
      failed = subst (λ x. OnErr x (progress_of b ≡ Failed)) is closes.failed;
    }));
  }

  -- what fits one way fits another way that asks for less
  module _ (More : Command → Type 0) (then : (c : Command) → Fit c → More c) where
    abbrev carried_too : (r : Held S) (k : H) (away : Image) (v u : World)
        → AreCarriedOut g h Fit r k away v u → AreCarriedOut g h More r k away v u
    carried_too r k away v u it = record {
      handed = it.handed;
      world = it.world;
      before = it.before;
      run = it.run;
      fill = each_too Fit More then it.handed it.fill;
      last = it.last;
      intents = it.intents;
      bytes = it.bytes;
      at = it.at;
    }

    from_too : (b : Bench S H) (away : Image) (u : World) (fault : BenchFault)
        → FaultLeavesFrom g h Fit b away u fault → FaultLeavesFrom g h More b away u fault
    from_too b away u fault (inl (memory, filled)) =
        inl (memory, filled_too g h Fit More then b away u filled)
    from_too b away u fault (inr (inl it)) = inr (inl (record {
      registry = it.registry;
      shelf = it.shelf;
      carried = carried_too it.registry it.shelf away u u it.carried;
      calls = it.calls;
      fit = all_too Fit More then it.calls it.fit;
      left = it.left;
      failed = it.failed;
    }))
    from_too b away u fault (inr (inr it)) = inr (inr (record {
      registry = it.registry;
      shelf = it.shelf;
      carried = carried_too it.registry it.shelf away u u it.carried;
      left = it.left;
      failed = it.failed;
    }))

    pub fails_filling_too : (a b : Bench S H) (fault : BenchFault) → FailsFilling g h Fit a b fault
        → FailsFilling g h More a b fault
    fails_filling_too a b fault fails = record {
      told = fails.told;
      leaves = λ honest kept away u at.
          from_too b away u fault (fails.leaves honest kept away u at);
    }

  -- What waits is settled after calls that filled, or that can't be done.
  module _ (a b c : Bench S H) (settled : Result Unit BenchFault)
      (takes : TakesCommands (progress_of a))
      (keep : Keep g h (registry_of b) (registry_of c) (shelf_of b) (shelf_of c))
      (does : h.honest (shelf_of b) → DiskKept g (registry_of c) → OnOk settled ((away : Image)
      (v u : World) → Stands g h (progress_of b) (registry_of b) (shelf_of b) away v u
      → IsAt g h (registry_of c) (shelf_of c) away [] [] u u))
      (leaves : h.honest (shelf_of b) → DiskKept g (registry_of c) → (away : Image) (v u : World)
      → Stands g h (progress_of b) (registry_of b) (shelf_of b) away v u
      → LeavesOnly g h (registry_of b) (registry_of c) (shelf_of b) (shelf_of c) away v u)
      (closes : ClosesOnFault b c settled) where
    unsettled : (away : Image) (v u : World) (fault : BenchFault) → settled ≡ Err fault
        → h.honest (shelf_of b) → DiskKept g (registry_of c) → IsFilledOn g h Fit b away v u
        → StopsBetween g h Fit c away v u
    unsettled away v u fault is honest kept filled = record {
      registry = registry_of b;
      shelf = shelf_of b;
      carried = carried_on b away v u filled;
      left = leaves honest kept away filled.before filled.world filled.stands;
      failed = subst (λ x. OnErr x (progress_of c ≡ Failed)) is closes.failed;
    }

    settled_from : (away : Image) (u : World) (fault : BenchFault) (r : Result Unit BenchFault)
        → settled ≡ r → h.honest (shelf_of b) → DiskKept g (registry_of c)
        → FaultLeavesOn g h Fit b away u u fault → FaultLeavesFrom g h Fit c away u fault
    settled_from away u fault (Ok done) is honest kept (inl (memory, filled)) =
        let rests = subst (λ x. OnOk x ((away : Image) (v u : World)
        → Stands g h (progress_of b) (registry_of b) (shelf_of b) away v u
        → IsAt g h (registry_of c) (shelf_of c) away [] [] u u)) is (does honest kept) in
        inl (
          memory,
          record {
            handed = filled.handed;
            world = filled.world;
            run = filled.run;
            fill = filled.fill;
            at = rests away filled.before filled.world filled.stands;
          },
        )
    settled_from away u fault (Err other) is honest kept (inl (memory, filled)) =
        inr (inr (unsettled away u u other is honest kept filled))
    settled_from away u fault r is honest kept (inr stops) =
        inr (inl (subst (λ (x : Bench S H). StopsNext g h Fit x away u u)
        (sym (closes.closed stops.failed).1) stops))

    pub fails_filling_settled : (fault : BenchFault)
        → Keep g h (registry_of a) (registry_of b) (shelf_of a) (shelf_of b)
        → FailsFillingOn g h Fit a b fault → FailsFilling g h Fit a c fault
    fails_filling_settled fault first fails = record {
      told = fails_from_rest g h a c fault takes
          (fails_settled g h a b c fault fails.closed (λ is. (closes.closed is).1) fails.told);
      leaves = λ honest kept away u at.
          let mid : DiskKept g (registry_of b) = omega (arith, keep.clean, kept) in
          settled_from away u fault settled refl (first.shelf.honest honest) kept
          (fails.leaves honest mid away u u (stands_rest g h (progress_of a) (registry_of a)
          (shelf_of a) away u takes at));
    }

    -- it can't be settled
    pub unsettled_fails_filling : (fault : BenchFault) → settled ≡ Err fault → FillsOn g h Fit a b
        → FailsOn g h a c fault → FailsFilling g h Fit a c fault
    unsettled_fails_filling fault is first told = record {
      told = fails_from_rest g h a c fault takes told;
      leaves = λ honest kept away u at.
          let mid : DiskKept g (registry_of b) = omega (arith, keep.clean, kept) in
          let filled = first.does honest mid away u u (stands_rest g h (progress_of a)
          (registry_of a) (shelf_of a) away u takes at) in
          inr (inr (unsettled away u u fault is (first.keep.shelf.honest honest) kept filled));
    }
