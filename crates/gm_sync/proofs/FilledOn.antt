-- Calls that fill, of which the last series may still be to be settled.
use Rattle.gm_sync.proofs.Common.{◌≡◌, ◌∙◌, inl, inr, ℕ, refl, sym, subst, arith, List, [], ◌∷◌, ◌++◌, Ok, Image, Command, World, Tables, DiskKept, HasTables, StoreFailed, progress_of, registry_of, shelf_of, Keep, TakesCommands, IsAt, AreHandedIn, HandsInSeries, IsCountBy, Stands, Answer, SeriesAnswer, Done, Repeated, Refused, Bench, BenchFault, Absent, Closed, Disk, Memory, Store, Ready, Failed, takes_ready, carried_so, stands_rest, ◌+◌, ◌≤◌, length, Call, CallRefusal, AllFit, AnswersOn, AreKeyedAfter, FillsByOn, FillsSo, FillsSoOn, GoesOnTo, IsAnswered, IsRefusedIn, FailsAsCalls, FailsOn, Fills, FillsOn, IsAnsweredOn, IsClosedBut, IsFilledOn, IsLastDone, RefusesOn, calls_in, keys_after, up_to_last, used_by}
use Rattle.sqlite_trees.specs.declared.store.Store.{Ghosts as StoreGhosts}
use Rattle.gm_shelf.specs.declared.shelf.Shelf.{Ghosts as ShelfGhosts}
use Rattle.gm_rules.specs.AbstractCalls as run
use Rattle.gm_rules.proofs.SeriesTurns.{steps_of_run}
use Rattle.gm_sync.proofs.Filled.{keep_none, keep_then}
use Rattle.gm_sync.proofs.Keys.{begun_keyed, first_keyed, more_keyed}
use Rattle.gm_sync.proofs.Series.{begun_fit, both_fill, count_more, first_fits, last_then, none_fills, one_fills, run_then, used_is}

module _ {S H : Type 0} (g : StoreGhosts S) (h : ShelfGhosts H) (Fit : Command → Type 0) where
  abbrev pub filled_on_none : (a : Bench S H) (away : Image) (v u : World)
      → Stands g h (progress_of a) (registry_of a) (shelf_of a) away v u
      → IsFilledOn g h Fit a away v u
  filled_on_none a away v u stands = record {
    handed = [];
    world = u;
    before = v;
    run = refl;
    fill = none_fills Fit;
    last = inr (inl (refl, refl));
    stands = stands;
  }

  pub fills_on_none : (a : Bench S H) → FillsOn g h Fit a a
  fills_on_none a = record {
    failed = λ is. is;
    goes_on = λ is. is;
    keep = keep_none g h a;
    does = λ honest kept away v u stands. filled_on_none a away v u stands;
  }

  abbrev pub filled_on_then : (b c : Bench S H) (away : Image) (v u : World)
      (one : IsFilledOn g h Fit b away v u) → IsFilledOn g h Fit c away one.before one.world
      → IsFilledOn g h Fit c away v u
  filled_on_then b c away v u one two = record {
    handed = one.handed ++ two.handed;
    world = two.world;
    before = two.before;
    run = run_then u one.handed one.world two.handed two.world one.run two.run;
    fill = both_fill Fit one.handed two.handed one.fill two.fill;
    last = last_then v u one.handed one.before one.world two.handed two.before two.world one.run
        one.last two.last;
    stands = two.stands;
  }

  pub fills_on_then : (a b c : Bench S H) → FillsOn g h Fit a b → FillsOn g h Fit b c
      → FillsOn g h Fit a c
  fills_on_then a b c first then = record {
    failed = λ is. then.failed (first.failed is);
    goes_on = λ is. first.goes_on (then.goes_on is);
    keep = keep_then g h a b c first.keep then.keep;
    does = λ honest kept away v u stands.
        let clean : DiskKept g (registry_of b) = omega (arith, then.keep.clean, kept) in
        let one = first.does honest clean away v u stands in
        filled_on_then b c away v u one
        (then.does (first.keep.shelf.honest honest) kept away one.before one.world one.stands);
  }

  -- a series that fits and is handed in is answered by the abstract bench
  abbrev pub answered_on : (n : ℕ) (a b : Bench S H) (away : Image) (v u : World)
      (calls : List Call) (answer : Answer) (count : ℕ) → AllFit Fit calls
      → AreKeyedAfter n calls → IsCountBy calls answer count
      → AreHandedIn g h (progress_of b) (registry_of a) (registry_of b) (shelf_of a) (shelf_of b)
      away v u calls answer
      → IsAnsweredOn g h Fit n b away v u answer count
  answered_on n a b away v u calls (Done k reply) count is keyed counted it =
      let last : IsLastDone u (calls ∷ []) u it.0 = record {
        older = [];
        calls = calls;
        newer = [];
        all = refl;
        run = refl;
        steps = steps_of_run u it.0 calls it.1 k reply it.2 it.3;
      } in
      record {
        calls = calls;
        fit = is;
        keys = keyed;
        world = it.0;
        before = u;
        count = counted;
        run = (it.1, it.2, it.3);
        last = inr (inr last);
        stands = it.5;
      }
  answered_on n a b away v u [] (Repeated k reply) count is keyed counted it = absurd it.0
  answered_on n a b away v u (call ∷ more) (Repeated k reply) count is keyed counted it = record {
    calls = call ∷ [];
    fit = first_fits Fit call more is;
    keys = first_keyed n call more keyed;
    world = u;
    before = v;
    count = counted;
    run = (call, refl, it.0);
    last = inr (inl (refl, refl));
    stands = it.2;
  }
  answered_on n a b away v u [] (Refused why) count is keyed counted it = absurd it.0
  answered_on n a b away v u (call ∷ more) (Refused why) count is keyed counted it = record {
    calls = call ∷ [];
    fit = first_fits Fit call more is;
    keys = first_keyed n call more keyed;
    world = u;
    before = v;
    count = counted;
    run = (call, refl, it.0);
    last = inr (inl (refl, refl));
    stands = it.2;
  }

  -- so a series of a command that fits is
  pub series_answers : (n : ℕ) (a b : Bench S H) (answered : SeriesAnswer) (key : List ℕ)
      (more : List (List ℕ)) (c : Command) → Fit c → key ∷ more ≡ keys_after n 64
      → HandsInSeries g h a b (Ok answered) key more c → AnswersOn g h Fit n a b answered
  series_answers n a b answered key more c is own hands = λ honest kept away v u stands.
      let it = hands.told honest kept in
      let began = it.1 away v u stands in
      let came = it.3 away v u stands in
      answered_on n a b away v u it.0 answered.answer answered.count
      (begun_fit Fit c (key ∷ more) it.0 is began)
      (begun_keyed c n (key ∷ more) it.0 began own) came.0 came.1

  -- so the bench is filled
  abbrev pub filled_answered : (n : ℕ) (b : Bench S H) (away : Image) (v u : World)
      (answer : Answer) (count : ℕ) → IsAnsweredOn g h Fit n b away v u answer count
      → IsFilledOn g h Fit b away v u
  filled_answered n b away v u answer count it = record {
    handed = it.calls ∷ [];
    world = it.world;
    before = it.before;
    run = (it.world, answer, it.run, refl);
    fill = one_fills Fit it.calls it.fit;
    last = it.last;
    stands = it.stands;
  }

  -- a series that was answered so after others that filled
  answered_then : (So : List (List Call) → World → Type 0) (n : ℕ) (a b c : Bench S H)
      (answered : SeriesAnswer)
      → Keep g h (registry_of a) (registry_of b) (shelf_of a) (shelf_of b)
      → Keep g h (registry_of b) (registry_of c) (shelf_of b) (shelf_of c)
      → (P : List (List Call) → World → Type 0) → FillsSoOn g h Fit P a b
      → AnswersOn g h Fit n b c answered
      → ((xs : List (List Call)) (v w : World) (calls : List Call) → P xs v → AllFit Fit calls
      → AreKeyedAfter n calls → IsCountBy calls answered.answer answered.count
      → IsAnswered v calls w answered.answer → So (xs ++ calls ∷ []) w)
      → FillsSoOn g h Fit So a c
  answered_then So n a b c answered keep then_keep P first answers both =
      λ honest kept away v u stands.
      let mid : DiskKept g (registry_of b) = omega (arith, then_keep.clean, kept) in
      let some = first honest mid away v u stands in
      let one = some.0 in
      let it = answers (keep.shelf.honest honest) kept away one.before one.world one.stands in (
        filled_on_then b c away v u one
            (filled_answered n c away one.before one.world answered.answer answered.count it),
        both one.handed one.world it.world it.calls some.1 it.fit it.keys it.count it.run,
      )

  -- it was refused
  pub refuses_on_then : (n : ℕ) (a b c : Bench S H) (answered : SeriesAnswer) (why : CallRefusal)
      → answered.answer ≡ Refused why → FillsOn g h Fit a b
      → Keep g h (registry_of b) (registry_of c) (shelf_of b) (shelf_of c)
      → AnswersOn g h Fit n b c answered → RefusesOn g h Fit a c why
  refuses_on_then n a b c answered why is first keep answers =
      answered_then (λ handed w. IsRefusedIn Fit w why) n a b c answered first.keep keep
      (λ handed w. Unit {0})
      (λ honest kept away v u stands. (first.does honest kept away v u stands, tt)) answers
      (λ xs v w calls some fit keyed counted it. refused_in v w calls answered.answer is fit it)
    where
      refused_in : (v w : World) (calls : List Call) (x : Answer) → x ≡ Refused why
          → AllFit Fit calls → IsAnswered v calls w x → IsRefusedIn Fit w why
      refused_in v w calls x same fit it =
          let told = subst (λ (y : Answer). IsAnswered v calls w y) same it in
          let stays : w ≡ v = told.2.0 in
          record {
            call = told.0;
            fit = (subst (λ (cs : List Call). AllFit Fit cs) told.1 fit).1 told.0 (inl refl);
            calls = subst (λ (z : World). run.Calls z told.0 w (run.Refused why)) (sym stays)
                told.2;
          }

  -- it is one call more, at least
  pub by_on_then : (n : ℕ) (a b c : Bench S H) (answered : SeriesAnswer) (many : ℕ)
      → Keep g h (registry_of a) (registry_of b) (shelf_of a) (shelf_of b)
      → Keep g h (registry_of b) (registry_of c) (shelf_of b) (shelf_of c)
      → FillsByOn g h Fit a b many → AnswersOn g h Fit n b c answered
      → FillsByOn g h Fit a c (many + 1)
  by_on_then n a b c answered many keep then_keep first answers =
      answered_then (λ handed w. many + 1 ≤ length (calls_in handed)) n a b c answered keep
      then_keep (λ handed w. many ≤ length (calls_in handed)) first answers
      (λ xs v w calls some fit keyed counted it. one_more xs calls some fit.0)
    where
      one_more : (xs : List (List Call)) (calls : List Call) → many ≤ length (calls_in xs)
          → (calls ≡ [] → ⊥) → many + 1 ≤ length (calls_in (xs ++ calls ∷ []))
      one_more xs [] some not = absurd (not refl)
      one_more xs (call ∷ calls) some not =
          let all = count_more xs (call ∷ calls) in omega (arith, all, some)

  -- its keys follow, and the number goes on by those that it uses
  pub numbers_then : (a b c : Bench S H) (answered : SeriesAnswer) (from number used to : ℕ)
      → Keep g h (registry_of a) (registry_of b) (shelf_of a) (shelf_of b)
      → Keep g h (registry_of b) (registry_of c) (shelf_of b) (shelf_of c)
      → GoesOnTo g h Fit a b from number → AnswersOn g h Fit number b c answered
      → used ≡ used_by answered → to ≡ up_to_last (number + used) → GoesOnTo g h Fit a c from to
  numbers_then a b c answered from number used to keep then_keep first answers uses is =
      answered_then
      (λ handed w. AreKeyedAfter from (calls_in handed)
      × (up_to_last to ≡ up_to_last (from + length (calls_in handed)))) number a b c answered keep
      then_keep
      (λ handed w. AreKeyedAfter from (calls_in handed)
      × (up_to_last number ≡ up_to_last (from + length (calls_in handed)))) first answers
      (λ xs v w calls some fit keyed counted it.
      let same = some.1 in
      let as_many = used_is v calls w answered.answer answered.count it counted in
      let all = count_more xs calls in (
        more_keyed from number xs calls some.0 same keyed,
        omega (arith, is, uses, same, as_many, all),
      ))

  pub numbers_none : (a : Bench S H) (from : ℕ) → GoesOnTo g h Fit a a from from
  numbers_none a from = λ honest kept away v u stands.
      (filled_on_none a away v u stands, (refl, omega arith))

  pub by_on_none : (a : Bench S H) → FillsByOn g h Fit a a 0
  by_on_none a = λ honest kept away v u stands. (filled_on_none a away v u stands, omega arith)

  pub by_on_fewer : (a b : Bench S H) (n m : ℕ) → n ≤ m → FillsByOn g h Fit a b m
      → FillsByOn g h Fit a b n
  by_on_fewer a b n m few by = λ honest kept away v u stands.
      let it = by honest kept away v u stands in
      let many = it.1 in (it.0, omega (arith, few, many))

  -- a series that fits and is handed in
  pub fills_on_next : (n : ℕ) (a b : Bench S H) (answered : SeriesAnswer)
      → (progress_of a ≡ Failed → ⊥) → (progress_of b ≡ Failed → ⊥)
      → Keep g h (registry_of a) (registry_of b) (shelf_of a) (shelf_of b)
      → AnswersOn g h Fit n a b answered → FillsOn g h Fit a b
  fills_on_next n a b answered before after keep answers = record {
    failed = λ e. absurd (before e);
    goes_on = λ e. absurd (after e);
    keep = keep;
    does = λ honest kept away v u stands.
        filled_answered n b away v u answered.answer answered.count
        (answers honest kept away v u stands);
  }

  -- and settled
  pub fills_settled : (a b c : Bench S H) → TakesCommands (progress_of a) → FillsOn g h Fit a b
      → Keep g h (registry_of b) (registry_of c) (shelf_of b) (shelf_of c)
      → (progress_of b ≡ Failed → ⊥) → progress_of c ≡ Ready
      → (h.honest (shelf_of b) → DiskKept g (registry_of c) → (away : Image) (v u : World)
      → Stands g h (progress_of b) (registry_of b) (shelf_of b) away v u
      → IsAt g h (registry_of c) (shelf_of c) away [] [] u u)
      → Fills g h Fit a c
  fills_settled a b c takes first keep goes_on rests does = record {
    stays = rests ∙ sym (takes_ready (progress_of a) takes (λ is. goes_on (first.failed is)));
    keep = keep_then g h a b c first.keep keep;
    does = λ honest kept away u at.
        let mid : DiskKept g (registry_of b) = omega (arith, keep.clean, kept) in
        let it = first.does honest mid away u u (stands_rest g h (progress_of a)
        (registry_of a) (shelf_of a) away u takes at) in
        record {
          handed = it.handed;
          world = it.world;
          run = it.run;
          fill = it.fill;
          at = does (first.keep.shelf.honest honest) kept away it.before it.world it.stands;
        };
  }

  -- what holds of the series and the world before the last was settled
  pub so_settled : (So : List (List Call) → World → Type 0) (a b c : Bench S H)
      → TakesCommands (progress_of a)
      → Keep g h (registry_of a) (registry_of b) (shelf_of a) (shelf_of b)
      → Keep g h (registry_of b) (registry_of c) (shelf_of b) (shelf_of c)
      → (h.honest (shelf_of b) → DiskKept g (registry_of c) → (away : Image) (v u : World)
      → Stands g h (progress_of b) (registry_of b) (shelf_of b) away v u
      → IsAt g h (registry_of c) (shelf_of c) away [] [] u u)
      → FillsSoOn g h Fit So a b → FillsSo g h Fit So a c
  so_settled So a b c takes first keep does so = λ honest kept away u at.
      let mid : DiskKept g (registry_of b) = omega (arith, keep.clean, kept) in
      let it = so honest mid away u u (stands_rest g h (progress_of a) (registry_of a)
      (shelf_of a) away u takes at) in (
        record {
          handed = it.0.handed;
          world = it.0.world;
          run = it.0.run;
          fill = it.0.fill;
          at = does (first.shelf.honest honest) kept away it.0.before it.0.world it.0.stands;
        },
        it.1,
      )

  -- a call that failed after others that filled
  pub fails_on_then : (a b c : Bench S H) (fault : BenchFault) → FillsOn g h Fit a b
      → Keep g h (registry_of b) (registry_of c) (shelf_of b) (shelf_of c)
      → FailsOn g h b c fault → FailsOn g h a c fault
  fails_on_then a b c fault first keep then = record {
    reopen = λ e. first.goes_on (then.reopen e);
    absent = then.absent;
    disk = λ honest kept away v u stands e.
        let mid : DiskKept g (registry_of b) = omega (arith, keep.clean, kept) in
        let it = first.does honest mid away v u stands in
        let more = then.disk (first.keep.shelf.honest honest) kept away it.before it.world it.stands
        e in
        omega (arith, first.keep.shelf.count, more);
    store = λ honest kept away v u stands e.
        let mid : DiskKept g (registry_of b) = omega (arith, keep.clean, kept) in
        let it = first.does honest mid away v u stands in
        then.store (first.keep.shelf.honest honest) kept away it.before it.world it.stands e;
  }

module _ {S H : Type 0} (g : StoreGhosts S) (h : ShelfGhosts H) where
  pub memory_fails_on : (a b : Bench S H) → FailsOn g h a b Memory
  memory_fails_on a b = record {
    reopen = λ e. absurd (let no : Memory ≡ Closed = e in cc);
    absent = λ p e. absurd (let no : Memory ≡ Absent p = e in cc);
    disk = λ honest kept away v u stands e. absurd (let no : Memory ≡ Disk = e in cc);
    store = λ honest kept away v u stands e. absurd (let no : Memory ≡ Store = e in cc);
  }

  -- a settling that failed after calls that filled
  pub settling_fails : (Fit : Command → Type 0) (a b c : Bench S H) (fault : BenchFault)
      → FillsOn g h Fit a b → Keep g h (registry_of b) (registry_of c) (shelf_of b) (shelf_of c)
      → (fault ≡ Closed → progress_of b ≡ Failed) → ((p : List ℕ) → fault ≡ Absent p → ⊥)
      → (fault ≡ Disk → ⊥)
      → (DiskKept g (registry_of c) → fault ≡ Store → (t : Tables) → HasTables g (registry_of b) t
      → StoreFailed g (registry_of b) (registry_of c))
      → FailsOn g h a c fault
  settling_fails Fit a b c fault first keep reopen absent disk store = record {
    reopen = λ e. first.goes_on (reopen e);
    absent = absent;
    disk = λ honest kept away v u stands e. absurd (disk e);
    store = λ honest kept away v u stands e.
        let mid : DiskKept g (registry_of b) = omega (arith, keep.clean, kept) in
        let it = first.does honest mid away v u stands in
        let was = carried_so g h (progress_of b) (registry_of b) (shelf_of b) away
        it.before it.world it.stands in
        record {
          before = b;
          earlier = it.before;
          world = it.world;
          intents = was.intents;
          bytes = was.bytes;
          at = was.at;
          failed = λ room. store kept e was.at.tables was.at.has;
        };
  }

  -- from rest a fault is told as calls tell it
  pub fails_from_rest : (a b : Bench S H) (fault : BenchFault) → TakesCommands (progress_of a)
      → FailsOn g h a b fault → FailsAsCalls g h a b fault
  fails_from_rest a b fault takes it = record {
    reopen = it.reopen;
    absent = it.absent;
    disk = λ honest kept away u at e. it.disk honest kept away u u
        (stands_rest g h (progress_of a) (registry_of a) (shelf_of a) away u takes at) e;
    store = λ honest kept away u at e. it.store honest kept away u u
        (stands_rest g h (progress_of a) (registry_of a) (shelf_of a) away u takes at) e;
  }

  -- what is settled after a fault: nothing, unless memory was wanted
  pub fails_settled : (a b c : Bench S H) (fault : BenchFault) → IsClosedBut b fault
      → (progress_of b ≡ Failed → c ≡ b) → FailsOn g h a b fault → FailsOn g h a c fault
  fails_settled a b c fault (inl is) stays it =
      subst (λ (f : BenchFault). FailsOn g h a c f) (sym is) (memory_fails_on a c)
  fails_settled a b c fault (inr is) stays it =
      subst (λ (x : Bench S H). FailsOn g h a x fault) (sym (stays is)) it
