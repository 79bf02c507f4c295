-- What becomes of a judgement that is taken further.
use Rattle.gm_bench.proofs.Common.{◌≡◌, ◌∙◌, ℕ, ◌+◌, ◌<◌, ◌≤◌, refl, sym, ap, subst, arith, List, [], ◌∷◌, ◌++◌, length, map, length-map, length-append, append_assoc, string_bytes, Result, Ok, Err, Ghosts, Sizes, IsLawful, Command, Advance, Records, Mirror, Tables, HasTables, DiskKept, World, Sound, CanAnswer, Changed, BenchFault, Closed, Memory, Unreadable, Disk, Store, Cover, HoldRecords, AreAtHand, Media, OnlyLooks, OnlyLooksUp, IsOfRegistry, IsSettling, Planned, IsPlanned, ArePlanned, AreBegun, AreJudged, AreReadUnderAll, CanGoOn, GoesOnUnder, IsFurtherPlan, IsJudgement, MayBeTaken, calls_in, calls_under, count_of, further_in, further_keys, calls_of, keyed_in, reads_itself, ReadsOnly, left_by}
use Rattle.std.proofs.Common.{String, Global}
use Rattle.std.proofs.lemmas.List.{map-append}
use Rattle.gm_shelf.specs.declared.shelf.Shelf.{Ghosts as ShelfGhosts}
use Rattle.gm_bench.specs.declared.judgement.Judgement.{Judgement}
use Rattle.gm_bench.specs.declared.judgement.Judgement.TheVariants.{New, Refused, Repeated}
use Rattle.gm_bench.specs.declared.fault.BenchFault.TheVariants.{Absent}
use Rattle.gm_bench.specs.Asking.{LooksUp}
use Rattle.gm_bench.specs.Faults.{IsOfCall}
use Rattle.gm_bench.proofs.CallAnswers.{as_many}
use Rattle.gm_bench.proofs.LookedOn.{no_fault, same_fault}
use Rattle.gm_bench.specs.Judgements.{IsJudgedOnce, TakesFurther}
use Rattle.gm_changes.specs.declared.change.Further.{Further}
use Rattle.gm_rules.specs.AbstractCalls.{Call}
use Rattle.gm_bench.proofs.CarriedOut.{seen_leads}
use Rattle.gm_bench.proofs.DecidesOnly.{reads_none}
use Rattle.gm_bench.proofs.FittingStretches.{at_hand_on, fits_on}
use Rattle.gm_bench.proofs.FurtherKeys.{first_taken}
use Rattle.gm_bench.proofs.SeriesWorlds.{begins_in, calls_are, goes_in_turn, planned_once}
use Rattle.gm_bench.proofs.StretchedBy.{StandsIn, begins, stands_on, stretched_keys}

-- ---- the calls

-- the calls of what is planned are those under its first key and its further ones
calls_planned : (key : List ℕ) (c : Command) (ch : Changed)
    → calls_of c (keyed_in key ch) ≡ calls_under c (key ∷ further_keys ch)
calls_planned key c ch =
    ap (λ (l : List Call). record { key = key; command = c } ∷ l) (calls_are c ch.further)

-- they are begun if the further keys are the first of these
begun_under : (key : List ℕ) (more rest : List (List ℕ)) (c : Command) (ch : Changed)
    → further_keys ch ++ rest ≡ more → AreBegun c (key ∷ more) (calls_of c (keyed_in key ch))
begun_under key more rest c ch all = record {
  some = λ e. (let no : ⊥ = cc in no);
  rest = rest;
  all = ap (λ (l : List Call). l ++ calls_under c rest) (calls_planned key c ch)
      ∙ (sym (map-append (λ (k : List ℕ). record { key = k; command = c })
      (key ∷ further_keys ch) rest) ∙ ap (λ (l : List (List ℕ)). calls_under c (key ∷ l)) all);
}

-- one call is begun under its key
begun_once : (key : List ℕ) (more : List (List ℕ)) (c : Command)
    → AreBegun c (key ∷ more) (record { key = key; command = c } ∷ [])
begun_once key more c = record { some = λ e. (let no : ⊥ = cc in no); rest = more; all = refl }

-- nothing is planned under a further key
no_keys : (ch : Changed) → ch.further ≡ [] → further_keys ch ≡ []
no_keys ch once = ap (map (λ (f : Further). string_bytes f.key)) once

-- ---- what was looked at

-- nothing is read of a shelf that stays
reads_shelf : {H : Type 0} (j : ShelfGhosts H) (h k : H) → k ≡ h → ReadsOnly j h k
reads_shelf j h k same = subst (ReadsOnly j h) (sym same) (record {
  keeps = record { honest = λ honest. honest; size = refl; count = omega arith };
  reads = λ honest. reads_itself (j.view h);
})

-- a fault of the registry isn't one of the disk
no_disk : {T : Type 0} (e : BenchFault) → IsOfRegistry e → ◌≡◌ {A = Result T BenchFault} (Err e)
    (Err Disk) → ⊥
no_disk e of is = let same : e ≡ Disk = cc in subst IsOfRegistry same of

-- it may come of a call
of_call : (e : BenchFault) → IsOfRegistry e → IsOfCall e
of_call Memory of = tt
of_call Store of = tt
of_call Unreadable of = tt
of_call Disk of = absurd of
of_call Closed of = absurd of
of_call (Absent p) of = absurd of

-- ---- a judgement that isn't taken further

-- what is judged is planned once, if it is planned
judged_once : (u : World) → Sound u → (key : List ℕ) (more : List (List ℕ)) (c : Command)
    (jd : Judgement) → IsJudgement u key c jd
    → AreJudged u key c jd × AreBegun c (key ∷ more) (calls_in key c jd)
judged_once u sound key more c (Repeated n reply) is = (is, begun_once key more c)
judged_once u sound key more c (Refused why) is = (is, begun_once key more c)
judged_once u sound key more c (New words planned) is = (
  (planned_once u key c planned sound is.0 is.1, is.2),
  begun_under key more more c planned.change
      (ap (λ (l : List (List ℕ)). l ++ more) (no_keys planned.change is.0.makes.once)),
)

-- it has no further key
few_once : (jd : Judgement) (more : List (List ℕ)) → IsJudgedOnce jd
    → further_in jd ≤ length more
few_once (Repeated n reply) more once = omega arith
few_once (Refused why) more once = omega arith
few_once (New words planned) more once =
    let none : length planned.change.further ≡ 0 = ap length once in omega arith

-- ---- the clauses

module _ {S H : Type 0} (g : Ghosts S) (j : ShelfGhosts H) where
  -- a look that succeeds only looks at both media
  looked_on_both : {T U : Type 0} (old new : Media S H) (x : T) (y : U)
      → OnlyLooksUp g old new (Ok x) → OnlyLooks g j old new (Ok y)
  looked_on_both old new x y looks = record {
    clean = looks.clean;
    reads = looks.reads;
    only = reads_shelf j old.shelf new.shelf looks.shelf;
    disk = λ is. absurd (no_fault y Disk is);
    store = λ clean is. absurd (no_fault y Store is);
    fault = tt;
  }

  -- nothing is looked at
  looked_not : {T : Type 0} → IsSettling g → (old : Media S H) (x : T) → OnlyLooks g j old old (Ok x)
  looked_not settling old x = record {
    clean = omega arith;
    reads = λ clean. reads_none g settling old.registry;
    only = reads_shelf j old.shelf old.shelf refl;
    disk = λ is. absurd (no_fault x Disk is);
    store = λ clean is. absurd (no_fault x Store is);
    fault = tt;
  }

  -- a judgement that isn't taken further
  pub kept_judgement : IsSettling g → ((k : H) → j.honest k → IsLawful (j.view k))
      → (old : Media S H) (jd : Judgement) (key : List ℕ) (more : List (List ℕ)) (c : Command)
      → TakesFurther g j old old (Ok jd) jd key more c
  kept_judgement settling lawful old jd key more c = record {
    answers = λ h clean away ts bytes v u at is.
        let l = seen_leads g j old.registry old.shelf away ts bytes v u at (lawful old.shelf h) in
        let both = judged_once u l.sound key more c jd is in
        (both.0, both.1, at.has);
    plans = λ clean t r has are once can. (can, λ fit. fit, few_once jd more once, has);
    readable = λ clean is. absurd (no_fault jd Unreadable is);
    disk = λ is. absurd (no_fault jd Disk is);
    unread = λ none. refl;
    looks = looked_not settling old jd;
  }

  module _ (old mid : Media S H) (jd : Judgement) (key : List ℕ) (more : List (List ℕ))
      (c : Command) where
    -- the keys can't be looked up
    pub keys_fail : {T : Type 0} (e : BenchFault) (Tells : T → Tables → Type 0)
        → LooksUp g old mid (Err e) Tells (AreReadUnderAll more)
        → TakesFurther g j old mid (Err e) jd key more c
    keys_fail e Tells it = record {
      answers = λ h clean. tt;
      plans = λ clean. tt;
      readable = λ clean is t r has are read. it.readable clean (same_fault e _ is) t has read;
      disk = λ is. absurd (no_disk e it.looks.fault is);
      unread = tt;
      looks = record {
        clean = it.looks.clean;
        reads = it.looks.reads;
        only = reads_shelf j old.shelf mid.shelf it.looks.shelf;
        disk = λ is. absurd (no_disk e it.looks.fault is);
        store = λ clean is. it.store clean (same_fault e _ is);
        fault = of_call e it.looks.fault;
      };
    }

  module _ (old mid : Media S H) (words : String Global) (planned : Planned) (m : Mirror)
      (key : List ℕ) (keys rest : List (List ℕ)) (free : ℕ)
      (looks : OnlyLooksUp g old mid (Ok free))
      (may : CanGoOn (j.size old.shelf) planned.work.part planned.change m) where
    abbrev size : Sizes
    size = j.size old.shelf

    stands : StandsIn planned.work.part m planned.change
    stands = begins size planned.work.part planned.change m may

    -- nothing can be planned further
    pub plan_fails : (e : BenchFault) (c : Command) → IsFurtherPlan planned m keys (Err e)
        → TakesFurther g j old mid (Err e) (New words planned) key (keys ++ rest) c
    plan_fails e c it = record {
      answers = λ h clean. tt;
      plans = λ clean. tt;
      readable = λ clean is.
          let far = it.readable (same_fault e _ is) in
          absurd (far.2 (stands_on planned.work.part m far.1.taken planned.change far.0 stands
          far.1.stretched).state);
      disk = λ is. absurd (it.disk (same_fault e _ is));
      unread = tt;
      looks = record {
        clean = looks.clean;
        reads = looks.reads;
        only = reads_shelf j old.shelf mid.shelf looks.shelf;
        disk = λ is. absurd (it.disk (same_fault e _ is));
        store = λ clean is. absurd (it.not_store (same_fault e _ is));
        fault = it.fault;
      };
    }

    module _ (q : Planned) (it : IsFurtherPlan planned m keys (Ok q))
        (told : DiskKept g mid.registry → (t : Tables) → HasTables g old.registry t
        → (count_of t < 100000 → MayBeTaken key keys t) × HasTables g mid.registry t) where
      abbrev on : GoesOnUnder m keys planned.change q.change
      on = it.goes_on

      -- the keys that are taken may be taken
      taken_so : (t : Tables) → MayBeTaken key keys t → MayBeTaken key on.taken t
      taken_so t all = first_taken t key on.taken on.rest
          (subst (λ (l : List (List ℕ)). MayBeTaken key l t) (sym on.all) all)

      -- they are the change's further ones
      keys_so : planned.change.further ≡ [] → further_keys q.change ≡ on.taken
      keys_so once = stretched_keys m on.taken planned.change q.change on.stretched
          ∙ ap (λ (l : List (List ℕ)). l ++ on.taken) (no_keys planned.change once)

      -- and the first of all
      all_so : planned.change.further ≡ []
          → further_keys q.change ++ (on.rest ++ rest) ≡ keys ++ rest
      all_so once = ap (λ (l : List (List ℕ)). l ++ (on.rest ++ rest)) (keys_so once)
          ∙ (sym (append_assoc on.taken on.rest rest)
          ∙ ap (λ (l : List (List ℕ)). l ++ rest) on.all)

      -- they are no more than those
      few_so : planned.change.further ≡ [] → length q.change.further ≤ length (keys ++ rest)
      few_so once =
          let many : length (further_keys q.change) ≡ length q.change.further =
          length-map q.change.further _ in
          let all : length (further_keys q.change ++ (on.rest ++ rest)) ≡ length (keys ++ rest) =
          ap length (all_so once) in
          let parts : length (further_keys q.change ++ (on.rest ++ rest))
          ≡ length (further_keys q.change) + length (on.rest ++ rest) =
          length-append (further_keys q.change) (on.rest ++ rest) in
          omega arith

      -- all are planned, of a world
      planned_so : (n p : List ℕ) (u : World) (t : Tables) → Sound u → HoldRecords u t
          → IsPlanned u (Advance n p) planned → CanAnswer u key (Advance n p) → m.name ≡ n
          → MayBeTaken key keys t → ArePlanned u key (Advance n p) q
      planned_so n p u t sound holds is can named all =
          let taken = taken_so t all in
          let led = goes_in_turn u key n p planned.work.part m t sound holds can.fits on.taken
          (key ∷ []) planned.change q.change _
          (begins_in size u key n p planned m t sound holds is can may named (length on.taken)
          taken.room) taken.fresh on.stretched in
          record {
            world = led.0;
            plan = led.1;
            intents = it.work.1;
            bytes = it.work.2;
            cover = subst (λ (s : Records). Cover s led.0.state q.change.intents)
                (sym it.work.0) led.2;
          }

      pub goes_further : (n p : List ℕ) → m.name ≡ n
          → ((k : H) → j.honest k → IsLawful (j.view k))
          → TakesFurther g j old mid (Ok (New words q)) (New words planned) key (keys ++ rest)
          (Advance n p)
      goes_further n p named lawful = record {
        answers = λ h clean away ts bytes v u at is.
            let l = seen_leads g j old.registry old.shelf away ts bytes v u at
            (lawful old.shelf h) in
            let found = told clean at.tables at.has in
            let many : count_of at.tables ≡ length u.answered =
            as_many u at.tables l.sound l.records key (Advance n p) in
            let room : length u.answered < 100000 = is.1.room in
            let all = found.0 (omega arith) in (
              (
                planned_so n p u at.tables l.sound l.records is.0 is.1 named all,
                is.2,
              ),
              begun_under key (keys ++ rest) (on.rest ++ rest) (Advance n p) q.change
                  (all_so is.0.makes.once),
              found.1,
            );
        plans = λ clean t r has are once can.
            let found = told clean t has in
            let room : count_of t + length (further_keys planned.change) < 100000 =
            can.further.room in
            let all = found.0 (omega arith) in (
              record {
                key_ok = can.key_ok;
                free = can.free;
                further = subst (λ (l : List (List ℕ)). MayBeTaken key l t)
                    (sym (keys_so once)) (taken_so t all);
                at_hand = subst (AreAtHand size) (sym it.work.1)
                    (at_hand_on size planned.work.part m on.taken planned.change q.change stands
                    may.room on.stretched);
              },
              λ fit waiting. fits_on planned.work.part m on.taken planned.change q.change
                  (string_bytes words) (left_by waiting t) stands on.stretched (fit waiting),
              few_so once,
              found.1,
            );
        readable = λ clean is. absurd (no_fault (New words q) Unreadable is);
        disk = λ is. absurd (no_fault (New words q) Disk is);
        unread = λ none. absurd none;
        looks = looked_on_both old mid free (New words q) looks;
      }
