-- Batches that are handed in one after the other are a batch of all their lines.
use Rattle.gm_front.proofs.Common.{◌≡◌, ◌∙◌, ◌⊎◌, inl, inr, ◌<◌, ◌||◌, ℕ, Bool, true, false, List, [], ◌∷◌, ◌++◌, length, Option, Some, Result, Ok, Err, refl, sym, ap, subst, arith, rules, append_assoc, Appends, Appends-nil, Appends-trans, Ghosts, Held, Image, World, TakesCommands, Answers, AppendsFront, AreAnswered, AreCarriedOut, AreUnsettled, Batches, Breaks, Ends, IfOk, IsLast, LeavesLines, Progress, Stops, progress_at}
use Rattle.std.proofs.Common.{◌==◌, ap₂}
use Rattle.std.proofs.lemmas.List.{append_cancel_left}
use Rattle.gm_shelf.specs.declared.shelf.Shelf.{Ghosts as ShelfGhosts}
use Rattle.gm_bench.specs.Benches.{progress_of, registry_of, shelf_of}
use Rattle.gm_bench.specs.declared.bench.Bench.{Bench}
use Rattle.gm_bench.specs.declared.fault.BenchFault.{BenchFault}
use Rattle.gm_front.specs.declared.answer_lines.BatchEnd.{BatchEnd}
use Rattle.gm_front.specs.declared.answer_lines.BatchEnd.TheVariants.{Ended, Stopped}
use Rattle.gm_front.specs.declared.answer_lines.FrontFault.{FrontFault}
use Rattle.gm_front.specs.declared.answer_lines.FrontFault.TheVariants.{Memory, Read, Write}
use Rattle.gm_front.specs.Batch.{AnswersBatch, Tells}
use Rattle.gm_front.specs.Told.{fault_line}
use Rattle.gm_front.proofs.Turns.{front_after, kept_before}
use Rattle.gm_process.specs.declared.status.Status.{Status}
use Rattle.gm_process.specs.declared.status.Status.TheVariants.{Done}
use Rattle.gm_faults.specs.declared.fault.Fault.{Fault}
use Rattle.gm_handing_in.specs.Ends.{AnswersText, status_of_end}
use Rattle.gm_lines.specs.Input.{lines_of, onto}
use Rattle.gm_lines.proofs.TakenLines.{lines_first}

-- bytes of whole lines: the last one ends with a line feed too
abbrev pub AreWhole : List ℕ → Type 0
AreWhole bytes = (bytes ≡ []) ⊎ ((front : List ℕ) × (bytes ≡ front ++ 10 ∷ []))

onto_first : (b : ℕ) (xs ys : List (List ℕ)) → 0 < length xs
    → onto b (xs ++ ys) ≡ onto b xs ++ ys
onto_first b [] ys some = absurd (omega arith)
onto_first b (x ∷ xs) ys some = refl

some_lines : (front : List ℕ) → 0 < length (lines_of (front ++ 10 ∷ []))
some_lines [] = rw (lines_first (10 ∷ []) (omega arith)) (omega arith)
some_lines (b ∷ front) = rw (lines_first (b ∷ (front ++ 10 ∷ [])) (omega arith)) (omega arith)

one_byte : (b : ℕ) (front ys : List ℕ) (t : Bool) → (b == 10) ≡ t
    → lines_of (front ++ 10 ∷ ys) ≡ lines_of (front ++ 10 ∷ []) ++ lines_of ys
    → lines_of (b ∷ front ++ 10 ∷ ys) ≡ lines_of (b ∷ front ++ 10 ∷ []) ++ lines_of ys
unfolding lines_of
one_byte b front ys true e h = rw e (ap (λ (ls : List (List ℕ)). [] ∷ ls) h)
one_byte b front ys false e h =
    rw e (ap (onto b) h
    ∙ onto_first b (lines_of (front ++ 10 ∷ [])) (lines_of ys) (some_lines front))

-- a line feed ends a line
lines_fed : (front ys : List ℕ)
    → lines_of (front ++ 10 ∷ ys) ≡ lines_of (front ++ 10 ∷ []) ++ lines_of ys
unfolding lines_of
lines_fed [] ys = refl
lines_fed (b ∷ front) ys = one_byte b front ys _ refl (lines_fed front ys)

-- the lines of whole ones, and of more bytes
pub lines_append : (xs ys : List ℕ) → AreWhole xs → lines_of (xs ++ ys) ≡ lines_of xs ++ lines_of ys
unfolding lines_of
lines_append xs ys (inl none) = rw none refl
lines_append xs ys (inr whole) =
    ap (λ bytes. lines_of (bytes ++ ys)) whole.1
    ∙ ap lines_of (append_assoc whole.0 (10 ∷ []) ys) ∙ lines_fed whole.0 ys
    ∙ ap (λ bytes. lines_of bytes ++ lines_of ys) (sym whole.1)

no_lines : lines_of [] ≡ []
unfolding lines_of
no_lines = refl

or_assoc : (a b c : Bool) → ((a || b) || c) ≡ (a || (b || c))
or_assoc true b c = refl
or_assoc false b c = refl

-- lines in turn, and others
pub answers_append : (u v w : World) (xs ys : List (List ℕ)) (text more : List ℕ) (r s : Bool)
    → Answers u xs v text r → Answers v ys w more s → Answers u (xs ++ ys) w (text ++ more) (r || s)
answers_append u v w [] ys text more r s told then =
    rw (told.1, told.2) (subst (λ (x : World). Answers x ys w more s) told.0 then)
answers_append u v w (line ∷ xs) ys text more r s told then = record {
  world = told.world;
  first = told.first;
  more = told.more ++ more;
  is_first_refused = told.is_first_refused;
  is_more_refused = told.is_more_refused || s;
  replies = told.replies;
  rest = answers_append told.world v w xs ys told.more more told.is_more_refused s told.rest then;
  all = ap (λ (t : List ℕ). t ++ more) told.all ∙ append_assoc told.first told.more more;
  either = ap (λ (b : Bool). b || s) told.either
      ∙ or_assoc told.is_first_refused told.is_more_refused s;
}

-- the last of them that was done
last_append : (u v before world : World) (xs ys : List (List ℕ)) (text : List ℕ) (r : Bool)
    → Answers u xs v text r → IsLast v ys before world → IsLast u (xs ++ ys) before world
last_append u v before world xs ys text r told (inl same) = inl same
last_append u v before world xs ys text r told (inr last) = inr (record {
  older = xs ++ last.older;
  line = last.line;
  newer = last.newer;
  all = ap (λ (ls : List (List ℕ)). xs ++ ls) last.all
      ∙ sym (append_assoc xs last.older (last.line ∷ last.newer));
  text = text ++ last.text;
  refused = r || last.refused;
  answers = answers_append u v before xs last.older text last.text r last.refused told
      last.answers;
  key = last.key;
  command = last.command;
  reply = last.reply;
  asks = last.asks;
  step = last.step;
})

-- all, and then what is told at a fault
tells_after : (e : FrontFault) (a b c : Option (List ℕ)) (xs ys : List ℕ) → Appends a b xs
    → Tells e b c ys → Tells e a c (xs ++ ys)
tells_after Memory a b c xs ys first then = front_after a b c xs ys first then
tells_after Read a b c xs ys first then = Appends-trans a b c xs ys first then
tells_after Write a b c xs ys first then = front_after a b c xs ys first then

-- only a batch of which no line was refused is done
ended_well : (end : Result BatchEnd FrontFault) → Ok Done ≡ status_of_end end
    → end ≡ Ok (Ended false)
ended_well (Ok (Ended true)) is = search rules
ended_well (Ok (Ended false)) is = refl
ended_well (Ok (Stopped fault)) is = search rules
ended_well (Err fault) is = search rules

module _ {S H : Type 0} (g : Ghosts S) (j : ShelfGhosts H) where
  -- a batch of which no line was refused, and then another
  module _ (xs ys : List ℕ) (before mid now : Option (List ℕ)) (r : Held S) (h : H) (away : Image)
      (u : World) (whole : AreWhole xs)
      (first : Ends (Some xs) before mid (AreAnswered g j r h away u) false) where
    all_then : (lines : List (List ℕ)) → lines_of ys ≡ lines
        → lines_of (xs ++ ys) ≡ first.lines ++ lines
    all_then lines all =
        lines_append xs ys whole ∙ ap₂ (λ (a b : List (List ℕ)). a ++ b) first.read all

    first_then : (lines more : List (List ℕ)) → lines_of ys ≡ lines ++ more
        → lines_of (xs ++ ys) ≡ (first.lines ++ lines) ++ more
    first_then lines more all =
        all_then (lines ++ more) all ∙ sym (append_assoc first.lines lines more)

    left_then : (lines : List (List ℕ)) → LeavesLines (Some ys) lines
        → LeavesLines (Some (xs ++ ys)) (first.lines ++ lines)
    left_then lines left = λ all. left (append_cancel_left first.lines (lines_of ys) lines
        (sym (all_then (lines_of ys) refl) ∙ all))

    answers_then : (w : World) (lines : List (List ℕ)) (text : List ℕ) (refused : Bool)
        → Answers first.answered.world lines w text refused
        → Answers u (first.lines ++ lines) w (first.text ++ text) refused
    answers_then w lines text refused then =
        answers_append u first.answered.world w first.lines lines first.text text false refused
        first.answered.answers then

    answered_then : (s : Held S) (k : H) (lines : List (List ℕ)) (text : List ℕ)
        (refused : Bool) → AreAnswered g j s k away first.answered.world lines text refused
        → AreAnswered g j s k away u (first.lines ++ lines) (first.text ++ text) refused
    answered_then s k lines text refused then = record {
      world = then.world;
      answers = answers_then then.world lines text refused then.answers;
      at = then.at;
    }

    abbrev carried_then : (s : Held S) (k : H) (lines : List (List ℕ)) (text : List ℕ)
        (refused : Bool) → AreCarriedOut g j s k away first.answered.world lines text refused
        → AreCarriedOut g j s k away u (first.lines ++ lines) (first.text ++ text) refused
    carried_then s k lines text refused then = record {
      world = then.world;
      before = then.before;
      answers = answers_then then.world lines text refused then.answers;
      last = last_append u first.answered.world then.before then.world first.lines lines first.text
          false first.answered.answers then.last;
      intents = then.intents;
      bytes = then.bytes;
      at = then.at;
    }

    unsettled_then : (s : Held S) (k : H) (lines : List (List ℕ)) (text : List ℕ) (refused : Bool)
        → AreUnsettled g j s k away first.answered.world lines text refused
        → AreUnsettled g j s k away u (first.lines ++ lines) (first.text ++ text) refused
    unsettled_then s k lines text refused then = record {
      registry = then.registry;
      shelf = then.shelf;
      carried = carried_then then.registry then.shelf lines text refused then.carried;
      left = then.left;
    }

    stops_then : (Told All : List ℕ → Type 0) (s : Held S) (k : H) (fault : BenchFault)
        → ((text : List ℕ) → Told text → All (first.text ++ text))
        → Stops g j (Some ys) Told s k away first.answered.world fault
        → Stops g j (Some (xs ++ ys)) All s k away u fault
    stops_then Told All s k fault told then = record {
      lines = first.lines ++ then.lines;
      line = then.line;
      key = then.key;
      command = then.command;
      text = first.text ++ then.text;
      refused = then.refused;
      registry = then.registry;
      shelf = then.shelf;
      read = (
        then.read.0,
        first_then (then.lines ++ then.line ∷ []) then.read.0 then.read.1
            ∙ ap (λ (ls : List (List ℕ)). ls ++ then.read.0)
            (sym (append_assoc first.lines then.lines (then.line ∷ []))),
      );
      asks = then.asks;
      answered = carried_then then.registry then.shelf then.lines then.text then.refused
          then.answered;
      told = subst All (sym (append_assoc first.text then.text (fault_line then.key fault)))
          (told (then.text ++ fault_line then.key fault) then.told);
      left = then.left;
      disk = then.disk;
      store = then.store;
      readable = then.readable;
    }

    abbrev breaks_then : (Told All : List ℕ → Type 0)
        (Answered Both : List (List ℕ) → List ℕ → Bool → Type 0)
        → ((text : List ℕ) → Told text → All (first.text ++ text))
        → ((lines : List (List ℕ)) (text : List ℕ) (refused : Bool) → Answered lines text refused
        → Both (first.lines ++ lines) (first.text ++ text) refused)
        → Breaks (Some ys) Told Answered → Breaks (Some (xs ++ ys)) All Both
    breaks_then Told All Answered Both told answered then = record {
      lines = first.lines ++ then.lines;
      text = first.text ++ then.text;
      refused = then.refused;
      read = (then.read.0, first_then then.lines then.read.0 then.read.1);
      told = told then.text then.told;
      answered = answered then.lines then.text then.refused then.answered;
    }

    batches_then : (s : Held S) (k : H) (end : Result BatchEnd FrontFault)
        → Batches g j (Some ys) mid now s k away first.answered.world end
        → Batches g j (Some (xs ++ ys)) before now s k away u end
    batches_then s k (Ok (Ended refused)) then = record {
      lines = first.lines ++ then.lines;
      text = first.text ++ then.text;
      read = all_then then.lines then.read;
      told = Appends-trans before mid now first.text then.text first.told then.told;
      answered = answered_then s k then.lines then.text refused then.answered;
    }
    batches_then s k (Ok (Stopped fault)) then =
        stops_then (Appends mid now) (Appends before now) s k fault
        (λ text told. Appends-trans before mid now first.text text first.told told) then
    batches_then s k (Err fault) (inl then) =
        inl (breaks_then (Tells fault mid now) (Tells fault before now)
        (AreAnswered g j s k away first.answered.world) (AreAnswered g j s k away u)
        (λ text told. tells_after fault before mid now first.text text first.told told)
        (answered_then s k) then)
    batches_then s k (Err fault) (inr (inl then)) = inr (inl (
      then.0,
      stops_then (AppendsFront mid now) (AppendsFront before now) s k then.0
          (λ text told. front_after before mid now first.text text first.told told) then.1,
    ))
    batches_then s k (Err fault) (inr (inr then)) = inr (inr (
      breaks_then (Tells fault mid now) (Tells fault before now)
          (AreUnsettled g j s k away first.answered.world) (AreUnsettled g j s k away u)
          (λ text told. tells_after fault before mid now first.text text first.told told)
          (unsettled_then s k) then.0,
      left_then then.0.lines then.1,
    ))

  -- both are one batch of all lines
  pub batch_then : (xs ys : List ℕ) (before mid now : Option (List ℕ)) (a b c : Bench S H)
      (end : Result BatchEnd FrontFault) → AreWhole xs
      → AnswersBatch g j (Some xs) before mid a b (Ok (Ended false))
      → AnswersBatch g j (Some ys) mid now b c end
      → AnswersBatch g j (Some (xs ++ ys)) before now a c end
  batch_then xs ys before mid now a b c end whole first then = record {
    does = λ honest kept away u at.
        let mid_kept = kept_before g j (registry_of b) (registry_of c) then.keep.clean kept in
        let did = first.does honest mid_kept away u at in
        batches_then xs ys before mid now (registry_of b) (shelf_of b) away u whole did
        (registry_of c) (shelf_of c) end
        (then.does (first.keep.shelf.honest honest) kept away did.answered.world did.answered.at);
    progress = subst (λ (p : Progress). IfOk end (λ e. progress_of c ≡ progress_at p e))
        first.progress then.progress;
    phase = then.phase;
    closes = record {
      closed = λ failed. then.closes.closed (first.progress ∙ failed) ∙ first.closes.closed failed;
      reopen = λ is. sym first.progress ∙ then.closes.reopen is;
      absent = then.closes.absent;
      redone = then.closes.redone ∙ first.closes.redone;
    };
    keep = record {
      shelf = record {
        honest = λ honest. then.keep.shelf.honest (first.keep.shelf.honest honest);
        size = then.keep.shelf.size ∙ first.keep.shelf.size;
        count = omega (arith, first.keep.shelf.count, then.keep.shelf.count);
      };
      clean = omega (arith, first.keep.clean, then.keep.clean);
    };
  }

  -- a batch of no lines
  pub no_batch : (before : Option (List ℕ)) (a : Bench S H) → TakesCommands (progress_of a)
      → AnswersBatch g j (Some []) before before a a (Ok (Ended false))
  no_batch before a takes = record {
    does = λ honest kept away u at. record {
      lines = [];
      text = [];
      read = no_lines;
      told = Appends-nil before;
      answered = record { world = u; answers = (refl, refl, refl); at = at };
    };
    progress = refl;
    phase = takes;
    closes = record {
      closed = λ failed. refl;
      reopen = search rules;
      absent = search rules;
      redone = refl;
    };
    keep = record {
      shelf = record { honest = λ honest. honest; size = refl; count = omega arith };
      clean = omega arith;
    };
  }

  -- the same of a text
  pub no_text : (before : Option (List ℕ)) (a : Bench S H) → TakesCommands (progress_of a)
      → AnswersText g j [] before before a a (Ok Done)
  no_text before a takes =
      record { end = Ok (Ended false); answers = no_batch before a takes; status = refl }

  -- the same of a text of which no line was refused, and of another
  pub text_then : (xs ys : List ℕ) (before mid now : Option (List ℕ)) (a b c : Bench S H)
      (result : Result Status Fault) → AreWhole xs
      → AnswersText g j xs before mid a b (Ok Done) → AnswersText g j ys mid now b c result
      → AnswersText g j (xs ++ ys) before now a c result
  text_then xs ys before mid now a b c result whole first then =
      let ended = subst (λ e. AnswersBatch g j (Some xs) before mid a b e)
      (ended_well first.end first.status) first.answers in
      record {
        end = then.end;
        answers = batch_then xs ys before mid now a b c then.end whole ended then.answers;
        status = then.status;
      }
