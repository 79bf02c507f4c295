-- One line of a batch after the other.
use Rattle.gm_front.proofs.Common.{◌≡◌, ◌≢◌, ◌∙◌, ◌⊎◌, inl, inr, ◌<◌, ◌≤◌, ◌||◌, ◌+◌, nat_lt, ℕ, Bool, true, false, refl, sym, ap, subst, subst₂, arith, List, [], ◌∷◌, ◌++◌, codes, length, take, replicate, Option, Some, None, IfSome, append-nil, append_assoc, length-replicate, Appends, Appends-trans, Appends-nil, Ghosts, Held, Image, Command, World, Step, DiskKept, WasClean, BenchFault, Answer, Progress, TakesCommands, TakesNext, phase_of, Stands, carried_so, stands_rest, IsAt, FrontFault, Memory, Read, Write, End, Whole, Long, Outcome, Answered, refusal_line, Asked, asked_at, IsLine, line_at, Replies, Answers, AppendsFront, AreCarriedOut, AreFirst, AreLines, AreStanding, Breaks, Ends, LeavesLines, OnSome, IsLast, Stops, IsFarAfter, IsWaiting, NextComesTo, is_refused, text_of}
use Rattle.std.proofs.lemmas.Bool.Decides.{nat_tests}
use Rattle.std.specs.Borrow.{Bor}
use Rattle.std.specs.Io.BufRead.{drop_through}
use Rattle.gm_shelf.specs.declared.shelf.Shelf.{Ghosts as ShelfGhosts}
use Rattle.gm_state.specs.declared.intents.Reply.{Reply}
use Rattle.gm_rules.specs.AbstractCalls as run
use Rattle.gm_bench.specs.declared.answer.Answer.TheVariants as bench
use Rattle.gm_bench.specs.declared.phase.Phase.TheVariants as phase
use Rattle.gm_bench.specs.declared.phase.Progress.TheVariants as progress
use Rattle.gm_bench.specs.Running.{answer_of}
use Rattle.gm_lines.specs.declared.lines.Line.{Line}
use Rattle.gm_front.specs.declared.outcome.Outcome.TheVariants.{Nothing, Wrong, Failed}
use Rattle.gm_lines.specs.Asked as asking
use Rattle.gm_lines.specs.Asked.{asked}
use Rattle.gm_lines.specs.Input.{lines_of}
use Rattle.gm_front.specs.Batch.{Tells}
use Rattle.gm_lines.proofs.TakenLines.{lines_first}

or_false : (b : Bool) → (b || false) ≡ b
or_false true = refl
or_false false = refl

or_assoc : (a b c : Bool) → ((a || b) || c) ≡ (a || (b || c))
or_assoc true b c = refl
or_assoc false b c = refl

-- lines in turn, and one more
pub answers_more : (u : World) (lines : List (List ℕ)) (v w : World) (line text first : List ℕ)
    (r s : Bool) → Answers u lines v text r → Replies v (asked line) w first s
    → Answers u (lines ++ line ∷ []) w (text ++ first) (r || s)
answers_more u [] v w line text first r s told replies = record {
  world = w;
  first = first;
  more = [];
  is_first_refused = s;
  is_more_refused = false;
  replies = subst (λ (x : World). Replies x (asked line) w first s) told.0 replies;
  rest = (refl, refl, refl);
  all = ap (λ (t : List ℕ). t ++ first) told.1 ∙ sym (append-nil first);
  either = ap (λ (b : Bool). b || s) told.2 ∙ sym (or_false s);
}
answers_more u (line' ∷ lines) v w line text first r s told replies = record {
  world = told.world;
  first = told.first;
  more = told.more ++ first;
  is_first_refused = told.is_first_refused;
  is_more_refused = told.is_more_refused || s;
  replies = told.replies;
  rest = answers_more told.world lines v w line told.more first told.is_more_refused s told.rest
      replies;
  all = ap (λ (t : List ℕ). t ++ first) told.all ∙ append_assoc told.first told.more first;
  either = ap (λ (b : Bool). b || s) told.either
      ∙ or_assoc told.is_first_refused told.is_more_refused s;
}

-- these lines were taken, and what is left has the others
abbrev pub IsLeft : Option (List ℕ) → Option (List ℕ) → List (List ℕ) → Type 0
IsLeft input rest lines =
    IfSome input (λ bytes. (left : List ℕ) × (rest ≡ Some left)
    × (lines_of bytes ≡ lines ++ lines_of left))

pub none_taken : (input : Option (List ℕ)) → IsLeft input input []
none_taken None = tt
none_taken (Some i) = (i, refl, refl)

pub long_asked : (line : List ℕ) → 131072 < length line → asked line ≡ asking.Wrong (codes "?")
unfolding asked
long_asked line h =
    let test : nat_lt 131072 (length line) ≡ true = grind (arith, nat_tests) in
    rw test refl

-- there are lines of any length
pub long_line : (n : ℕ) → (line : List ℕ) × (n < length line)
long_line n = (replicate (n + 1) 0, rw length-replicate (omega arith))

pub longer : (bytes : List ℕ) → 131072 < length (line_at bytes) → 0 < length bytes
longer [] h = absurd (omega arith)
longer (b ∷ bytes) h = omega arith

-- a line that was taken is the next of the input's
pub next_taken : (bytes left : List ℕ) (lines : List (List ℕ)) (line : List ℕ) → 0 < length left
    → line ≡ line_at left → lines_of bytes ≡ lines ++ lines_of left
    → lines_of bytes ≡ (lines ++ line ∷ []) ++ lines_of (drop_through 10 left)
next_taken bytes left lines line some is all =
    all ∙ ap (λ (ls : List (List ℕ)). lines ++ ls)
    (lines_first left some ∙ ap (λ (l : List ℕ). l ∷ lines_of (drop_through 10 left)) (sym is))
    ∙ sym (append_assoc lines (line ∷ []) (lines_of (drop_through 10 left)))

-- a line that asks what was found, and was taken
pub record Taken (input new : Option (List ℕ)) (lines : List (List ℕ)) (buffer : List ℕ)
    (found : Line) : Type 0 where
  pub line : List ℕ
  pub asks : asked line ≡ asked_at buffer found
  pub left : IsLeft input new (lines ++ line ∷ [])

unfoldable pub taken : (input rest new : Option (List ℕ)) (lines : List (List ℕ)) (buffer : List ℕ)
    (found : Line) → IsLeft input rest lines → IfSome rest (λ bytes. IsLine bytes new buffer found)
    → found ≢ End → Taken input new lines buffer found
taken input rest new lines buffer End left is some = absurd (some refl)
taken None rest new lines buffer (Whole n) left is some =
    record { line = take n buffer; asks = refl; left = tt }
taken None rest new lines buffer Long left is some =
    let long = long_line 131072 in
    record { line = long.0; asks = long_asked long.0 long.1; left = tt }
taken (Some i) rest new lines buffer (Whole n) left is some =
    let line = rw left.1 at is in
    record {
      line = take n buffer;
      asks = refl;
      left = (
        drop_through 10 left.0,
        line.3,
        next_taken i left.0 lines (take n buffer) line.0 line.2 left.2,
      );
    }
taken (Some i) rest new lines buffer Long left is some =
    let line = rw left.1 at is in
    record {
      line = line_at left.0;
      asks = long_asked (line_at left.0) line.0;
      left = (
        drop_through 10 left.0,
        line.1,
        next_taken i left.0 lines (line_at left.0) (longer left.0 line.0) refl left.2,
      );
    }

pub first_of_left : (input rest : Option (List ℕ)) (lines : List (List ℕ)) → IsLeft input rest lines
    → AreFirst input lines
first_of_left None rest lines left = tt
first_of_left (Some i) rest lines left = (lines_of left.0, left.2)

-- what waits to be settled does so only if lines are left
abbrev pub WaitsForLines : Option (List ℕ) → Option (List ℕ) → Progress → Type 0
WaitsForLines input rest p = (lines : List (List ℕ)) → IsLeft input rest lines
    → phase_of p ≡ phase.Applied → LeavesLines input lines

-- so nothing waits if all were taken
pub waits_no_more : (input rest : Option (List ℕ)) (p : Progress) (lines : List (List ℕ))
    → WaitsForLines input rest p → IsLeft input rest lines → AreLines input lines
    → OnSome input (phase_of p ≢ phase.Applied)
waits_no_more None rest p lines waits left all = tt
waits_no_more (Some i) rest p lines waits left all = λ applied. waits lines left applied all

lines_of_none : lines_of [] ≡ []
unfolding lines_of
lines_of_none = refl

-- if nothing is left, all lines were taken
pub all_taken : (input rest new : Option (List ℕ)) (lines : List (List ℕ)) (buffer : List ℕ)
    → IsLeft input rest lines → IfSome rest (λ bytes. IsLine bytes new buffer End)
    → AreLines input lines
all_taken None rest new lines buffer left is = tt
all_taken (Some i) rest new lines buffer left is =
    let end = rw left.1 at is in
    left.2 ∙ ap (λ (bytes : List ℕ). lines ++ lines_of bytes) end.0
    ∙ ap (λ (ls : List (List ℕ)). lines ++ ls) lines_of_none ∙ append-nil lines

-- all, and then a beginning of more
pub front_after : (a b c : Option (List ℕ)) (xs ys : List ℕ) → Appends a b xs → AppendsFront b c ys
    → AppendsFront a c (xs ++ ys)
front_after None b c xs ys h f = tt
front_after (Some os) None c xs ys h f = absurd h
front_after (Some os) (Some bs) None xs ys h f = absurd f
front_after (Some os) (Some bs) (Some cs) xs ys h f = (
  xs ++ f.0,
  f.1,
  ap (λ (t : List ℕ). xs ++ t) f.2 ∙ sym (append_assoc xs f.0 f.1),
  f.3 ∙ ap (λ (t : List ℕ). t ++ f.0) h ∙ append_assoc os xs f.0,
)

pub front_all : (a b : Option (List ℕ)) (xs : List ℕ) → Appends a b xs → AppendsFront a b xs
front_all None b xs h = tt
front_all (Some os) None xs h = absurd h
front_all (Some os) (Some bs) xs h = (xs, [], sym (append-nil xs), h)

-- it isn't the bench that failed
abbrev pub GoesOn : Outcome → Type 0
GoesOn (Failed key fault) = ⊥
GoesOn o = Unit {0}

pub goes_on : (o : Outcome) → ((key : Bor (List ℕ)) (fault : BenchFault) → o ≡ Failed key fault → ⊥)
    → GoesOn o
goes_on Nothing not = tt
goes_on (Wrong key) not = tt
goes_on (Answered key answer) not = tt
goes_on (Failed key fault) not = not key fault refl

-- it failed if it is told so
pub far_failed : (p q : Progress) (follows : Bool) (o : Outcome) → IsFarAfter p q follows o
    → (key : Bor (List ℕ)) (f : BenchFault) → o ≡ Failed key f → q ≡ progress.Failed
far_failed p q follows o far key f is = subst (λ (x : Outcome). IsFarAfter p q follows x) is far

-- it takes the next command then, or failed
pub takes_after : (p q : Progress) (follows : Bool) (o : Outcome) → TakesNext p
    → IsFarAfter p q follows o → TakesNext q
takes_after p q follows Nothing takes far = subst TakesNext (sym far) takes
takes_after p q follows (Wrong key) takes far = subst TakesNext (sym far) takes
takes_after p q follows (Answered key answer) takes far = far.2
takes_after p q follows (Failed key fault) takes far = inl (inr (ap phase_of far))

-- only a bench that failed has failed after a line that was answered
pub far_on : (p q : Progress) (follows : Bool) (o : Outcome) → IsFarAfter p q follows o → GoesOn o
    → (p ≡ progress.Failed → ⊥) → q ≡ progress.Failed → ⊥
far_on p q follows Nothing far on other is = other (sym far ∙ is)
far_on p q follows (Wrong key) far on other is = other (sym far ∙ is)
far_on p q follows (Answered key answer) far on other is = far.1 is
far_on p q follows (Failed key fault) far on other is = absurd on

pub tells_front : (e : FrontFault) (before now : Option (List ℕ)) (text : List ℕ) → (e ≡ Read → ⊥)
    → AppendsFront before now text → Tells e before now text
tells_front Read before now text not front = absurd (not refl)
tells_front Memory before now text not front = front
tells_front Write before now text not front = front

-- where a line leads whose bench stood for w, and v was before: nothing is still to be settled; or
-- what it was before; or the line's command
abbrev pub IsFrom : World → World → World → World → Asked → Type 0
IsFrom v w before world asks =
    (before ≡ world) ⊎ (((before ≡ v) × (world ≡ w)) ⊎ ((before ≡ w) × (key : List ℕ)
    × (command : Command) × (reply : Reply) × (asks ≡ asking.Call key command)
    × Step w key command world reply))

answered_from : (v u before world : World) (key : List ℕ) (command : Command) (answer : Answer)
    → run.Calls u (record { key = key; command = command }) world (answer_of answer)
    → (before ≡ world) ⊎ IsWaiting v u before answer
    → IsFrom v u before world (asking.Call key command)
answered_from v u before world key command answer calls (inl same) = inl same
answered_from v u before world key command (bench.Done n reply) calls (inr is) =
    inr (inr (is, key, command, reply, refl, calls.3))
answered_from v u before world key command (bench.Repeated n reply) calls (inr is) =
    inr (inl (is, calls.0))
answered_from v u before world key command (bench.Refused why) calls (inr is) =
    inr (inl (is, calls.0))

-- the last command that was done, after one more line
last_more : (u : World) (lines : List (List ℕ)) (line text : List ℕ) (refused : Bool)
    (v w before world : World) → IsLast u lines v w → Answers u lines w text refused
    → IsFrom v w before world (asked line) → IsLast u (lines ++ line ∷ []) before world
last_more u lines line text refused v w before world last answers (inl same) = inl same
last_more u lines line text refused v w before world (inl none) answers (inr (inl same)) =
    inl (same.0 ∙ none ∙ sym same.1)
last_more u lines line text refused v w before world (inr done) answers (inr (inl same)) =
    subst₂ (λ (x y : World). IsLast u (lines ++ line ∷ []) x y) (sym same.0) (sym same.1)
    (inr (record {
      older = done.older;
      line = done.line;
      newer = done.newer ++ line ∷ [];
      all = ap (λ (ls : List (List ℕ)). ls ++ line ∷ []) done.all
          ∙ append_assoc done.older (done.line ∷ done.newer) (line ∷ []);
      text = done.text;
      refused = done.refused;
      answers = done.answers;
      key = done.key;
      command = done.command;
      reply = done.reply;
      asks = done.asks;
      step = done.step;
    }))
last_more u lines line text refused v w before world last answers
    (inr (inr (is, key, command, reply, asks, step))) =
    subst (λ (x : World). IsLast u (lines ++ line ∷ []) x world) (sym is) (inr (record {
      older = lines;
      line = line;
      newer = [];
      all = refl;
      text = text;
      refused = refused;
      answers = answers;
      key = key;
      command = command;
      reply = reply;
      asks = asks;
      step = step;
    }))

module _ {S H : Type 0} (g : Ghosts S) (j : ShelfGhosts H) where
  -- a line's answer, and where it leaves the bench
  record Replied (q : Progress) (s : Held S) (k : H) (away : Image) (v u : World) (asks : Asked)
      (o : Outcome) : Type 0 where
    pub world : World
    pub before : World
    pub replies : Replies u asks world (text_of o) (is_refused o)
    pub from : IsFrom v u before world asks
    pub stands : Stands g j q s k away before world

  replied : (q : Progress) (r s : Held S) (h k : H) (away : Image) (v u : World) (asks : Asked)
      (o : Outcome) → NextComesTo g j q r s h k away v u asks o → GoesOn o
      → Replied q s k away v u asks o
  replied q r s h k away v u asks Nothing comes on = record {
    world = u;
    before = v;
    replies = subst (λ (x : Asked). Replies u x u [] false) (sym comes.0) (refl, refl, refl);
    from = inr (inl (refl, refl));
    stands = comes.1;
  }
  replied q r s h k away v u asks (Wrong key) comes on = record {
    world = u;
    before = v;
    replies = subst (λ (x : Asked). Replies u x u (refusal_line key.now 1) true)
        (sym comes.0) (refl, refl, refl);
    from = inr (inl (refl, refl));
    stands = comes.1;
  }
  replied q r s h k away v u asks (Answered key answer) comes on =
      let it = comes.2 in record {
        world = it.world;
        before = it.before;
        replies = subst (λ (x : Asked). Replies u x it.world (text_of (Answered key answer))
            (is_refused (Answered key answer))) (sym comes.1) (_, it.calls, refl, refl);
        from = subst (λ (x : Asked). IsFrom v u it.before it.world x) (sym comes.1)
            (answered_from v u it.before it.world key.now comes.0 answer it.calls it.waits);
        stands = it.stands;
      }
  replied q r s h k away v u asks (Failed key fault) comes on = absurd on

  -- what a request comes to, wherever the bench stands
  abbrev pub Comes : Progress → Progress → Held S → Held S → H → H → Image → Asked → Outcome → Type
      0
  Comes p q r s h k away asks o = (v u : World) → Stands g j p r h away v u
      → NextComesTo g j q r s h k away v u asks o

  pub comes_so : (p q : Progress) (r s : Held S) (h k : H) (away : Image) (asks x : Asked)
      (o : Outcome) → asks ≡ x → Comes p q r s h k away asks o → Comes p q r s h k away x o
  comes_so p q r s h k away asks x o e comes =
      subst (λ (y : Asked). Comes p q r s h k away y o) e comes

  pub comes_to : (p q : Progress) (r s : Held S) (h k : H) (away : Image) (x : Asked)
      (o y : Outcome) → o ≡ y → Comes p q r s h k away x o → Comes p q r s h k away x y
  comes_to p q r s h k away x o y e comes =
      subst (λ (z : Outcome). Comes p q r s h k away x z) e comes

  -- the lines that were taken so far, what they are told, and where the bench is
  pub record Answering (p : Progress) (input rest before now : Option (List ℕ)) (s : Held S) (k : H)
      (away : Image) (u : World) (refused : Bool) : Type 0 where
    pub lines : List (List ℕ)
    pub text : List ℕ
    pub left : IsLeft input rest lines
    pub told : Appends before now text
    pub answered : AreStanding g j p s k away u lines text refused

  pub begun : (p : Progress) (input before : Option (List ℕ)) (s : Held S) (k : H) (away : Image)
      (u : World) → TakesCommands p → IsAt g j s k away [] [] u u
      → Answering p input input before before s k away u false
  begun p input before s k away u takes at =
      record {
        lines = [];
        text = [];
        left = none_taken input;
        told = Appends-nil before;
        answered = record {
          world = u;
          before = u;
          answers = (refl, refl, refl);
          last = inl refl;
          stands = stands_rest g j p s k away u takes at;
        };
      }

  -- a line more is answered, but perhaps not told
  pub record Next (q : Progress) (input new : Option (List ℕ)) (lines : List (List ℕ))
      (text : List ℕ) (s : Held S) (k : H) (away : Image) (u : World) (refused : Bool)
      (o : Outcome) : Type 0 where
    pub more : List (List ℕ)
    pub left : IsLeft input new more
    pub answered : AreStanding g j q s k away u more (text ++ text_of o) (refused || is_refused o)

  module _ (p q : Progress) (input rest new before mid : Option (List ℕ)) (r s : Held S) (h k : H)
      (away : Image) (u : World) (refused : Bool) (buffer : List ℕ) (found : Line) (o : Outcome)
      (so : Answering p input rest before mid r h away u refused)
      (is : IfSome rest (λ bytes. IsLine bytes new buffer found)) (some : found ≢ End)
      (comes : Comes p q r s h k away (asked_at buffer found) o) where
    next_answered : GoesOn o → Next q input new so.lines so.text s k away u refused o
    next_answered on =
        let line = taken input rest new so.lines buffer found so.left is some in
        let v = so.answered.before in
        let w = so.answered.world in
        let reply = replied q r s h k away v w (asked_at buffer found) o
        (comes v w so.answered.stands) on in
        let replies = subst (λ (x : Asked). Replies w x reply.world (text_of o) (is_refused o))
        (sym line.asks) reply.replies in
        let from = subst (λ (x : Asked). IsFrom v w reply.before reply.world x) (sym line.asks)
        reply.from in
        record {
          more = so.lines ++ line.line ∷ [];
          left = line.left;
          answered = record {
            world = reply.world;
            before = reply.before;
            answers = answers_more u so.lines w reply.world line.line so.text (text_of o) refused
                (is_refused o) so.answered.answers replies;
            last = last_more u so.lines line.line so.text refused v w reply.before reply.world
                so.answered.last so.answered.answers from;
            stands = reply.stands;
          };
        }

    pub one_more : (now : Option (List ℕ)) (either : Bool) → either ≡ (refused || is_refused o)
        → GoesOn o → Appends mid now (text_of o)
        → Answering q input new before now s k away u either
    one_more now either is_either on wrote =
        let next = next_answered on in
        rw is_either (record {
          lines = next.more;
          text = so.text ++ text_of o;
          left = next.left;
          told = Appends-trans before mid now so.text (text_of o) so.told wrote;
          answered = next.answered;
        })

    -- it isn't told, or not all of it
    pub untold : (Told : List ℕ → Type 0) → GoesOn o → Told (so.text ++ text_of o)
        → WaitsForLines input new q
        → (it : Breaks input Told (AreStanding g j q s k away u))
        × (phase_of q ≡ phase.Applied → LeavesLines input it.lines)
    untold Told on told waits =
        let next = next_answered on in (
          record {
            lines = next.more;
            text = so.text ++ text_of o;
            refused = refused || is_refused o;
            read = first_of_left input new next.more next.left;
            told = told;
            answered = next.answered;
          },
          waits next.more next.left,
        )

  -- what waits is carried out
  abbrev pub carried : (p : Progress) (s : Held S) (k : H) (away : Image) (u : World)
      (lines : List (List ℕ)) (text : List ℕ) (refused : Bool)
      → AreStanding g j p s k away u lines text refused
      → AreCarriedOut g j s k away u lines text refused
  carried p s k away u lines text refused it =
      let was = carried_so g j p s k away it.before it.world it.stands in record {
        world = it.world;
        before = it.before;
        answers = it.answers;
        last = it.last;
        intents = was.intents;
        bytes = was.bytes;
        at = was.at;
      }

  -- the bench failed at the line
  module _ (p q : Progress) (input rest new before mid : Option (List ℕ)) (r s : Held S) (h k : H)
      (away : Image) (u : World) (refused : Bool) (buffer : List ℕ) (found : Line)
      (key : Bor (List ℕ)) (fault : BenchFault)
      (so : Answering p input rest before mid r h away u refused)
      (is : IfSome rest (λ bytes. IsLine bytes new buffer found)) (some : found ≢ End)
      (comes : Comes p q r s h k away (asked_at buffer found) (Failed key fault)) where
    pub told_wholly : (now : Option (List ℕ)) (o : Outcome) → o ≡ Failed key fault
        → Appends mid now (text_of o) → Appends before now (so.text ++ text_of (Failed key fault))
    told_wholly now o e wrote =
        Appends-trans before mid now so.text (text_of (Failed key fault)) so.told
        (subst (λ (x : Outcome). Appends mid now (text_of x)) e wrote)

    pub stopped : (Told : List ℕ → Type 0) → Told (so.text ++ text_of (Failed key fault))
        → Stops g j input Told s k away u fault
    stopped Told told =
        let line = taken input rest new so.lines buffer found so.left is some in
        let came = comes so.answered.before so.answered.world so.answered.stands in
        let was = carried_so g j p r h away so.answered.before so.answered.world
        so.answered.stands in
        record {
          lines = so.lines;
          line = line.line;
          key = key.now;
          command = came.0;
          text = so.text;
          refused = refused;
          registry = r;
          shelf = h;
          read = first_of_left input new (so.lines ++ line.line ∷ []) line.left;
          asks = line.asks ∙ came.1;
          answered = record {
            world = so.answered.world;
            before = so.answered.before;
            answers = so.answered.answers;
            last = so.answered.last;
            intents = was.intents;
            bytes = was.bytes;
            at = was.at;
          };
          told = told;
          left = came.2.left;
          disk = came.2.disk;
          store = came.2.store;
          readable = λ is written. came.2.readable is was.intents was.bytes was.at written;
        }

  -- at a fault: what was told, and what wasn't
  pub broken : (p : Progress) (input rest before now : Option (List ℕ)) (s : Held S) (k : H)
      (away : Image) (u : World) (refused : Bool) (Told : List ℕ → Type 0)
      (so : Answering p input rest before now s k away u refused) → Told so.text
      → WaitsForLines input rest p
      → (it : Breaks input Told (AreStanding g j p s k away u))
      × (phase_of p ≡ phase.Applied → LeavesLines input it.lines)
  broken p input rest before now s k away u refused Told so told waits = (
    record {
      lines = so.lines;
      text = so.text;
      refused = refused;
      read = first_of_left input rest so.lines so.left;
      told = told;
      answered = so.answered;
    },
    waits so.lines so.left,
  )

  pub finished : (p : Progress) (input rest new before now : Option (List ℕ)) (s : Held S) (k : H)
      (away : Image) (u : World) (refused : Bool) (buffer : List ℕ)
      → Answering p input rest before now s k away u refused
      → IfSome rest (λ bytes. IsLine bytes new buffer End) → WaitsForLines input rest p
      → Ends input before now (AreStanding g j p s k away u) refused
      × OnSome input (phase_of p ≢ phase.Applied)
  finished p input rest new before now s k away u refused buffer so is waits =
      let all = all_taken input rest new so.lines buffer so.left is in (
        record {
          lines = so.lines;
          text = so.text;
          read = all;
          told = so.told;
          answered = so.answered;
        },
        waits_no_more input rest p so.lines waits so.left all,
      )

  pub told_in_part : (p q : Progress) (input rest new before mid now : Option (List ℕ))
      (r s : Held S) (h k : H) (away : Image) (u : World) (refused : Bool) (buffer : List ℕ)
      (found : Line) (o : Outcome) (e : FrontFault)
      → Answering p input rest before mid r h away u refused
      → IfSome rest (λ bytes. IsLine bytes new buffer found) → found ≢ End
      → Comes p q r s h k away (asked_at buffer found) o
      → ((key : Bor (List ℕ)) (f : BenchFault) → o ≡ Failed key f → q ≡ progress.Failed)
      → (e ≡ Read → ⊥)
      → AppendsFront mid now (text_of o) → WaitsForLines input new q
      → ((it : Breaks input (Tells e before now) (AreStanding g j q s k away u))
      × (phase_of q ≡ phase.Applied → LeavesLines input it.lines))
      ⊎ ((f : BenchFault) × (q ≡ progress.Failed)
      × Stops g j input (AppendsFront before now) s k away u f)
  told_in_part p q input rest new before mid now r s h k away u refused buffer found Nothing e so is
      some comes far not_read wrote waits =
      inl (untold p q input rest new before mid r s h k away u refused buffer found Nothing so is
      some comes (Tells e before now) tt (tells_front e before now _ not_read
      (front_after before mid now so.text _ so.told wrote)) waits)
  told_in_part p q input rest new before mid now r s h k away u refused buffer found
      (Wrong key) e so is some comes far not_read wrote waits =
      inl (untold p q input rest new before mid r s h k away u refused buffer found
      (Wrong key) so is some comes (Tells e before now) tt
      (tells_front e before now _ not_read
      (front_after before mid now so.text _ so.told wrote)) waits)
  told_in_part p q input rest new before mid now r s h k away u refused buffer found
      (Answered key answer) e so is some comes far not_read wrote waits =
      inl (untold p q input rest new before mid r s h k away u refused buffer found
      (Answered key answer) so is some comes (Tells e before now) tt
      (tells_front e before now _ not_read
      (front_after before mid now so.text _ so.told wrote)) waits)
  told_in_part p q input rest new before mid now r s h k away u refused buffer found
      (Failed key fault) e so is some comes far not_read wrote waits =
      inr (
        fault,
        far key fault refl,
        stopped p q input rest new before mid r s h k away u refused buffer found key fault so
            is some comes (AppendsFront before now)
            (front_after before mid now so.text _ so.told wrote),
      )

  pub kept_before : (r s : Held S) → WasClean g r s → DiskKept g s → DiskKept g r
  kept_before r s clean kept = omega (arith, clean, kept)

  -- a batch so far, of a shelf that keeps to its law and a disk that keeps what is written
  pub record Going (honest : H → Type 0) (p : Progress) (input rest before now : Option (List ℕ))
      (r s : Held S) (h k : H) (refused : Bool) : Type 0 where
    pub clean : WasClean g r s
    pub stays : honest h → honest k
    pub sizes : j.size k ≡ j.size h
    pub count : (j.view h).faults ≤ (j.view k).faults
    pub does : honest h → DiskKept g s → (away : Image) (u : World)
        → IsAt g j r h away [] [] u u
        → Answering p input rest before now s k away u refused
