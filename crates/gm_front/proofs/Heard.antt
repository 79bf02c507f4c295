-- What a listener hears of a batch, one line after the other.
use Rattle.gm_front.proofs.Common.{◌≡◌, ◌≢◌, ◌∙◌, ◌⊎◌, inl, inr, ◌<◌, ◌≤◌, nat_lt, ℕ, Bool, true, false, refl, sym, ap, subst, arith, List, [], ◌∷◌, ◌++◌, length, map, take, Option, Some, None, Result, Ok, Err, IfOk, IfSome, append-nil, append_assoc, length-take, map-append, Appends, Appends-nil, Appends-trans, BenchFault, BatchEnd, FrontFault, Memory, Read, Write, End, Whole, Long, IsLine, line_at, AppendsFront, AreFirst, unsettled_fault, Heard, HearsBatch, Hears, AreHeard, WasTold, answers_heard, handed_at, handed_on}
use Rattle.std.proofs.lemmas.Bool.Decides.{nat_tests}
use Rattle.std.proofs.lemmas.List.Concat.{flat_map-append}
use Rattle.gm_lines.specs.Input.{Fits}
use Rattle.gm_lines.specs.declared.lines.Line.{Line}
use Rattle.gm_front.specs.declared.answer_lines.BatchEnd.TheVariants as end
use Rattle.gm_front.proofs.Settled.{all_first}
use Rattle.gm_front.proofs.Turns.{IsLeft, all_taken, first_of_left, front_all, long_line, none_taken, taken}

short_handed : (line : List ℕ) → length line ≤ 131072 → handed_on line ≡ Some line
short_handed line short =
    let test : nat_lt 131072 (length line) ≡ false = grind (arith, nat_tests) in
    rw test refl

long_handed : (line : List ℕ) → 131072 < length line → handed_on line ≡ None
long_handed line long =
    let test : nat_lt 131072 (length line) ≡ true = grind (arith, nat_tests) in
    rw test refl

-- a line that was taken is handed on as it was found
handed_taken : (input rest new : Option (List ℕ)) (lines : List (List ℕ)) (buffer : List ℕ)
    (found : Line) (left : IsLeft input rest lines)
    (is : IfSome rest (λ bytes. IsLine bytes new buffer found)) (some : found ≢ End) → Fits found
    → handed_on (taken input rest new lines buffer found left is some).line
    ≡ handed_at buffer found
unfolding taken
handed_taken input rest new lines buffer End left is some fits = absurd (some refl)
handed_taken None rest new lines buffer (Whole n) left is some fits =
    short_handed (take n buffer) (rw length-take (omega (arith, fits)))
handed_taken None rest new lines buffer Long left is some fits =
    let long = long_line 131072 in
    long_handed long.0 long.1
handed_taken (Some i) rest new lines buffer (Whole n) left is some fits =
    short_handed (take n buffer) (rw length-take (omega (arith, fits)))
handed_taken (Some i) rest new lines buffer Long left is some fits =
    let line = rw left.1 at is in
    long_handed (line_at left.0) line.0

hears_nothing : (known : Option (List Heard)) → Hears known known []
hears_nothing None = tt
hears_nothing (Some heard) = sym (append-nil heard)

hears_more : (a b c : Option (List Heard)) (xs ys : List Heard) → Hears a b xs → Hears b c ys
    → Hears a c (xs ++ ys)
hears_more a b None xs ys h k = tt
hears_more a None (Some cs) xs ys h k = absurd k
hears_more None (Some bs) (Some cs) xs ys h k = absurd h
hears_more (Some os) (Some bs) (Some cs) xs ys h k =
    k ∙ ap (λ (l : List Heard). l ++ ys) h ∙ append_assoc os xs ys

answers_more : (heard : List Heard) (one : Heard)
    → answers_heard (heard ++ one ∷ []) ≡ answers_heard heard ++ one.answer
answers_more heard one =
    flat_map-append (λ (it : Heard). it.answer) heard (one ∷ [])
    ∙ ap (λ (text : List ℕ). answers_heard heard ++ text) (append-nil one.answer)

-- all, and perhaps a beginning of more
all_and_front : (a b c : Option (List ℕ)) (xs ys : List ℕ) → Appends a b xs → AppendsFront b c ys
    → (rest : List ℕ) × Appends a c (xs ++ rest)
all_and_front None b c xs ys h f = ([], tt)
all_and_front (Some os) None c xs ys h f = absurd h
all_and_front (Some os) (Some bs) None xs ys h f = absurd f
all_and_front (Some os) (Some bs) (Some cs) xs ys h f =
    (f.0, Appends-trans (Some os) (Some bs) (Some cs) xs f.0 h f.3)

-- the lines that were taken so far, and heard
pub record HeardSoFar (input rest before now : Option (List ℕ)) (old new : Option (List Heard))
    : Type 0 where
  pub lines : List (List ℕ)
  pub heard : List Heard
  pub left : IsLeft input rest lines
  pub hears : Hears old new heard
  pub handed : map (λ it. it.line) heard ≡ map handed_on lines
  pub told : Appends before now (answers_heard heard)

pub heard_none : (input before : Option (List ℕ)) (old : Option (List Heard))
    → HeardSoFar input input before before old old
heard_none input before old = record {
  lines = [];
  heard = [];
  left = none_taken input;
  hears = hears_nothing old;
  handed = refl;
  told = Appends-nil before;
}

module _ (input rest before mid : Option (List ℕ)) (old new : Option (List Heard))
    (so : HeardSoFar input rest before mid old new) where
  -- and one line more
  pub one_heard : (after now : Option (List ℕ)) (then : Option (List Heard))
      (buffer text : List ℕ) (found : Line) (one : Option (List ℕ))
      → IfSome rest (λ bytes. IsLine bytes after buffer found) → found ≢ End → Fits found
      → Appends mid now text → one ≡ handed_at buffer found
      → Hears new then ((record { line = one; answer = text }) ∷ [])
      → HeardSoFar input after before now old then
  one_heard after now then buffer text found one is some fits wrote handed hears =
      let line = taken input rest after so.lines buffer found so.left is some in
      let it : Heard = record { line = one; answer = text } in
      let same : one ≡ handed_on line.line =
      handed ∙ sym (handed_taken input rest after so.lines buffer found so.left is some fits) in
      record {
        lines = so.lines ++ line.line ∷ [];
        heard = so.heard ++ it ∷ [];
        left = line.left;
        hears = hears_more old new then so.heard (it ∷ []) so.hears hears;
        handed = map-append (λ (h : Heard). h.line) so.heard (it ∷ [])
            ∙ ap (λ (ls : List (Option (List ℕ))). ls ++ one ∷ []) so.handed
            ∙ ap (λ (l : Option (List ℕ)). map handed_on so.lines ++ l ∷ []) same
            ∙ sym (map-append handed_on so.lines (line.line ∷ []));
        told = subst (Appends before now) (sym (answers_more so.heard it))
            (Appends-trans before mid now (answers_heard so.heard) text so.told wrote);
      }

  ends_heard : (now : Option (List ℕ)) (end : Result BatchEnd FrontFault)
      → AreHeard input end so.lines → WasTold before now end (answers_heard so.heard)
      → HearsBatch input before now old new end
  ends_heard now end read told = record {
    lines = so.lines;
    heard = so.heard;
    hears = so.hears;
    read = read;
    handed = so.handed;
    told = told;
  }

  are_first : AreFirst input so.lines
  are_first = first_of_left input rest so.lines so.left

  -- an answer that wasn't told isn't heard
  pub heard_in_part : (now : Option (List ℕ)) (text : List ℕ) (e : FrontFault)
      → (e ≡ Read → Appends before now (answers_heard so.heard)) → AppendsFront mid now text
      → HearsBatch input before now old new (Err e)
  heard_in_part now text Read all wrote = ends_heard now (Err Read) are_first (all refl)
  heard_in_part now text Memory all wrote =
      ends_heard now (Err Memory) are_first (all_and_front before mid now _ text so.told wrote)
  heard_in_part now text Write all wrote =
      ends_heard now (Err Write) are_first (all_and_front before mid now _ text so.told wrote)

  -- all that was told is heard
  pub heard_whole : (e : FrontFault) → HearsBatch input before mid old new (Err e)
  heard_whole e = heard_in_part mid [] e (λ _. so.told) (front_all mid mid [] (Appends-nil mid))

  pub heard_to_end : (after : Option (List ℕ)) (buffer : List ℕ) (refused : Bool)
      → IfSome rest (λ bytes. IsLine bytes after buffer End)
      → HearsBatch input before mid old new (Ok (end.Ended refused))
  heard_to_end after buffer refused is = ends_heard mid (Ok (end.Ended refused))
      (all_taken input rest after so.lines buffer so.left is) so.told

  pub heard_to_stop : (fault : BenchFault)
      → HearsBatch input before mid old new (Ok (end.Stopped fault))
  heard_to_stop fault = ends_heard mid (Ok (end.Stopped fault)) are_first so.told

first_heard : (input : Option (List ℕ)) (lines : List (List ℕ)) (b : BatchEnd)
    → AreHeard input (Ok b) lines → AreFirst input lines
first_heard input lines (end.Ended refused) are = all_first input lines are
first_heard input lines (end.Stopped fault) are = are

-- the same, whether what waits was settled or not
pub heard_anyhow : (input before now : Option (List ℕ)) (old new : Option (List Heard))
    (given after : Result BatchEnd FrontFault) → HearsBatch input before now old new given
    → (after ≡ given) ⊎ (after ≡ Err (unsettled_fault given))
    → HearsBatch input before now old new after
heard_anyhow input before now old new given after it (inl is) =
    subst (HearsBatch input before now old new) (sym is) it
heard_anyhow input before now old new (Err fault) after it (inr is) =
    subst (HearsBatch input before now old new) (sym is) it
heard_anyhow input before now old new (Ok b) after it (inr is) =
    subst (HearsBatch input before now old new) (sym is) (record {
      lines = it.lines;
      heard = it.heard;
      hears = it.hears;
      read = first_heard input it.lines b it.read;
      handed = it.handed;
      told = it.told;
    })

-- a batch that ended did so before what waits was settled
pub only_ended : (given after : Result BatchEnd FrontFault)
    → (after ≡ given) ⊎ (after ≡ Err (unsettled_fault given)) → IfOk after (λ x. given ≡ Ok x)
only_ended given (Ok x) (inl is) = sym is
only_ended given (Ok x) (inr is) = cc
only_ended given (Err e) either = tt
