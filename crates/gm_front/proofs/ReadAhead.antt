-- The command of the next line, which was read ahead.
use Rattle.gm_front.proofs.Common.{◌≡◌, ◌≢◌, ◌∙◌, ◌<◌, ℕ, Bool, false, refl, sym, ap, subst, arith, List, ◌∷◌, ◌++◌, length, Option, Some, None, IfSome, IsSome, OnSome, Progress, Ready, TakesCommands, phase_of, End, Whole, Long, IsLine, line_at, Ahead, IsAheadIn, IsNext, BeginsWith, Asked, Call, asked, asked_at, Outcome, Answered, IsAskedBy, IsFarAfter}
use Rattle.std.proofs.Common.{true≢false}
use Rattle.std.specs.Prelude.{is_some}
use Rattle.std.specs.Io.BufRead.{drop_through}
use Rattle.std.proofs.lemmas.List.{length-append}
use Rattle.std.proofs.lemmas.Option.{IfSome_then}
use Rattle.gm_bench.specs.declared.phase.Phase.TheVariants as phase
use Rattle.gm_lines.specs.Asked as asking
use Rattle.gm_lines.specs.declared.lines.Line.{Line}
use Rattle.gm_lines.specs.Input.{lines_of}
use Rattle.gm_lines.proofs.TakenLines.{line_fed, lines_first}
use Rattle.gm_front.specs.declared.outcome.Outcome.TheVariants.{Nothing, Wrong, Failed}
use Rattle.gm_front.proofs.Settled.{rests}
use Rattle.gm_front.proofs.Turns.{IsLeft, WaitsForLines, long_asked}

begins_some : (bytes line : List ℕ) → BeginsWith bytes line → 0 < length bytes
begins_some bytes line begins =
    rw begins.2 (omega (arith, length-append line (10 ∷ begins.1)))

begins_line : (bytes line : List ℕ) → BeginsWith bytes line → line_at bytes ≡ line
begins_line bytes line begins = ap line_at begins.2 ∙ (line_fed line begins.1 begins.0).0

not_longer : {A : Type 0} (xs : List A) (y : A) (ys : List A) → xs ≡ xs ++ y ∷ ys → ⊥
not_longer xs y ys same = omega (arith, ap length same, length-append xs (y ∷ ys))

-- a line that was read ahead, and then found, asks its command
ahead_asked : (left : List ℕ) (new : Option (List ℕ)) (buffer : List ℕ) (found : Line)
    (ahead : Ahead) → IsLine left new buffer found → found ≢ End → IsAheadIn left ahead
    → (key : List ℕ) × (asked_at buffer found ≡ Call key ahead.command)
ahead_asked left new buffer End ahead is some it = absurd (some refl)
ahead_asked left new buffer (Whole n) ahead is some it =
    (it.0.0, ap asked (is.2 ∙ begins_line left ahead.line.items it.1) ∙ it.0.1)
ahead_asked left new buffer Long ahead is some it = (
  it.0.0,
  sym (long_asked (line_at left) is.0) ∙ ap asked (begins_line left ahead.line.items it.1)
      ∙ it.0.1,
)

-- Of a known input, what waits to be settled is followed by a command that was read ahead.
pub record IsFollowed (input rest : Option (List ℕ)) (p : Progress) (next : Option Ahead) : Type 0
  where
    pub ahead : IfSome next (IsNext input rest)
    pub waits : OnSome input (phase_of p ≡ phase.Applied → IsSome next)

-- nothing waits at first
pub followed_first : (input : Option (List ℕ)) (p : Progress) → TakesCommands p
    → IsFollowed input input p None
followed_first None p takes = record { ahead = tt; waits = tt }
followed_first (Some i) p takes =
    record { ahead = tt; waits = λ applied. absurd (rests p takes applied) }

-- the command that follows what waits
ahead_of : (i left : List ℕ) (p : Progress) (next : Option Ahead)
    → IsFollowed (Some i) (Some left) p next → phase_of p ≡ phase.Applied
    → (ahead : Ahead) × IsAheadIn left ahead
ahead_of i left p None it applied = absurd (true≢false (sym (it.waits applied)))
ahead_of i left p (Some ahead) it applied = (ahead, it.ahead)

-- so lines are left
pub waits_for_lines : (input rest : Option (List ℕ)) (p : Progress) (next : Option Ahead)
    → IsFollowed input rest p next → WaitsForLines input rest p
waits_for_lines None rest p next it lines left applied = tt
waits_for_lines (Some i) rest p next it lines left applied =
    let follows = subst (λ r. IsFollowed (Some i) r p next) left.1 it in
    let one = ahead_of i left.0 p next follows applied in
    λ all. not_longer lines (line_at left.0) (lines_of (drop_through 10 left.0))
    (sym all ∙ left.2 ∙ ap (λ (ls : List (List ℕ)). lines ++ ls)
    (lines_first left.0 (begins_some left.0 one.0.line.items one.1.1)))

-- after one more line
module _ (p q : Progress) (then : Option Ahead) where
  waits_after : (left : List ℕ) (new : Option (List ℕ)) (buffer : List ℕ) (found : Line)
      (o : Outcome) → (phase_of p ≡ phase.Applied → (ahead : Ahead) × IsAheadIn left ahead)
      → IsLine left new buffer found → found ≢ End → IsAskedBy (asked_at buffer found) o
      → IsFarAfter p q (is_some then) o → phase_of q ≡ phase.Applied → IsSome then
  waits_after left new buffer found Nothing ahead is some asks far applied =
      let one = ahead (ap phase_of (sym far) ∙ applied) in
      let call = ahead_asked left new buffer found one.0 is some one.1 in
      let no : asking.Nothing ≡ Call call.0 one.0.command = sym asks ∙ call.1 in
      cc
  waits_after left new buffer found (Wrong key) ahead is some asks far applied =
      let one = ahead (ap phase_of (sym far) ∙ applied) in
      let call = ahead_asked left new buffer found one.0 is some one.1 in
      let no : asking.Wrong key.now ≡ Call call.0 one.0.command = sym asks ∙ call.1 in
      cc
  waits_after left new buffer found (Answered key answer) ahead is some asks far applied =
      ready then far.3
    where
      ready : (next : Option Ahead) → (is_some next ≡ false → q ≡ Ready) → IsSome next
      ready None rest = let is : q ≡ Ready = rest refl in cc
      ready (Some a) rest = refl
  waits_after left new buffer found (Failed key fault) ahead is some asks far applied = cc

  followed_so : (input rest new : Option (List ℕ)) (lines : List (List ℕ))
      (next : Option Ahead) (buffer : List ℕ) (found : Line) (o : Outcome)
      → IsLeft input rest lines → IsFollowed input rest p next
      → IfSome rest (λ bytes. IsLine bytes new buffer found) → found ≢ End
      → IsAskedBy (asked_at buffer found) o → IsFarAfter p q (is_some then) o
      → IfSome then (IsNext rest new) → IsFollowed input new q then
  followed_so None rest new lines next buffer found o left it is some asks far ahead =
      record { ahead = IfSome_then then ahead (λ a is_next. (is_next.0, tt)); waits = tt }
  followed_so (Some i) rest new lines next buffer found o left it is some asks far ahead =
      let follows = subst (λ r. IsFollowed (Some i) r p next) left.1 it in
      record {
        ahead = subst (λ r. IfSome then (IsNext r new)) left.1 ahead;
        waits = waits_after left.0 new buffer found o (ahead_of i left.0 p next follows)
            (rw left.1 at is) some asks far;
      }

  -- what was read ahead with a line is kept, and the line is asked as if that followed
  pub followed_after : (input rest new : Option (List ℕ)) (lines : List (List ℕ))
      (next given : Option Ahead) (buffer : List ℕ) (found : Line) (asks : Asked) (o : Outcome)
      (follows : Bool) → IsLeft input rest lines → IsFollowed input rest p next
      → IfSome rest (λ bytes. IsLine bytes new buffer found) → found ≢ End
      → asks ≡ asked_at buffer found → IsAskedBy asks o
      → follows ≡ is_some then → IsFarAfter p q follows o
      → then ≡ given → IfSome given (IsNext rest new) → IsFollowed input new q then
  followed_after input rest new lines next given buffer found asks o follows left it is some same
      asked_by tells far kept ahead =
      followed_so input rest new lines next buffer found o left it is some
      (subst (λ x. IsAskedBy x o) same asked_by) (subst (λ b. IsFarAfter p q b o) tells far)
      (subst (λ x. IfSome x (IsNext rest new)) (sym kept) ahead)
