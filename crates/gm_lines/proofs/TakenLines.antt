-- Lines as they are read.
use Rattle.gm_lines.proofs.Common.{◌≡◌, ◌∙◌, ◌<◌, ◌≤◌, ◌==◌, ◌&&◌, nat_lt, not, ℕ, Bool, true, false, refl, sym, ap, arith, List, [], ◌∷◌, ◌++◌, length, take, drop, slice_index, min, zero, suc, Option, Some, None, IfSome, append-nil, append_assoc, take-append-drop, true≢false, length-append, le_refl, zero-le, subst, nat_tests, drop_through, line_at, is_one_line, onto, IsAheadIn, IsNext, BeginsWith, IsLine, IsCopied, IsTaken, WhereEnded, TakesPiece, Begins, Ahead, Line, End, Whole, Long, Piece, Feed, Bytes, Consumes-trans, nil_from_length}
use Rattle.std.specs.Prelude.{unwrap_or, if◌then◌else◌}
use Rattle.memchr.specs.Find.{IsFirstByte, Passes, is_byte}
use Rattle.std.specs.Prelude.{OnSome}
use Rattle.std.specs.Io.KnownBytes.{Consumes, IsAtEnd}
use Rattle.gm_lines.specs.Input.{lines_of}
use Rattle.gm_lines.specs.declared.lines.Piece.TheVariants.{Nothing}
use Rattle.std.proofs.lemmas.List.Folds.{list_all-append}
use Rattle.std.specs.Io.{StartsWith}
use mathlib.Core.List.{append_cancel_left}
use lib.Seq.{split_at}

not_of : (b : Bool) → ¬ (b ≡ true) → not b ≡ true
not_of true h = absurd (h refl)
not_of false h = refl

both_true : (a b : Bool) → a ≡ true → b ≡ true → (a && b) ≡ true
both_true true b h k = k
both_true false b h k = absurd (true≢false (sym h))

no_feed_before : (xs : List ℕ) (n : ℕ) → n ≤ length xs
    → ((k : ℕ) → k < n → ¬ (Passes (is_byte 10) xs k)) → is_one_line (take n xs) ≡ true
no_feed_before xs zero h none = refl
no_feed_before [] (suc n) h none = absurd (omega arith)
no_feed_before (x ∷ xs) (suc n) h none =
    both_true _ _ (not_of (x == 10) (none zero (omega arith)))
    (no_feed_before xs n (omega arith) (λ k l. none (suc k) (omega arith)))

-- no line feed stands before the first one
pub one_line_before : (xs : List ℕ) (r : Option ℕ) → IsFirstByte (is_byte 10) xs r
    → is_one_line (take (unwrap_or r (length xs)) xs) ≡ true
one_line_before xs None first =
    no_feed_before xs (length xs) (le_refl (length xs)) (λ k l. first k zero-le l)
one_line_before xs (Some n) first =
    no_feed_before xs n (omega (arith, first.0.high)) (λ k l. first.0.before k zero-le l)

-- bytes with a line feed begin with the line before it
pub begins_with : (xs : List ℕ) (n : ℕ) → n < length xs → slice_index xs n ≡ 10
    → is_one_line (take n xs) ≡ true → BeginsWith xs (take n xs)
begins_with xs n low feed one =
    (one, drop (suc n) xs, split_at xs n 0 low ∙ ap (λ b. take n xs ++ b ∷ drop (suc n) xs) feed)

-- so does whatever goes on after them
pub begins_on : (xs more line : List ℕ) → BeginsWith xs line → BeginsWith (xs ++ more) line
begins_on xs more line begins = (
  begins.0,
  begins.1 ++ more,
  ap (λ ys. ys ++ more) begins.2 ∙ append_assoc line (10 ∷ begins.1) more,
)

-- what takes nothing had nothing ready
pub nothing_ready : (xs : List ℕ) (n : ℕ) → (0 < length xs → 0 < n) → take n xs ≡ []
    → length xs ≡ 0
nothing_ready [] n some none = refl
nothing_ready (x ∷ xs) zero some none = absurd (omega (arith, some (omega arith)))
nothing_ready (x ∷ xs) (suc n) some none = absurd (omega (arith, ap length none))

pub ended_where : (piece : Piece) (bytes line copied : List ℕ) (count : ℕ) (P : Type 0)
    → IsTaken bytes line copied count piece → (bytes ≡ [] → P) → WhereEnded piece P
ended_where Nothing bytes line copied count P taken ends = ends taken.0
ended_where Feed bytes line copied count P taken ends = tt
ended_where (Bytes n) bytes line copied count P taken ends = tt

both : (a b : Bool) → (a && b) ≡ true → (a ≡ true) × (b ≡ true)
both true true h = (refl, refl)
both true false h = absurd (true≢false (sym h))
both false b h = absurd (true≢false (sym h))

not_true : (b : Bool) → not b ≡ true → b ≡ false
not_true false h = refl
not_true true h = absurd (true≢false (sym h))

-- a line with a line feed and more bytes after it
pub line_fed : (seen rest : List ℕ) → is_one_line seen ≡ true
    → (line_at (seen ++ 10 ∷ rest) ≡ seen) × (drop_through 10 (seen ++ 10 ∷ rest) ≡ rest)
line_fed [] rest h = (refl, refl)
line_fed (b ∷ seen) rest h =
    let p : (not (b == 10) ≡ true) × (is_one_line seen ≡ true) = both _ _ h in
    let e : (b == 10) ≡ false = not_true _ p.0 in
    let more = line_fed seen rest p.1 in
    (rw e (ap (λ xs. b ∷ xs) more.0), rw e more.1)

-- a last line
pub line_last : (seen : List ℕ) → is_one_line seen ≡ true
    → (line_at seen ≡ seen) × (drop_through 10 seen ≡ [])
line_last [] h = (refl, refl)
line_last (b ∷ seen) h =
    let p : (not (b == 10) ≡ true) × (is_one_line seen ≡ true) = both _ _ h in
    let e : (b == 10) ≡ false = not_true _ p.0 in
    let more = line_last seen p.1 in
    (rw e (ap (λ xs. b ∷ xs) more.0), rw e more.1)

-- the count says which
abbrev pub found_of : ℕ → Line
found_of count = if nat_lt count 131073 then Whole count else Long

-- what was counted is the line
pub is_found : (bytes line seen rest : List ℕ) (count : ℕ) (whole : Bool)
    → nat_lt count 131073 ≡ whole → IsCopied line count seen → 0 < length bytes → line_at bytes
    ≡ seen
    → drop_through 10 bytes ≡ rest
    → IsLine bytes (Some rest) line (if whole then Whole count else Long)
is_found bytes line seen rest count true test copied some is_line is_rest =
    let few : count ≤ 131072 = grind (arith, nat_tests) in
    (some, few, copied.copied few ∙ sym is_line, ap Some (sym is_rest))
is_found bytes line seen rest count false test copied some is_line is_rest =
    let many : 131073 ≤ count = grind (arith, nat_tests) in
    let counted : count ≡ min (length seen) 131073 = copied.counted in
    (rw is_line (omega arith), ap Some (sym is_rest))

-- if a line feed comes
fed : (old mid new : Option (List ℕ)) (line : List ℕ) (count : ℕ) (b : ℕ) (found : Line)
    → Begins old mid line count → Consumes mid new (b ∷ []) → b ≡ 10 → found ≡ found_of count
    → IfSome old (λ bytes. IsLine bytes new line found)
fed None mid new line count b found begins took is e = tt
fed (Some bytes) None new line count b found begins took is e = absurd begins.consumed
fed (Some bytes) (Some ms) None line count b found begins took is e = absurd took
fed (Some bytes) (Some ms) (Some ns) line count b found begins took is e =
    let all : bytes ≡ begins.seen ++ 10 ∷ ns =
    begins.consumed ∙ ap (λ xs. begins.seen ++ xs) (took ∙ ap (λ x. x ∷ ns) is) in
    let parts = line_fed begins.seen ns begins.is_one in
    let some : 0 < length bytes = rw all (omega (arith, length-append begins.seen (10 ∷ ns))) in
    rw e (is_found bytes line begins.seen ns count _ refl begins.copied some
    (ap line_at all ∙ parts.0) (ap (drop_through 10) all ∙ parts.1))

is_ended : (bytes line seen : List ℕ) (count : ℕ) (some : Bool) → nat_lt 0 count ≡ some
    → IsCopied line count seen → bytes ≡ seen → is_one_line seen ≡ true
    → IsLine bytes (Some []) line (if some then found_of count else End)
is_ended bytes line seen count true test copied all one =
    let parts = line_last seen one in
    let any : 0 < count = grind (arith, nat_tests) in
    let counted : count ≡ min (length seen) 131073 = copied.counted in
    is_found bytes line seen [] count _ refl copied (rw all (omega arith))
    (ap line_at all ∙ parts.0) (ap (drop_through 10) all ∙ parts.1)
is_ended bytes line seen count false test copied all one =
    let none : count ≡ 0 = grind (arith, nat_tests) in
    let counted : count ≡ min (length seen) 131073 = copied.counted in
    (all ∙ nil_from_length seen (omega arith), refl)

-- if the input ends
ended : (old mid new : Option (List ℕ)) (line : List ℕ) (count : ℕ) (found : Line)
    → Begins old mid line count → Consumes mid new [] → OnSome mid (IsAtEnd new)
    → found ≡ (if nat_lt 0 count then found_of count else End)
    → IfSome old (λ bytes. IsLine bytes new line found)
ended None mid new line count found begins took at_end e = tt
ended (Some bytes) None new line count found begins took at_end e = absurd begins.consumed
ended (Some bytes) (Some ms) None line count found begins took at_end e = absurd took
ended (Some bytes) (Some ms) (Some ns) line count found begins took at_end e =
    let all : bytes ≡ begins.seen = begins.consumed ∙ ap (λ xs. begins.seen ++ xs) (took ∙ at_end)
    ∙ append-nil begins.seen in
    rw (e, at_end) (is_ended bytes line begins.seen count _ refl begins.copied all begins.is_one)

-- what a reader showed after what it then dropped is what it has next
pub shown_next : (old new : Option (List ℕ)) (shown : List ℕ) (n : ℕ) (ahead : Ahead)
    → IfSome old (λ xs. StartsWith xs shown) → Consumes old new (take n shown)
    → IsAheadIn (drop n shown) ahead → IsNext old new ahead
shown_next None new shown n ahead front took is = (is.0, tt)
shown_next (Some xs) None shown n ahead front took is = absurd took
shown_next (Some xs) (Some ys) shown n ahead front took is =
    let rest : List ℕ = drop (length shown) xs in
    let all : xs ≡ shown ++ rest =
    sym (take-append-drop (length shown) xs) ∙ ap (λ l. l ++ rest) front in
    let cut : take n shown ++ ys ≡ take n shown ++ (drop n shown ++ rest) =
    sym took ∙ all ∙ ap (λ l. l ++ rest) (sym (take-append-drop n shown))
    ∙ append_assoc (take n shown) (drop n shown) rest in
    let next : ys ≡ drop n shown ++ rest =
    append_cancel_left (take n shown) ys (drop n shown ++ rest) cut in
    (is.0, rw next (begins_on (drop n shown) rest ahead.line.items is.1))

-- the same of an input, some of which was taken before
pub next_known : (old mid new : Option (List ℕ)) (seen : List ℕ) (ahead : Ahead)
    → Consumes old mid seen → IsNext mid new ahead → IsNext old new ahead
next_known None mid new seen ahead took next = (next.0, tt)
next_known (Some xs) None new seen ahead took next = absurd took
next_known (Some xs) (Some ms) new seen ahead took next = next

-- a line that is read on
pub piece_more : (old mid new : Option (List ℕ)) (line copied : List ℕ) (count n : ℕ)
    → Begins old mid line count → TakesPiece mid new line copied count (Bytes n)
    → Begins old new copied n
piece_more old mid new line copied count n begins took = record {
  seen = begins.seen ++ took.bytes;
  consumed = Consumes-trans old mid new begins.seen took.bytes begins.consumed took.consumed;
  is_one = list_all-append (λ b. not (b == 10)) begins.seen took.bytes
      ∙ both_true _ _ begins.is_one took.taken.0;
  copied = took.taken.1 begins.seen begins.copied;
}

-- a line whose line feed is read
pub piece_fed : (old mid new : Option (List ℕ)) (line copied : List ℕ) (count : ℕ) (found : Line)
    → Begins old mid line count → TakesPiece mid new line copied count Feed
    → found ≡ found_of count → IfSome old (λ bytes. IsLine bytes new copied found)
piece_fed old mid new line copied count found begins took e =
    let consumed = subst (Consumes mid new) took.taken.0 took.consumed in
    rw took.taken.1 (fed old mid new line count 10 found begins consumed refl e)

-- a line after which the input has ended
pub piece_ended : (old mid new : Option (List ℕ)) (line copied : List ℕ) (count : ℕ) (found : Line)
    → Begins old mid line count → TakesPiece mid new line copied count Nothing
    → found ≡ (if nat_lt 0 count then found_of count else End)
    → IfSome old (λ bytes. IsLine bytes new copied found)
piece_ended old mid new line copied count found begins took e =
    let consumed = subst (Consumes mid new) took.taken.0 took.consumed in
    rw took.taken.1 (ended old mid new line count found begins consumed took.end e)

first_of_one : (b : ℕ) (t : Bool) → (b == 10) ≡ t
    → lines_of (b ∷ []) ≡ line_at (b ∷ []) ∷ lines_of (drop_through 10 (b ∷ []))
unfolding lines_of
first_of_one b true e = rw e refl
first_of_one b false e = rw e refl

first_of_more : (b : ℕ) (bytes : List ℕ) (t : Bool) → (b == 10) ≡ t
    → lines_of bytes ≡ line_at bytes ∷ lines_of (drop_through 10 bytes)
    → lines_of (b ∷ bytes) ≡ line_at (b ∷ bytes) ∷ lines_of (drop_through 10 (b ∷ bytes))
unfolding lines_of
first_of_more b bytes true e h = rw e refl
first_of_more b bytes false e h = rw e (ap (onto b) h)

-- the first line, and those of the rest
pub lines_first : (bytes : List ℕ) → 0 < length bytes
    → lines_of bytes ≡ line_at bytes ∷ lines_of (drop_through 10 bytes)
lines_first [] h = absurd (omega arith)
lines_first (b ∷ []) h = first_of_one b _ refl
lines_first (b ∷ c ∷ bytes) h =
    first_of_more b (c ∷ bytes) _ refl (lines_first (c ∷ bytes) (omega arith))
