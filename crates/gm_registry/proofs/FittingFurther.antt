-- A command under its further keys, in turn: what each step makes of the tables, and what it needs.
use Rattle.gm_registry.proofs.Common.{Bool, bytes_eq, filter-map, Changed, FitsTables, Intent, TakesNumbers, count_of, intent_rows, with_bytes, with_intents, with_pending, with_records, ◌≡◌, ◌≢◌, ◌∙◌, ℕ, zero, suc, ◌+◌, ◌<◌, ◌≤◌, List, [], ◌∷◌, filter, length, map, take, get_or, refl, sym, ap, subst, arith, AllByRecursion, Trees, Tables, CommandRow, Further, string_bytes, command_row, with_command, with_further, AreFreeInTurn, HasRoom, IsFree, IsUncounted, TakesCommand, TakesFurther, is_under}
use Rattle.gm_registry.proofs.CountedThrough.{records_keep}
use Rattle.gm_registry.proofs.ListSteps.{had}

-- the row under a further key
abbrev row_of : Further → ℕ → List ℕ → CommandRow
row_of f n words = command_row (string_bytes f.key) n words f.reply

-- one further key more
pub one_further : (fs : List Further) (i n m : ℕ) (words : List ℕ) (f : Further) (t : Tables)
    → i < length fs → f ≡ get_or fs i f → m ≡ n + i
    → with_further (take (i + 1) fs) n words t
    ≡ with_command (row_of f m words) (with_further (take i fs) n words t)
one_further [] i n m words f t low is at = absurd (omega (arith, low))
one_further (x ∷ fs) zero n m words f t low is at =
    ap (λ (y : Further). with_command (row_of y n words) t) (sym is)
    ∙ ap (λ k. with_command (row_of f k words) t) (omega (arith, at))
one_further (x ∷ fs) (suc i) n m words f t low is at =
    let next : suc i + 1 ≡ suc (i + 1) = omega arith in
    ap (λ k. with_further (take k (x ∷ fs)) n words t) next
    ∙ one_further fs i (n + 1) m words f (with_command (row_of x n words) t) (omega (arith, low)) is
    (omega (arith, at))

-- after those before it the next is free
free_at : (fs : List Further) (i n : ℕ) (words : List ℕ) (f : Further) (t : Tables)
    → AreFreeInTurn fs n words t → i < length fs → f ≡ get_or fs i f
    → IsFree (with_further (take i fs) n words t) (string_bytes f.key)
free_at [] i n words f t free low is = absurd (omega (arith, low))
free_at (x ∷ fs) zero n words f t free low is =
    subst (λ (y : Further). IsFree t (string_bytes y.key)) (sym is) free.0
free_at (x ∷ fs) (suc i) n words f t free low is =
    free_at fs i (n + 1) words f (with_command (row_of x n words) t) free.1 (omega (arith, low)) is

-- and so is its number
uncounted_at : (fs : List Further) (i n m : ℕ) (words : List ℕ) (t : Tables) → n + i ≤ m
    → IsUncounted m t → IsUncounted m (with_further (take i fs) n words t)
uncounted_at [] zero n m words t high free = free
uncounted_at [] (suc i) n m words t high free = free
uncounted_at (x ∷ fs) zero n m words t high free = free
uncounted_at (x ∷ fs) (suc i) n m words t high free =
    uncounted_at fs i (n + 1) m words (with_command (row_of x n words) t) (omega (arith, high))
    ((λ same. omega (arith, high, same)), free)

-- so it can be added under the next one
pub takes_next : (fs : List Further) (i n m : ℕ) (words : List ℕ) (f : Further) (before db : Trees)
    (t : Tables) → TakesFurther fs n words before t → i < length fs → f ≡ get_or fs i f
    → m ≡ n + i → HasRoom 1 db
    → TakesCommand (string_bytes f.key) words m db (with_further (take i fs) n words t)
takes_next fs i n m words f before db t takes low is at room = record {
  key_free = free_at fs i n words f t takes.free low is;
  number_free = uncounted_at fs i n m words t (omega (arith, at))
      (takes.numbers.free m (omega (arith, at)) (omega (arith, at, low)));
  short = takes.short f (had fs i f low is);
  room = room.commands;
}

-- ---- after the rest of the change

-- commands have the same keys
abbrev HaveSameKeys : List CommandRow → List CommandRow → Type 0
HaveSameKeys cs ds = map (λ (c : CommandRow). c.call_key) cs
    ≡ map (λ (c : CommandRow). c.call_key) ds

none_mapped : {X Y : Type 0} (f : X → Y) (xs : List X) → map f xs ≡ [] → xs ≡ []
none_mapped f [] none = refl
none_mapped f (x ∷ xs) none = cc

none_under : (key : List ℕ) (cs ds : List CommandRow) → HaveSameKeys cs ds
    → filter (is_under key) cs ≡ [] → filter (is_under key) ds ≡ []
none_under key cs ds same none =
    let key_of : CommandRow → List ℕ = λ c. c.call_key in
    let is : List ℕ → Bool = λ k. bytes_eq k key in
    none_mapped key_of (filter (is_under key) ds)
    (sym (filter-map is key_of ds)
    ∙ (ap (filter is) (sym same)
    ∙ (filter-map is key_of cs
    ∙ ap (map key_of) none)))

-- the keys are free of commands that have the same keys, under any numbers
free_still : (fs : List Further) (m n : ℕ) (words : List ℕ) (s t : Tables)
    → HaveSameKeys s.commands t.commands → AreFreeInTurn fs m words s → AreFreeInTurn fs n words t
free_still [] m n words s t same free = tt
free_still (f ∷ fs) m n words s t same free = (
  none_under (string_bytes f.key) s.commands t.commands same free.0,
  free_still fs (m + 1) (n + 1) words (with_command (row_of f m words) s)
      (with_command (row_of f n words) t) (ap (λ l. string_bytes f.key ∷ l) same) free.1,
)

-- it can be added under its further keys once it was added under the first
pub takes_further : (ch : Changed) (ts : List Intent) (bytes : List (List ℕ)) (key words : List ℕ)
    (n : ℕ) (db : Trees) (t : Tables) → FitsTables (with_pending ch ts bytes) key words t
    → TakesNumbers n (length ch.further + 1) t → HasRoom (length ch.further) db
    → TakesFurther ch.further (n + 1) words db (with_command (command_row key n words ch.reply)
    (with_bytes bytes (with_intents (intent_rows 1 ts) (with_records ch t))))
takes_further ch ts bytes key words n db t fits numbers room =
    let same = sym (records_keep ch t) in
    let first = command_row key n words ch.reply in
    record {
      free = free_still ch.further (count_of t + 2) (n + 1) words
          (with_command (command_row key (count_of t + 1) words ch.reply) t)
          (with_command first (with_bytes bytes (with_intents (intent_rows 1 ts)
          (with_records ch t))))
          (ap (λ (l : List CommandRow). key ∷ map (λ (c : CommandRow). c.call_key) l) same)
          fits.further_free;
      numbers = record {
        few = omega (arith, numbers.few);
        free = λ k low high. (
          (λ is. omega (arith, low, is)),
          subst (λ (l : List CommandRow). AllByRecursion (λ (c : CommandRow). c.seq ≢ k) l) same
              (numbers.free k (omega (arith, low)) (omega (arith, high))),
        );
      };
      short = fits.further_short;
      room = room;
    }
