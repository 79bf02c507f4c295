-- What the rules decide on a state fits the tables of that state.
use Rattle.gm_bench.proofs.Common.{◌≡◌, ◌≢◌, ◌≤◌, inl, inr, ℕ, ◌<◌, ◌+◌, ◌^◌, true, false, refl, sym, subst, arith, List, [], ◌∷◌, map, length, string_bytes, Has, Further, AreFreeInTurn, with_command, command_row, count_of, AreFresh, further_keys, IfOk, Result, Ok, Err, AllByRecursion, Command, CommandFits, is_key, words_of, Intent, Records, IsState, IntentRow, Tables, joined, ReplyFits, Fact, Refusal, Seen, seen_in, after, intents_of, Changed, Decides, Makes, changed_by, few_intents, few_put, IsItself, reply_told, AreRecordsOf, settled, with_pending, FitsTables, IsFree, Waiting, Nothing, HasNothingElse, left_by, HasNothingPending, IsFitting}
use Rattle.std.specs.Str.{bytes_eq}
use Rattle.gm_lists.proofs.Order.{differ}
use Rattle.gm_registry.proofs.ChangesFit.{records_fit}
use Rattle.gm_bench.specs.declared.phase.Waiting.TheVariants.{Done}
use Rattle.gm_bench.proofs.FewBytes.{few_laid}
use Rattle.gm_bench.proofs.PlannedAlone.{planned_state}
use Rattle.gm_bench.proofs.ShortWords.{key_short, words_short}

pub made_fits : (s : Records) (facts : List Fact) (c : Command) (ch : Changed) (t : Tables)
    → AreRecordsOf t s → CommandFits c → Makes s (seen_in facts) c ch → IsItself (seen_in facts) c
    → IsFitting ch (words_of c) t
made_fits s facts c ch t are fits makes itself =
    let left : IsState (changed_by ch s) =
    planned_state s facts c ch are.state fits makes itself in
    let few : length (intents_of c s (after (seen_in facts) c s)) ≤ 48 =
    few_intents c s (after (seen_in facts) c s) are.state (subst IsState makes.records left) in
    record {
      records = records_fit ch s t are.state are.rows makes.in_place left;
      few_put = few_put s ch makes.in_place left;
      few_written = rw makes.intents few;
      few_laid = rw makes.bytes (few_laid c fits);
      replies = (
        subst ReplyFits (sym makes.reply) (reply_told s facts c are.state fits makes.good),
        λ f h. absurd (subst (λ (fs : List Further). Has fs f) makes.once h),
      );
      short = words_short s (seen_in facts) c fits are.state makes.good;
    }

-- what is decided, if it is a change, is what the command makes
pub made_of : (s : Records) (x : Seen) (c : Command) (r : Result Changed Refusal)
    → Decides s x c r → IfOk r (λ ch. Makes s x c ch)
made_of s x c (Ok ch) makes = makes
made_of s x c (Err r) least = tt

-- keys that are free and apart stay so while the command is put under those before them
free_in_turn : (fs : List Further) (n : ℕ) (words : List ℕ) (t now : Tables)
    (taken : List (List ℕ))
    → ((key : List ℕ) → (Has taken key → ⊥) → IsFree t key → IsFree now key)
    → AreFresh t taken (map (λ f. string_bytes f.key) fs) → AreFreeInTurn fs n words now
free_in_turn [] n words t now taken still fresh = tt
free_in_turn (f ∷ fs) n words t now taken still fresh =
    let key = string_bytes f.key in
    let row = command_row key n words f.reply in (
      still key fresh.2 fresh.1,
      free_in_turn fs (n + 1) words t (with_command row now) (key ∷ taken)
          (λ other apart free.
          let differs : bytes_eq key other ≡ false =
          differ key other (λ e. apart (inl e)) in
          rw differs (still other (λ h. apart (inr h)) free)) fresh.3,
    )

-- each has the form of a key
fresh_key : (t : Tables) (taken : List (List ℕ)) (fs : List Further) (f : Further) → Has fs f
    → AreFresh t taken (map (λ f. string_bytes f.key) fs) → is_key (string_bytes f.key) ≡ true
fresh_key t taken [] f h fresh = absurd h
fresh_key t taken (g ∷ fs) f (inl same) fresh =
    subst (λ (x : Further). is_key (string_bytes x.key) ≡ true) same fresh.0
fresh_key t taken (g ∷ fs) f (inr h) fresh =
    fresh_key t (string_bytes g.key ∷ taken) fs f h fresh.3

-- so the tables take it under free keys, with some intents, if nothing is pending
pub fits_with : (ch : Changed) (ts : List Intent) (bytes : List (List ℕ)) (key words : List ℕ)
    (t : Tables)
    → IsFitting ch words t → length ts < 2 ^ 32 → length (joined bytes) ≤ 536870912
    → HasNothingPending t → is_key key ≡ true → IsFree t key
    → AreFresh t (key ∷ []) (further_keys ch)
    → FitsTables (with_pending ch ts bytes) key words t
fits_with ch ts bytes key words t fits few laid none is free fresh =
    let low : length key ≤ 32 = key_short key is in
    let short : length words ≤ 70000 = fits.short in
    record {
      records = record {
        gone = fits.records.gone;
        put = fits.records.put;
        placed = fits.records.placed;
      };
      intents = record {
        few = few;
        free = λ n _ _. subst (λ (rows : List IntentRow).
            AllByRecursion (λ (i : IntentRow). i.ord ≢ n) rows) (sym none.0) tt;
      };
      bytes = record { free = inr none.1; short = omega (arith, laid) };
      key_free = free;
      short = omega (arith, low, short);
      further_free = free_in_turn ch.further (count_of t + 2) words t
          (with_command (command_row key (count_of t + 1) words ch.reply) t) (key ∷ [])
          (λ other apart f.
          let differs : bytes_eq key other ≡ false = differ key other (λ e. apart (inl e)) in
          rw differs f) fresh;
      further_short = λ f h.
          let low : length (string_bytes f.key) ≤ 32 =
          key_short (string_bytes f.key) (fresh_key t (key ∷ []) ch.further f h fresh) in
          omega (arith, low, short);
    }

-- so do the tables on which a command is accepted that settles what waits
pub fits_left : (waiting : Waiting) (ch : Changed) (key words : List ℕ) (t : Tables)
    → IsFitting ch words (left_by waiting t) → HasNothingElse waiting t → is_key key ≡ true
    → IsFree t key → AreFresh t (key ∷ []) (further_keys ch)
    → FitsTables ch key words (left_by waiting t)
fits_left waiting ch key words t fits none is free fresh =
    let written : length ch.intents ≤ 48 = fits.few_written in
    let laid : length (joined ch.bytes) ≤ 32768 = fits.few_laid in
    by waiting fits none (omega (arith, written)) (omega (arith, laid))
  where
    settled_fresh : (taken keys : List (List ℕ)) → AreFresh t taken keys
        → AreFresh (settled t) taken keys
    settled_fresh taken [] fresh = tt
    settled_fresh taken (k ∷ keys) fresh =
        (fresh.0, fresh.1, fresh.2, settled_fresh (k ∷ taken) keys fresh.3)

    by : (waiting : Waiting) → IsFitting ch words (left_by waiting t) → HasNothingElse waiting t
        → length ch.intents < 2 ^ 32 → length (joined ch.bytes) ≤ 536870912
        → FitsTables ch key words (left_by waiting t)
    by Nothing fits none few laid =
        fits_with ch ch.intents ch.bytes key words t fits few laid none is free fresh
    by Done fits none few laid =
        fits_with ch ch.intents ch.bytes key words (settled t) fits few laid (refl, refl) is free
        (settled_fresh (key ∷ []) (further_keys ch) fresh)
