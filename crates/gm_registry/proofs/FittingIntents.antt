-- Why the insertion of an intent fails: no rule of its table refuses it if its number is free.
use Rattle.gm_registry.proofs.Common.{◌≡◌, ◌≢◌, inl, inr, ℕ, pos, ◌+◌, ◌^◌, ◌<◌, ◌≤◌, true, false, not, ◌&&◌, List, [], ◌∷◌, ◌++◌, take, length, IsTrue, refl, sym, ap, subst, ◌∙◌, arith, nat_lt, ◌==◌, eq-eqb, is_eq, AllByRecursion, true≢false, false_from_ne_true, not-true, nat_tests, length-take-le, Trees, Insert, Values, Chosen, Int, IsSound, Enforced, Unique, ForeignKey, rowid, value_cmp, value_cmp-Int, is_taken, with_rowid, IsOversized, some_has, all_has, test_has, guards, whole, is_all_of, unique_added, small, IsAllowed, insert_stops, is_label, Intent, Meta, Clear, Copy, Dirty, Patch, Tables, IntentRow, intent_row, intent_rows, intent_values, intents, registry_schema, put_intent_text, HasRows, with_intents, IsUnnumbered, AreShort, TakesIntents}
use Rattle.sqlite.specs.Listing.{understood}
use Rattle.sqlite_tied.specs.Compute.{everything}
use Rattle.gm_metadata.proofs.Labels.{label_parts}
use Rattle.gm_registry.proofs.ChangedTables.{intent_params, intent_typed}
use Rattle.gm_registry.proofs.FittingTables.{apart, record_of, only, same_number, refers}
use Rattle.gm_registry.proofs.InsideFails.{StopsOnly}
use Rattle.gm_registry.proofs.TextMeanings.{intent_terms}

-- so is the text of a label
pub text_of_label : (text name : List ℕ) → text ≡ name → IsTrue (is_label name) → length text < 16
text_of_label text name is label = let parts = label_parts name label in
    let below = parts.1 in let e = ap length is in
    omega arith

-- names of labels are short
pub labels_short : (a b : List ℕ) → length a < 16 → length b < 16 → AreShort a b
labels_short a b p q = omega arith

module _ (i : IntentRow) (db : Trees) (t : Tables) (holds : HasRows db t)
    (sound : IsSound registry_schema db) where
  free : IsUnnumbered i.ord t → is_taken (db 7) (intent_values i) ≡ false
  free unnumbered = false_from_ne_true _ (λ taken.
      let row = some_has _ (db 7) taken in
      let of = record_of whole intent_values t.intents (db 7) row.0 holds.intents row.1 in
      let id : rowid row.0 ≡ Int (pos of.0.ord) = ap rowid of.2 in
      all_has _ t.intents of.0 unnumbered of.1 (same_number of.0.ord i.ord
      (ap is_eq (sym (value_cmp-Int (pos of.0.ord) (pos i.ord)))
      ∙ subst (λ v. is_eq (value_cmp v (Int (pos i.ord))) ≡ true) id row.2)))

  allowed : i.ord < 2 ^ 32 → AreShort i.prov i.source → IsUnnumbered i.ord t
      → IsAllowed registry_schema Enforced db
      (record { table = intents; gone = []; news = intent_values i ∷ [] })
  allowed low short unnumbered =
      let first : is_taken (db 7) (intent_values i) ≡ false = free unnumbered in
      let fresh : not (is_taken (db 7) (intent_values i)) && true ≡ true =
      ap (λ b. not b && true) first in
      let number : nat_lt i.ord (2 ^ 63) ≡ true = grind (arith, nat_tests) in
      record {
        typed = refl;
        present = refl;
        checked = refl;
        keyed = refl;
        numbers = ap (λ b. b && true) number;
        fresh = fresh;
        unique = unique_added registry_schema db
            (record { table = intents; gone = []; news = intent_values i ∷ [] }) apart
            (inr (inr (inr (inl refl)))) holds.intents.keyed.0 fresh (intent_values i) refl
            (λ index known guarded. absurd (true≢false (sym guarded ∙ not-true _ (test_has
            (λ index. not (guards index intents)) registry_schema.indexes index refl known))))
            (sound.obeys.rules Unique);
        referred = refl;
        small = λ row has.
            subst (λ r. IsOversized registry_schema intents r → ⊥)
            (sym (only (intent_values i) row has))
            (small registry_schema intents (intent_values i) refl refl (omega arith, omega arith)
            (omega (arith, short))
            (λ index known own. absurd (true≢false (sym (eq-eqb _ _ own) ∙ not-true _ (test_has
            (λ index. not (index.table == 7)) registry_schema.indexes index refl known)))));
      }

pub put_intent_whole : is_all_of put_intent_text 6 (understood registry_schema put_intent_text)
    ≡ true
unfolding understood everything
put_intent_whole = refl

pub put_intent_stops : (i : IntentRow) → i.ord < 2 ^ 32
    → StopsOnly (Insert 3 (Values intent_terms 7)) (intent_params i)
    (λ _ t. IsUnnumbered i.ord t × AreShort i.prov i.source)
put_intent_stops i low db t limit text stop holds sound fits =
    insert_stops registry_schema 3 intents refl intent_terms 7 (intent_params i) (intent_values i)
    (intent_values i) limit db refl refl
    (ap (with_rowid Chosen (db 7)) (intent_typed i))
    (allowed i db t holds sound low fits.1 fits.0)
    (λ next made. refers db next (made.tables.1.0 (λ e. let f : 1 ≡ 7 = e in cc))
    (made.tables.1.1.0 (λ e. let f : 4 ≡ 7 = e in cc)) (sound.obeys.rules ForeignKey)) stop

-- ---- several in turn

number_of : (n : ℕ) (x : Intent) → (intent_row n x).ord ≡ n
number_of n (Meta p) = refl
number_of n (Clear p) = refl
number_of n (Copy from to first end) = refl
number_of n (Dirty p) = refl
number_of n (Patch p first end) = refl

others_unnumbered : (ts : List Intent) (from n : ℕ) (rows : List IntentRow) → from + length ts ≤ n
    → AllByRecursion (λ (i : IntentRow). i.ord ≢ n) rows
    → AllByRecursion (λ (i : IntentRow). i.ord ≢ n) (intent_rows from ts ++ rows)
others_unnumbered [] from n rows low all = all
others_unnumbered (x ∷ ts) from n rows low all = (
  (λ same. let number = number_of from x in omega (arith, low, number, same)),
  others_unnumbered ts (from + 1) n rows (omega (arith, low)) all,
)

-- after those that have their numbers the next number is free
pub next_unnumbered : (ts : List Intent) (i next : ℕ) (t : Tables) → TakesIntents (length ts) t
    → i < length ts → next ≡ i + 1
    → IsUnnumbered next (with_intents (intent_rows 1 (take i ts)) t)
next_unnumbered ts i next t takes low is =
    let count : length (take i ts) ≡ i = length-take-le i ts (omega (arith, low)) in
    others_unnumbered (take i ts) 1 next t.intents (omega (arith, count, is))
    (takes.free next (omega (arith, is)) (omega (arith, low, is)))
