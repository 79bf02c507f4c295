-- Rows of intents, added one by one.
use Rattle.gm_registry.proofs.Common.{◌≡◌, ℕ, ◌+◌, ◌<◌, suc, List, [], ◌∷◌, ◌++◌, take, length, get_or, sym, ap, subst, ◌∙◌, arith, IsPermutation, length-take-le, append_assoc, IsPermutation-middle, IsPermutation-sym, Trees, Database, State, whole, keeps_same, inside_as, Intent, Tables, IntentRow, intent_row, intent_rows, registry_schema, intent_values, HasRows, IsInside, with_intents}
use Rattle.std.proofs.Math.Seq.{take-suc}

rows-append : (n : ℕ) (ts : List Intent) (t : Intent)
    → intent_rows n (ts ++ t ∷ []) ≡ intent_rows n ts ++ intent_row (n + length ts) t ∷ []
rows-append n [] t = ap (λ k. intent_row k t ∷ []) (omega arith)
rows-append n (x ∷ ts) t =
    ap (λ l. intent_row n x ∷ l) (rows-append (n + 1) ts t
    ∙ ap (λ k. intent_rows (n + 1) ts ++ intent_row k t ∷ []) (omega arith))

-- one intent more, under the next number
one_row_more : (all : List Intent) (i ord : ℕ) (t : Intent) → i < length all → t ≡ get_or all i t
    → ord ≡ i + 1 → intent_rows 1 (take (i + 1) all) ≡ intent_rows 1 (take i all)
    ++ intent_row ord t ∷ []
one_row_more all i ord t low is next =
    let more : i + 1 ≡ suc i = omega arith in
    let count : length (take i all) ≡ i = length-take-le i all (omega (arith, low)) in
    let place : 1 + length (take i all) ≡ ord = omega (arith, count, next) in
    ap (λ n. intent_rows 1 (take n all)) more
    ∙ (ap (intent_rows 1) (take-suc all i t low ∙ ap (λ y. take i all ++ y ∷ []) (sym is))
    ∙ (rows-append 1 (take i all) t ∙ ap (λ k. intent_rows 1 (take i all) ++ intent_row k t
    ∷ []) place))

reordered : (db : Trees) (t : Tables) (xs ys : List IntentRow) → IsPermutation xs ys
    → HasRows db (record t { intents = xs }) → HasRows db (record t { intents = ys })
reordered db t xs ys same h = record {
  about = h.about;
  mirrors = h.mirrors;
  components = h.components;
  intents = keeps_same whole intent_values xs ys (db 7) same h.intents;
  commands = h.commands;
  patches = h.patches;
}

-- the row that came last comes after the others
pub behind : (at : Database) (s : State) (all : List Intent) (i ord : ℕ) (x : Intent) (t : Tables)
    → i < length all → x ≡ get_or all i x → ord ≡ i + 1
    → IsInside at s (with_intents (intent_row ord x ∷ [])
    (with_intents (intent_rows 1 (take i all)) t))
    → IsInside at s (with_intents (intent_rows 1 (take (i + 1) all)) t)
behind at s all i ord x t low is next was =
    let before = intent_rows 1 (take i all) in
    let same : IsPermutation (intent_row ord x ∷ (before ++ t.intents))
    (intent_rows 1 (take (i + 1) all) ++ t.intents) =
    subst (IsPermutation (intent_row ord x ∷ (before ++ t.intents)))
    (sym (ap (λ l. l ++ t.intents) (one_row_more all i ord x low is next)
    ∙ append_assoc before (intent_row ord x ∷ []) t.intents))
    (IsPermutation-sym _ _ (IsPermutation-middle before (intent_row ord x) t.intents)) in
    inside_as registry_schema HasRows HasRows _ _ at s (reordered s.now.trees t _ _ same) was
