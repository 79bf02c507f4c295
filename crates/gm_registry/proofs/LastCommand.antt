-- What the query of the last command finds.
use Rattle.gm_registry.proofs.Common.{◌≡◌, inl, inr, ℕ, zero, suc, pos, ◌+◌, ◌<◌, ◌≤◌, List, [], ◌∷◌, map, length, get_or, IsPermutation, refl, sym, ap, subst, subst₂, ◌∙◌, arith, slice_get, Some, Option, true, is_lt, IsPermutation-map, IsPermutation-trans, IsPermutation-sym, ranks_by, IsStrictWeakOrder-flip, IsSortedBy, map-map, Row, column, value_cmp, value_cmp_total, value_cmp-Int, then-Equal, Value, Null, Int, IsAnswer, Output, output, output_cmp, State, Shown, reads_as, columns, overlaid, mapped_from, has_mapped, settled_schema, settled_rows, Has, Tables, CommandRow, last_command_text, registry_schema, command_values, SeesTables, HasCounted, AreNumbered, numbers_of, IsLastOf, count_of, is_less, is_greater, IsFirstBy, counted_up_to, has_from, stands_from, stands_permuted}
use Rattle.sqlite_rules.specs.Lists.{Has as Stands}
use Rattle.gm_registry.proofs.TextMeanings.{last_query, last_is}
use Rattle.gm_registry.proofs.FirstShown.{key, first_shown}
use Rattle.gm_registry.proofs.NumberQueries.{outs}
use Rattle.gm_rows.proofs.CountedCommands.{not_below}

-- what a row is sorted by, and shows
abbrev out : Row → Output
out row = (column row 2 ∷ [], column row 2 ∷ [])

abbrev number_out : CommandRow → Output
number_out c = (Int (pos c.seq) ∷ [], Int (pos c.seq) ∷ [])

abbrev of_columns : Row → Output
of_columns row = (column row 1 ∷ [], column row 1 ∷ [])

out_columns : (row : Row) → of_columns (columns row) ≡ out row
out_columns [] = refl
out_columns (x ∷ xs) = refl

-- the number that a command is sorted by
abbrev number_value : CommandRow → Value
number_value c = Int (pos c.seq)

last_of : (t : Tables) (rows : List Row) → IsFirstBy is_greater number_value t.commands rows
    → IsLastOf t rows
last_of t rows (inl none) = inl none
last_of t rows (inr it) = inr (
  it.0,
  it.1,
  λ d has. not_below it.0.seq d.seq
      (ap is_lt (sym (value_cmp-Int (pos it.0.seq) (pos d.seq))) ∙ it.2 d has),
  it.3,
)

sorts_by : (x y : Output) → output_cmp last_query x y ≡ value_cmp (key y) (key x)
sorts_by x y = then-Equal (value_cmp (key y) (key x))

pub lasts : (old new : State) (rows : List Row) (t : Tables) → SeesTables old t
    → Shown last_command_text [] old new rows → IsLastOf t rows
lasts old new rows t was h =
    let db = old.now.trees in
    let all = reads_as last_command_text [] old new registry_schema
    (settled_schema registry_schema HasCounted old t was) _ last_is.command_is last_is.plain
    last_is.of_tables rows h in
    let a : IsAnswer last_query db [] rows =
    subst (λ d. IsAnswer last_query d [] rows) (overlaid db) (all.answer Null) in
    let kept : a.kept ≡ map out (db 8) =
    a.distinct ∙ (ap (map (output last_query)) a.grouped ∙ outs true db (db 8)) in
    let stored : map of_columns (map columns (db 8)) ≡ map out (db 8) =
    map-map of_columns columns (db 8) ∙ (λ i. map (λ row. out_columns row i) (db 8)) in
    let mine : IsPermutation (map number_out t.commands) a.ordered =
    IsPermutation-trans _ _ _ (subst₂ IsPermutation (map-map of_columns command_values t.commands)
    (stored ∙ sym kept) (IsPermutation-map of_columns _ _
    (settled_rows registry_schema HasCounted old t was).rows.rows.commands.same)) a.same in
    let up : IsSortedBy (λ (x y : Output). is_greater (key x) (key y)) a.ordered =
    λ k d i j. sym (ap is_lt (sorts_by (get_or a.ordered (k + 1) d) (get_or a.ordered k d)))
    ∙ a.sorted k d i j in
    last_of t rows (first_shown is_greater
    (IsStrictWeakOrder-flip (λ x y. is_less (key x) (key y)) (ranks_by value_cmp_total key))
    number_value t.commands rows a.ordered mine up a.shown)

greatest : (n : ℕ) → 0 < n → Stands (numbers_of n) n
greatest zero some = absurd (omega (arith, some))
greatest (suc n) some = inl refl

some_in : {X : Type 0} (xs : List X) (x : X) → Has xs x → 0 < length xs
some_in [] x h = absurd h
some_in (y ∷ ys) x h = omega arith

-- numbers without gaps: none is greater than there are commands
pub seq_in_range : (commands : List CommandRow) → AreNumbered commands → (c : CommandRow)
    → Stands commands c → c.seq ≤ length commands
seq_in_range commands numbered c has =
    let seqs = map (λ (d : CommandRow). d.seq) commands in
    let stands = stands_permuted seqs (numbers_of (length commands)) c.seq
    (IsPermutation-sym _ _ numbered) (has_mapped (λ d. d.seq) commands c has) in
    (counted_up_to (length commands) c.seq
    (has_from (numbers_of (length commands)) c.seq stands)).1

-- the greatest says how many there are
counted : (commands : List CommandRow) → AreNumbered commands → (c : CommandRow) → Has commands c
    → ((d : CommandRow) → Has commands d → d.seq ≤ c.seq) → c.seq ≡ length commands
counted commands numbered c has most =
    let seqs = map (λ (d : CommandRow). d.seq) commands in
    let low = seq_in_range commands numbered c (stands_from commands c has) in
    let top = stands_permuted (numbers_of (length commands)) seqs (length commands) numbered
    (greatest (length commands) (some_in commands c has)) in
    let from = mapped_from (λ (d : CommandRow). d.seq) commands (length commands) top in
    omega (arith, low, most from.0 (has_from commands from.0 from.1), from.2)

pub no_command : (t : Tables) (rows : List Row) → IsLastOf t rows → length rows ≡ 0 → 0 ≡ count_of t
no_command t rows (inl it) none = sym (ap length it.0)
no_command t rows (inr it) none = absurd (omega (arith, none, ap length it.3))

number_of : (a b : ℕ) → ◌≡◌ {A = Value} (Int (pos a)) (Int (pos b)) → a ≡ b
number_of a b e = cc

some_same : (a b : Row) → ◌≡◌ {A = Option Row} (Some a) (Some b) → a ≡ b
some_same a b e = cc

pub last_number : (t : Tables) (rows : List Row) (row : Row) (n : ℕ) → AreNumbered t.commands
    → IsLastOf t rows → slice_get rows 0 ≡ Some row → column row 0 ≡ Int (pos n) → n ≡ count_of t
last_number t rows row n numbered (inl it) first is =
    absurd (let e = sym (ap (λ l. slice_get l 0) it.1) ∙ first in cc)
last_number t rows row n numbered (inr it) first is =
    let same : row ≡ Int (pos it.0.seq) ∷ [] =
    some_same _ _ (sym first ∙ ap (λ l. slice_get l 0) it.3) in
    sym (number_of it.0.seq n (ap (λ x. column x 0) (sym same) ∙ is))
    ∙ counted t.commands numbered it.0 it.1 it.2

-- the row that was found shows a number of at most the number of commands
pub last_in_range : (t : Tables) (rows : List Row) (row : Row) → AreNumbered t.commands
    → IsLastOf t rows → slice_get rows 0 ≡ Some row
    → (n : ℕ) × (n ≤ count_of t) × (column row 0 ≡ Int (pos n))
last_in_range t rows row numbered (inl it) first =
    absurd (let e = sym (ap (λ l. slice_get l 0) it.1) ∙ first in cc)
last_in_range t rows row numbered (inr it) first =
    let same : row ≡ Int (pos it.0.seq) ∷ [] =
    some_same _ _ (sym first ∙ ap (λ l. slice_get l 0) it.3) in
    let is = counted t.commands numbered it.0 it.1 it.2 in
    (it.0.seq, omega (arith, is), ap (λ r. column r 0) same)
