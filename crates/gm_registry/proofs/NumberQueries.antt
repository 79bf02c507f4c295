-- What the queries that count the commands mean, and why they fail.
use Rattle.gm_registry.proofs.Common.{◌≡◌, ◌∙◌, ◌⊎◌, inl, inr, ℕ, zero, suc, pos, ◌<◌, Bool, true, false, min, List, [], ◌∷◌, map, filter, flat_map, length, get_or, ◌+◌, IsPermutation, Option, Some, None, refl, sym, ap, subst, codes, arith, IsTrue, IsSome, slice_index_or, IsStrictWeakOrder, is_lt, AllZip, list_all, length-map, length_permutation, IsStrictWeakOrder-flip, ranks_by, MoreFaults, Row, Schema, Trees, Binary, Value, Null, Int, Error, lit, col, holds, Env, Query, IsAnswer, Output, output, output_cmp, end, matches_as, State, HasCleanDisk, Shown, FailsToQuery, Survives, CommitsShowing, reads_as, one_permutation, QueryOverflows, accepts_program, value_cmp, value_cmp_total, then-Equal, is_all_of, read_fault, scan, overlaid, read_by, failed_by, fault_of, number_text, number_of, is_less, is_greater, IsFirstBy, IsNumberShown, registry_schema, Count, Least, Greatest, Store, IsOurSchema, IsOurs, HasRead, HasFailed}
use Rattle.sqlite.specs.Listing.{understood}
use Rattle.sqlite.proofs.Callers.{IsPlain}
use Rattle.sqlite_sql.specs.Group.{Grouping, Aggregate, value_over, IsSummary}
use Rattle.sqlite_sql.specs.declared.aggregate.AggregateOp.TheVariants.{CountRows}
use Rattle.sqlite_tied.specs.Compute.{everything}
use Rattle.gm_rows.specs.declared.command_numbers.CommandNumber.{CommandNumber}
use Rattle.gm_registry.proofs.Failures.{never, told}
use Rattle.gm_registry.proofs.FirstShown.{key, first_shown}
use Rattle.gm_registry.proofs.TextMeanings.{Asks, end_query}

-- ---- the queries

-- all rows are counted as they are
abbrev counting : Aggregate
counting = record { op = CountRows; distinct = false; collation = Binary; argument = lit Null }

abbrev together : Grouping
together = record { keys = []; collations = []; aggregates = counting ∷ []; having = [] }

abbrev count_query : Query
count_query = record (scan 8 [] (col 1 0 ∷ []) []) { group = Some together }

abbrev number_query : CommandNumber → Query
number_query Count = count_query
number_query Least = end_query false
number_query Greatest = end_query true

abbrev shown_names : CommandNumber → List (List ℕ)
shown_names Count = codes "count(*)" ∷ []
shown_names Least = codes "seq" ∷ []
shown_names Greatest = codes "seq" ∷ []

asked : (n : CommandNumber) → Asks (number_text n) (number_query n) (shown_names n)
unfolding understood everything
asked Count = record { command_is = refl; plain = (refl, refl); of_tables = refl }
asked Least = record { command_is = refl; plain = (refl, refl); of_tables = refl }
asked Greatest = record { command_is = refl; plain = (refl, refl); of_tables = refl }

-- ---- how many there are

all_matched : (db : Trees) (xs : List Row)
    → length (flat_map (λ r. matches_as Null db [] end ([] ∷ r ∷ [])) xs) ≡ length xs
all_matched db [] = refl
all_matched db (x ∷ xs) = ap suc (all_matched db xs)

-- a count of so many
abbrev counted : ℕ → Value
counted n = Int (pos (min n 9223372036854775807))

one_some : (a b : Value) → ◌≡◌ {A = Option Value} (Some a) (Some b) → b ≡ a
one_some a b e = cc

one_value : (group : List Env) (values : Row)
    → AllZip (λ (a : Aggregate) v. value_over group a ≡ Some v) (counting ∷ []) values
    → values ≡ counted (length group) ∷ []
one_value group [] all = absurd all
one_value group (v ∷ []) all =
    ap (λ w. w ∷ []) (one_some _ v all.0 ∙ ap counted (length-map group _))
one_value group (v ∷ w ∷ more) all = absurd all.1

one_row : (group : List Env) (rows : List Row)
    → AllZip (IsSummary together) (group ∷ []) rows → rows ≡ (counted (length group) ∷ []) ∷ []
one_row group [] all = absurd all
one_row group (r ∷ []) all =
    ap (λ row. row ∷ []) (all.0.2 ∙ one_value group all.0.0 all.0.1)
one_row group (r ∷ s ∷ more) all = absurd all.1

-- what is gone on with of the rows of groups: no HAVING drops one
abbrev all_of_groups : List Row → List Env
all_of_groups rows = filter (λ env. list_all (holds env) []) (map (λ r. [] ∷ r ∷ []) rows)

count_answer : (db : Trees) (rows : List Row) → IsAnswer count_query db [] rows
    → rows ≡ (counted (length (db 8)) ∷ []) ∷ []
count_answer db rows a =
    let it = a.grouped in
    let order = it.grouping.0 in
    let many : length order ≡ length (db 8) =
    length_permutation _ order it.grouping.1 ∙ all_matched db (db 8) in
    let sums : it.rows ≡ (counted (length order) ∷ []) ∷ [] =
    one_row order it.rows
    (subst (λ gs. AllZip (IsSummary together) gs it.rows) it.grouping.2 it.summaries) in
    let told : it.rows ≡ (counted (length (db 8)) ∷ []) ∷ [] =
    sums ∙ ap (λ n. (counted n ∷ []) ∷ []) many in
    let shown : Output = ([], counted (length (db 8)) ∷ []) in
    let kept : a.kept ≡ shown ∷ [] =
    a.distinct ∙ ap (map (output count_query)) (it.having ∙ ap all_of_groups told) in
    let ordered : a.ordered ≡ shown ∷ [] =
    one_permutation shown a.ordered (subst (λ l. IsPermutation l a.ordered) kept a.same) in
    a.shown ∙ ap (map (λ (o : Output). o.1)) ordered

-- ---- the first of them by their numbers

-- each is sorted by its number, and shows it
pub outs : (descending : Bool) (db : Trees) (xs : List Row)
    → map (output (end_query descending))
    (flat_map (λ r. matches_as Null db [] end ([] ∷ r ∷ [])) xs)
    ≡ map (λ row. (number_of row ∷ [], number_of row ∷ [])) xs
outs descending db [] = refl
outs descending db (x ∷ xs) =
    ap (λ l. (number_of x ∷ [], number_of x ∷ []) ∷ l) (outs descending db xs)

module _ (descending : Bool) (before : Value → Value → Bool)
    (weak : IsStrictWeakOrder (λ (x y : Output). before (key x) (key y)))
    (sorts : (x y : Output)
    → is_lt (output_cmp (end_query descending) x y) ≡ before (key x) (key y)) where
  end_answer : (db : Trees) (rows : List Row) → IsAnswer (end_query descending) db [] rows
      → IsFirstBy before number_of (db 8) rows
  end_answer db rows a =
      let all : a.kept ≡ map (λ row. (number_of row ∷ [], number_of row ∷ [])) (db 8) =
      a.distinct ∙ (ap (map (output (end_query descending))) a.grouped
      ∙ outs descending db (db 8)) in
      first_shown before weak number_of (db 8) rows a.ordered
      (subst (λ l. IsPermutation l a.ordered) all a.same)
      (λ k d i j. sym (sorts (get_or a.ordered (k + 1) d) (get_or a.ordered k d))
      ∙ a.sorted k d i j) a.shown

number_answer : (n : CommandNumber) (db : Trees) (rows : List Row)
    → IsAnswer (number_query n) db [] rows → IsNumberShown db n rows
number_answer Count db rows a = count_answer db rows a
number_answer Least db rows a =
    end_answer false is_less (ranks_by value_cmp_total key)
    (λ x y. ap is_lt (then-Equal (value_cmp (key x) (key y)))) db rows a
number_answer Greatest db rows a =
    end_answer true is_greater
    (IsStrictWeakOrder-flip (λ x y. is_less (key x) (key y)) (ranks_by value_cmp_total key))
    (λ x y. ap is_lt (then-Equal (value_cmp (key y) (key x)))) db rows a

-- ---- calls

pub shows_number : (n : CommandNumber) (old new : State) (rows : List Row) → IsOurs old
    → Shown (number_text n) [] old new rows → IsNumberShown old.now.trees n rows
shows_number n old new rows ours h =
    let asks = asked n in
    let all = reads_as (number_text n) [] old new registry_schema ours _ asks.command_is
    asks.plain asks.of_tables rows h in
    number_answer n old.now.trees rows
    (subst (λ db. IsAnswer (number_query n) db [] rows) (overlaid old.now.trees)
    (all.answer Null))

plain_query : (n : CommandNumber) (s : Schema) → IsOurSchema s
    → IsPlain (understood s (number_text n))
plain_query n s ours =
    subst (λ sc. IsPlain (understood sc (number_text n))) (sym ours) (asked n).plain

pub read_number : (n : CommandNumber) (old new : State) (rows : List Row)
    → (HasCleanDisk new → Shown (number_text n) [] old new rows)
    → Survives old new (CommitsShowing (number_text n) [] old) → HasRead old new
read_number n = read_by IsOurSchema (number_text n) [] (plain_query n)

pub failed_number : (n : CommandNumber) (old new : State) (e : Error)
    → (HasCleanDisk new → FailsToQuery (number_text n) [] old new e)
    → Survives old new (CommitsShowing (number_text n) [] old) → HasFailed old new
failed_number n = failed_by IsOurSchema (number_text n) [] (plain_query n)

whole : (n : CommandNumber)
    → is_all_of (number_text n) 0 (understood registry_schema (number_text n)) ≡ true
unfolding understood everything
whole Count = refl
whole Least = refl
whole Greatest = refl

typed : (n : CommandNumber) → accepts_program registry_schema [] (number_query n) [] ≡ true
unfolding everything
typed Count = refl
typed Least = refl
typed Greatest = refl

only : {A : Type 0} (x y : A) (k : ℕ) → k < 1 → slice_index_or (x ∷ []) k y ≡ y → x ≡ y
only x y zero low is = is
only x y (suc k) low is = absurd (omega (arith, low))

never_lost : (group : List Env) → value_over group counting ≡ None → ⊥
never_lost group e = cc

safe : (n : CommandNumber) (db : Trees) → QueryOverflows (number_query n) db [] → ⊥
safe Count db (inl over) =
    let lost = over.2.4 in
    never_lost over.2.1 (subst (λ (a : Aggregate). value_over over.2.1 a ≡ None)
    (sym (only counting lost.1 lost.0 lost.2 lost.3)) lost.4)
safe Count db (inr over) = never (db 8) over
safe Least db (inl none) = none
safe Least db (inr over) = never (db 8) over
safe Greatest db (inl none) = none
safe Greatest db (inr over) = never (db 8) over

pub fault_number : (n : CommandNumber) (old new : State) (e : Error)
    → old.now.schema ≡ registry_schema → IsTrue old.is_open
    → FailsToQuery (number_text n) [] old new e → fault_of e ≡ Store
    → MoreFaults old.faults new.faults ⊎ IsSome old.step_limit
fault_number n old new e has is_open fails =
    let asks = asked n in
    told old new e (read_fault old new (number_text n) [] e registry_schema (number_query n) _ has
    asks.command_is asks.plain asks.of_tables (whole n) (typed n) (safe n) is_open fails)
