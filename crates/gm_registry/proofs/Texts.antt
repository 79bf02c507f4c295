-- The texts that a store lists, as the query of them finds them.
use Rattle.gm_registry.proofs.Common.{◌≡◌, ◌∙◌, ◌⊎◌, inl, inr, ⊎_elim, IsSome, IsTrue, ℕ, ◌<◌, ◌≤◌, pos, Bool, true, false, not, List, [], ◌∷◌, ◌++◌, filter, map, length, if◌then◌else◌, codes, Result, IsPermutation, refl, sym, ap, subst, arith, filter_agree, IsPermutation-refl, IsPermutation-sym, IsPermutation-trans, IsPermutation-map, IsPermutation-cons, IsPermutation-swap, length_permutation, map-map, Row, column, value_cmp-Null, Null, Int, Real, Text, Blob, is_null, is_true, Is, Binary, Term, lit, col, op1, op2, holds, Query, IsAnswer, Schema, Trees, Select, Reads, if_select, IsSourceOf, IsPlain, State, HasCleanDisk, FailsToQuery, Survives, Error, MoreFaults, QueryOverflows, accepts_program, is_all_of, listing_fault, fault_of, Store, survives_then, survives_weaker, command_of, scan, found, overlaid, Has, Has-permutation, load_texts_text, about_text, mirrors_text, components_text, intents_text, commands_text, patches_text, columns_at, two, HasReadOver, HasFailedOver, schema_of, IsOfRegistry, listed, under_number, tables_of, AllStand, Lists, ShowsList, Edition, First, Second}
use Rattle.sqlite_value.specs.declared.value.Value.{Value}
use Rattle.sqlite_value.specs.Order.{value_cmp}
use Rattle.sqlite_sql.specs.Ops.{unary, binary}
use Rattle.sqlite_sql.specs.declared.ops.UnaryOp.TheVariants.{Not}
use Rattle.sqlite_resolve.specs.declared.compiled.Compiled.{Compiled}
use Rattle.sqlite_resolve.specs.declared.error.CompileError.{CompileError}
use Rattle.sqlite_resolve.specs.Compile.{compiled}
use Rattle.sqlite.specs.Listing.{understood, listing_schema}
use Rattle.sqlite.specs.State.{Shown}
use Rattle.gm_registry.proofs.Failures.{never, told}
use Rattle.sqlite_tied.specs.Compute.{everything}

-- ---- the query

abbrev has_text : Term
has_text = op1 Not (op2 (Is Binary) (col 1 5) (lit Null))

abbrev texts_query : Query
texts_query = scan 0 (has_text ∷ []) (col 1 0 ∷ col 1 5 ∷ []) []

-- what the text means over the list of objects
abbrev over_list : Result Compiled CompileError
over_list = if_select (compiled listing_schema load_texts_text)

record IsTextsQuery : Type 0 where
  pub command_is : command_of over_list ≡ Select (record { lets = []; body = texts_query })
      (codes "rowid" ∷ codes "sql" ∷ [])
  pub plain : IsPlain over_list

texts_query_is : IsTextsQuery
unfolding listing_schema everything
texts_query_is = record { command_is = refl; plain = (refl, refl) }

texts_whole : is_all_of load_texts_text 0 over_list ≡ true
unfolding listing_schema everything
texts_whole = refl

texts_typed : accepts_program listing_schema [] texts_query [] ≡ true
unfolding listing_schema everything
texts_typed = refl

texts_safe : (db : Trees) → QueryOverflows texts_query db [] → ⊥
texts_safe db (inl none) = none
texts_safe db (inr over) = never (db 0) over

-- no table of a registry has the name of the list
pub ours_shows : (edition : Edition) → ShowsList (schema_of edition)
unfolding everything
ours_shows First = refl
ours_shows Second = refl

understood_there : (schema : Schema) → ShowsList schema
    → understood schema load_texts_text ≡ over_list
unfolding understood
understood_there schema shows =
    ap (λ (b : Bool). if b then over_list else compiled schema load_texts_text) shows

pub texts_failed : (old new : State) (e : Error) → ShowsList old.now.schema → IsTrue old.is_open
    → FailsToQuery load_texts_text [] old new e → fault_of e ≡ Store
    → MoreFaults old.faults new.faults ⊎ IsSome old.step_limit
texts_failed old new e shows is_open fails =
    told old new e (listing_fault old new load_texts_text [] e over_list texts_query _
    (understood_there old.now.schema shows) texts_query_is.command_is texts_query_is.plain shows
    texts_whole texts_typed texts_safe is_open fails)

pub plain_list : (schema : Schema) → ShowsList schema → IsPlain (understood schema load_texts_text)
plain_list schema shows = subst IsPlain (sym (understood_there schema shows)) texts_query_is.plain

no_value : is_true (unary Not (binary (Is Binary) Null Null)) ≡ false
unfolding unary binary
no_value = rw (value_cmp-Null Null) refl

some_value : (v : Value) → is_true (unary Not (binary (Is Binary) v Null)) ≡ not (is_null v)
unfolding unary binary value_cmp
some_value Null = no_value
some_value (Int n) = refl
some_value (Real x) = refl
some_value (Text t) = refl
some_value (Blob b) = refl

-- the first two columns of what is shown are what is shown
two_again : (db : Trees) → map (columns_at two) (listed db) ≡ listed db
two_again db = map-map (columns_at two) _ _

-- the query shows what is listed
pub lists : (old new : State) (rows : List Row) → ShowsList old.now.schema
    → Shown load_texts_text [] old new rows → IsPermutation (listed old.now.trees) rows
unfolding Shown
lists old new rows shows h =
    let known = sym h.1.is ∙ understood_there old.now.schema shows in
    let bare = subst IsPlain (sym known) texts_query_is.plain in
    let it = rw (bare.0, bare.1) at h.2 in
    let source = subst (λ b. IsSourceOf b old.now it.0) shows it.1 in
    let reads = subst (λ k. Reads k it.0 [] rows) (ap command_of known ∙ texts_query_is.command_is)
    it.2 in
    let a : IsAnswer texts_query it.0.trees [] rows =
    subst (λ d. IsAnswer texts_query d [] rows) (overlaid it.0.trees) (reads.answer Null) in
    let got = found 0 (col 1 0 ∷ col 1 5 ∷ []) [] it.0.trees [] rows has_text a in
    let kept = filter_agree (λ (r : Row). holds ([] ∷ r ∷ []) has_text)
    (λ row. not (is_null (column row 5))) (λ row. some_value (column row 5)) (it.0.trees 0) in
    subst (λ l. IsPermutation (map (λ (row : Row). column row 0 ∷ column row 5 ∷ []) l) rows)
    (kept ∙ ap (filter (λ (row : Row). not (is_null (column row 5)))) source.1) got

-- ---- rows that are among others

abbrev AllDiffer : {A : Type 0} → List A → Type 0
AllDiffer [] = Unit {0}
AllDiffer (x ∷ xs) = ¬ (Has xs x) × AllDiffer xs

module _ {A : Type 0} where
  -- one is taken out
  taken : (xs : List A) (x : A) → Has xs x → (rest : List A) × IsPermutation xs (x ∷ rest)
  taken [] x h = absurd h
  taken (y ∷ ys) x (inl same) =
      (ys, subst (λ z. IsPermutation (y ∷ ys) (z ∷ ys)) same (IsPermutation-refl (y ∷ ys)))
  taken (y ∷ ys) x (inr h) =
      let it = taken ys x h in (
        y ∷ it.0,
        IsPermutation-trans (y ∷ ys) (y ∷ x ∷ it.0) (x ∷ y ∷ it.0)
            (IsPermutation-cons y ys (x ∷ it.0) it.1)
            (IsPermutation-swap (y ∷ x ∷ it.0) (x ∷ y ∷ it.0) 0 1 (omega arith) (omega arith) refl),
      )

  -- as many rows as there are, among which each stands, are all of them
  covers : (xs rows : List A) → AllDiffer xs → ((x : A) → Has xs x → Has rows x)
      → length rows ≡ length xs → IsPermutation xs rows
  covers [] [] differ there many = IsPermutation-refl []
  covers [] (row ∷ rows) differ there many = absurd (omega (arith, many))
  covers (x ∷ xs) rows differ there many =
      let it = taken rows x (there x (inl refl)) in
      let fewer : length it.0 ≡ length xs =
      omega (arith, many, length_permutation rows (x ∷ it.0) it.1) in
      let others : (y : A) → Has xs y → Has it.0 y = λ y h.
      ⊎_elim (λ (s : x ≡ y). absurd (differ.0 (subst (Has xs) (sym s) h))) (λ (k : Has it.0 y). k)
      (Has-permutation rows (x ∷ it.0) y it.1 (there y (inr h))) in
      IsPermutation-trans (x ∷ xs) (x ∷ it.0) rows
      (IsPermutation-cons x xs it.0 (covers xs it.0 differ.1 others fewer))
      (IsPermutation-sym rows (x ∷ it.0) it.1)

same_number : (m n : ℕ) (a b : List ℕ) → under_number m a ≡ under_number n b → m ≡ n
same_number m n a b e =
    let first : ◌≡◌ {A = Value} (Int (pos m)) (Int (pos n)) = ap (λ row. column row 0) e in cc

abbrev row_of : ℕ × List ℕ → Row
row_of p = under_number p.0 p.1

-- each number is greater than the one before it
abbrev Rise : ℕ → List (ℕ × List ℕ) → Type 0
Rise n [] = Unit {0}
Rise n (p ∷ ps) = (n < p.0) × Rise p.0 ps

-- a text stands not among those under greater numbers
not_above : (n : ℕ) (text : List ℕ) (m : ℕ) (ps : List (ℕ × List ℕ)) → n ≤ m → Rise m ps
    → ¬ (Has (map row_of ps) (under_number n text))
not_above n text m [] low up h = h
not_above n text m (p ∷ ps) low up (inl same) = let e = same_number p.0 n p.1 text same in
    omega (arith, e, low, up.0)
not_above n text m (p ∷ ps) low up (inr later) =
    not_above n text p.0 ps (omega (arith, low, up.0)) up.1 later

differ_by_number : (n : ℕ) (ps : List (ℕ × List ℕ)) → Rise n ps → AllDiffer (map row_of ps)
differ_by_number n [] up = tt
differ_by_number n (p ∷ ps) up =
    (not_above p.0 p.1 p.0 ps (omega arith) up.1, differ_by_number p.0 ps up.1)

abbrev five : List (ℕ × List ℕ)
five = (1, about_text) ∷ (2, mirrors_text) ∷ (5, components_text) ∷ (8, intents_text)
    ∷ (9, commands_text) ∷ []

five_differ : AllDiffer (tables_of First)
five_differ = differ_by_number 0 five (
  omega arith,
  (omega arith, (omega arith, (omega arith, (omega arith, tt)))),
)

six_differ : AllDiffer (tables_of Second)
six_differ = differ_by_number 0 (five ++ (12, patches_text) ∷ []) (
  omega arith,
  (omega arith, (omega arith, (omega arith, (omega arith, (omega arith, tt))))),
)

-- the tables of the first schema stand there, each and all
each_stands : (rows : List Row) → AllStand rows (tables_of First) → (x : Row)
    → Has (tables_of First) x → Has rows x
each_stands rows all x (inl same) = subst (Has rows) same all.0
each_stands rows all x (inr (inl same)) = subst (Has rows) same all.1.0
each_stands rows all x (inr (inr (inl same))) = subst (Has rows) same all.1.1.0
each_stands rows all x (inr (inr (inr (inl same)))) = subst (Has rows) same all.1.1.1.0
each_stands rows all x (inr (inr (inr (inr (inl same))))) = subst (Has rows) same all.1.1.1.1
each_stands rows all x (inr (inr (inr (inr (inr none))))) = absurd none

all_stand : (rows : List Row) → ((x : Row) → Has (tables_of First) x → Has rows x)
    → AllStand rows (tables_of First)
all_stand rows stands = (
  stands _ (inl refl),
  (
    stands _ (inr (inl refl)),
    (
      stands _ (inr (inr (inl refl))),
      (
        stands _ (inr (inr (inr (inl refl)))),
        stands _ (inr (inr (inr (inr (inl refl))))),
      ),
    ),
  ),
)

pub all_five : (rows : List Row) → length rows ≡ 5 → AllStand rows (tables_of First)
    → IsPermutation (tables_of First) rows
all_five rows many all = covers (tables_of First) rows five_differ (each_stands rows all) many

pub five_stand : (rows : List Row) → IsPermutation (tables_of First) rows
    → (length rows ≡ 5) × AllStand rows (tables_of First)
five_stand rows same = (
  length_permutation (tables_of First) rows same,
  all_stand rows (λ x. Has-permutation (tables_of First) rows x same),
)

-- those of the second are one more
abbrev last_text : Row
last_text = under_number 12 patches_text

among_first : (x : Row) → Has (tables_of Second) x → Has (tables_of First) x ⊎ (last_text ≡ x)
among_first x (inl same) = inl (inl same)
among_first x (inr (inl same)) = inl (inr (inl same))
among_first x (inr (inr (inl same))) = inl (inr (inr (inl same)))
among_first x (inr (inr (inr (inl same)))) = inl (inr (inr (inr (inl same))))
among_first x (inr (inr (inr (inr (inl same))))) = inl (inr (inr (inr (inr (inl same)))))
among_first x (inr (inr (inr (inr (inr (inl same)))))) = inr same
among_first x (inr (inr (inr (inr (inr (inr none)))))) = absurd none

among_second : (x : Row) → Has (tables_of First) x → Has (tables_of Second) x
among_second x (inl same) = inl same
among_second x (inr (inl same)) = inr (inl same)
among_second x (inr (inr (inl same))) = inr (inr (inl same))
among_second x (inr (inr (inr (inl same)))) = inr (inr (inr (inl same)))
among_second x (inr (inr (inr (inr (inl same))))) = inr (inr (inr (inr (inl same))))
among_second x (inr (inr (inr (inr (inr none))))) = absurd none

pub all_six : (rows : List Row) → length rows ≡ 6 → AllStand rows (tables_of First)
    → Has rows last_text → IsPermutation (tables_of Second) rows
all_six rows many all last =
    covers (tables_of Second) rows six_differ (λ x h. ⊎_elim (each_stands rows all x)
    (λ (same : last_text ≡ x). subst (Has rows) same last) (among_first x h)) many

pub six_stand : (rows : List Row) → IsPermutation (tables_of Second) rows
    → (length rows ≡ 6) × AllStand rows (tables_of First) × Has rows last_text
six_stand rows same =
    let stands : (x : Row) → Has (tables_of Second) x → Has rows x =
    λ x. Has-permutation (tables_of Second) rows x same in (
      length_permutation (tables_of Second) rows same,
      all_stand rows (λ x h. stands x (among_second x h)),
      stands _ (inr (inr (inr (inr (inr (inl refl)))))),
    )

-- rows that were shown show these texts exactly if the store lists them
pub ours_listed : (edition : Edition) (db : Trees) (rows : List Row)
    → IsPermutation (listed db) rows
    → IsPermutation (tables_of edition) (map (columns_at two) rows) → Lists edition db
ours_listed edition db rows shown ours =
    IsPermutation-trans (tables_of edition) (map (columns_at two) rows) (listed db) ours
    (IsPermutation-sym _ _ (subst (λ l. IsPermutation l (map (columns_at two) rows))
    (two_again db) (IsPermutation-map (columns_at two) _ _ shown)))

pub ours_shown : (edition : Edition) (db : Trees) (rows : List Row)
    → IsPermutation (listed db) rows → Lists edition db
    → IsPermutation (tables_of edition) (map (columns_at two) rows)
ours_shown edition db rows shown lists =
    IsPermutation-trans (tables_of edition) (listed db) (map (columns_at two) rows) lists
    (subst (λ l. IsPermutation l (map (columns_at two) rows)) (two_again db)
    (IsPermutation-map (columns_at two) _ _ shown))

-- ---- reads of the list

pub ours_known : (schema : Schema) → IsOfRegistry schema → ShowsList schema
ours_known schema ours = subst ShowsList (sym ours.1) (ours_shows ours.0)

-- what is known to list these texts is no store of somebody else's
pub not_foreign : (edition : Edition) (old new : State)
    → (HasCleanDisk new → ShowsList old.now.schema → Lists edition old.now.trees)
    → {Commits : Trees → Type 0} → Survives old new Commits → ¬ (Lists edition old.now.trees)
    → HasFailedOver ShowsList old new
not_foreign edition old new tells left other = record {
  refused = λ clean shows is. absurd (other (tells clean shows));
  left = survives_weaker old new _ _ (λ clean db _ shows. other (tells clean shows)) left;
}

-- so is it through a further call
pub still_foreign : (edition : Edition) (a b c : State)
    → (HasCleanDisk b → ShowsList a.now.schema → Lists edition a.now.trees)
    → HasReadOver IsOfRegistry a b → Survives b c (λ _. Unit {0}) → ¬ (Lists edition a.now.trees)
    → HasFailedOver ShowsList a c
still_foreign edition a b c tells read survives =
    not_foreign edition a c (λ clean shows. tells (omega (arith, survives.clean, clean)) shows)
    (survives_then a b c _ (λ _. Unit {0}) (λ _. Unit {0}) (λ _ db none. tt)
    (λ clean db is. tt) read.left survives)
