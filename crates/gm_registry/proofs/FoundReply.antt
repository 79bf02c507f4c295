-- What the query of a key finds.
use Rattle.gm_registry.proofs.Common.{◌≡◌, ℕ, pos, Bool, true, List, [], ◌∷◌, map, filter, length, IsPermutation, sym, ap, subst, subst₂, refl, ◌∙◌, arith, IsPermutation-map, IsPermutation-trans, IsPermutation-sym, length_permutation, filter_agree, bytes_eq-Decides, map-map, filter-map, IsPermutation-filter, Value, Null, Int, Text, has_filtered, Row, column, Binary, IsAnswer, State, Shown, reads_as, equal, columns, texts_equal, overlaid, found, mapped_from, has_key, key_place, settled_schema, settled_rows, Has, Tables, CommandRow, find_command_text, registry_schema, command_values, SeesTables, HasCounted, reply_in, reply_values, is_under, IsKept, IsFree, has_from, stands_permuted}
use Rattle.sqlite_rules.specs.Lists.{Has as Stands}
use Rattle.gm_state.specs.declared.intents.Reply.{Reply}
use Rattle.gm_registry.proofs.TextMeanings.{find_query, find_is, shown_terms, by_key}

-- what the query shows of a row, from its columns
abbrev of_columns : Row → Row
of_columns row = column row 1 ∷ column row 2 ∷ column row 3 ∷ column row 4 ∷ []

abbrev of_row : Row → Row
of_row row = column row 2 ∷ column row 3 ∷ column row 4 ∷ column row 5 ∷ []

shown_place : (row : Row) → of_columns (columns row) ≡ of_row row
shown_place [] = refl
shown_place (x ∷ xs) = refl

pub finds : (old new : State) (key : List ℕ) (rows : List Row) (t : Tables) → SeesTables old t
    → Shown find_command_text (Text key ∷ []) old new rows
    → IsPermutation (map reply_values (filter (is_under key) t.commands)) rows
finds old new key rows t was h =
    let db = old.now.trees in
    let all = reads_as find_command_text (Text key ∷ []) old new registry_schema
    (settled_schema registry_schema HasCounted old t was) _ find_is.command_is find_is.plain
    find_is.of_tables rows h in
    let a : IsAnswer find_query db (Text key ∷ []) rows =
    subst (λ t. IsAnswer find_query t (Text key ∷ []) rows) (overlaid db) (all.answer Null) in
    let got : IsPermutation (map of_row (filter (has_key key) (db 8))) rows =
    found 8 shown_terms [] db (Text key ∷ []) rows by_key a in
    let p : Row → Bool = λ row. equal Binary (column row 0) (Text key) in
    let mine : map of_columns (filter p (map command_values t.commands))
    ≡ map reply_values (filter (is_under key) t.commands) =
    ap (map of_columns) (filter-map p command_values t.commands
    ∙ ap (map command_values) (filter_agree (λ c. p (command_values c)) (is_under key)
    (λ c. texts_equal c.call_key key) t.commands))
    ∙ map-map of_columns command_values (filter (is_under key) t.commands) in
    let stored : map of_columns (filter p (map columns (db 8)))
    ≡ map of_row (filter (has_key key) (db 8)) =
    ap (map of_columns) (filter-map p columns (db 8) ∙ ap (map columns)
    (filter_agree (λ row. p (columns row)) (has_key key)
    (λ row. ap (λ v. equal Binary v (Text key)) (key_place row)) (db 8)))
    ∙ (map-map of_columns columns (filter (has_key key) (db 8))
    ∙ (λ i. map (λ row. shown_place row i) (filter (has_key key) (db 8)))) in
    IsPermutation-trans _ _ _ (subst₂ IsPermutation mine stored
    (IsPermutation-map of_columns _ _ (IsPermutation-filter p _ _
    (settled_rows registry_schema HasCounted old t was).rows.rows.commands.same))) got

pub nothing_found : {A B : Type 0} (f : A → B) (xs : List A) → IsPermutation (map f xs) [] → xs ≡ []
nothing_found f [] h = refl
nothing_found f (x ∷ xs) h = absurd (omega (arith, length_permutation (f x ∷ map f xs) [] h))

-- no row, so no command of that key
pub no_reply : (t : Tables) (key : List ℕ) (rows : List Row)
    → IsPermutation (map reply_values (filter (is_under key) t.commands)) rows → length rows ≡ 0
    → IsFree t key
no_reply t key [] among none = nothing_found reply_values (filter (is_under key) t.commands) among
no_reply t key (x ∷ rows) among none = absurd (omega (arith, none))

same_int : (a b : ℕ) → ◌≡◌ {A = Value} (Int (pos a)) (Int (pos b)) → a ≡ b
same_int a b e = cc

same_text : (a b : List ℕ) → ◌≡◌ {A = Value} (Text a) (Text b) → a ≡ b
same_text a b e = cc

-- a row that was found is that of a command of that key
pub found_row : (t : Tables) (key : List ℕ) (rows : List Row) (row : Row)
    → IsPermutation (map reply_values (filter (is_under key) t.commands)) rows → Stands rows row
    → (c : CommandRow) × Has t.commands c × (is_under key c ≡ true) × (reply_values c ≡ row)
found_row t key rows row among has =
    let back = stands_permuted rows (map reply_values (filter (is_under key) t.commands)) row
    (IsPermutation-sym _ _ among) has in
    let from = mapped_from reply_values (filter (is_under key) t.commands) row back in
    let it = has_filtered (is_under key) t.commands from.0 from.1 in
    (from.0, has_from t.commands from.0 it.0, it.1, sym from.2)

pub a_reply : (t : Tables) (key : List ℕ) (rows : List Row) (row : Row) (number : ℕ)
    (words : List ℕ) (copied of_total : ℕ) (reply : Reply)
    → IsPermutation (map reply_values (filter (is_under key) t.commands)) rows → Stands rows row
    → column row 0 ≡ Int (pos number) → column row 1 ≡ Text words → column row 2 ≡ Int (pos copied)
    → column row 3 ≡ Int (pos of_total) → reply ≡ reply_in copied of_total
    → IsKept t key number words reply
a_reply t key rows row number words copied of_total reply among has one two three four is =
    let it = found_row t key rows row among has in
    let at : (n : ℕ) → column (reply_values it.0) n ≡ column row n =
    λ n. ap (λ x. column x n) it.3 in
    let copied_is : it.0.copied ≡ copied = same_int it.0.copied copied (at 2 ∙ three) in
    let total_is : it.0.of_total ≡ of_total = same_int it.0.of_total of_total (at 3 ∙ four) in
    record {
      row = it.0;
      has = it.1;
      key_is = (bytes_eq-Decides it.0.call_key key).0 it.2;
      number_is = same_int it.0.seq number (at 0 ∙ one);
      words_are = same_text it.0.words words (at 1 ∙ two);
      reply_is = ap (λ n. reply_in n it.0.of_total) copied_is
          ∙ (ap (reply_in copied) total_is ∙ sym is);
    }
