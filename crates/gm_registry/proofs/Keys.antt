-- No two commands of a registry stand under one key.
use Rattle.gm_registry.proofs.Common.{◌+◌, cases_Bool, Changed, Further, string_bytes, AreFreeInTurn, IsFree, IsFreeUnderFurther, command_row, count_of, with_command, ◌≡◌, ◌≤◌, inl, inr, ℕ, Bool, true, List, [], ◌∷◌, map, filter, length, refl, sym, ap, subst, ◌∙◌, arith, length-map, IsPermutation-sym, length_permutation, filter_agree, bytes_eq-Decides, filter-map, IsPermutation-filter, Row, column, Trees, Binary, Text, equal, Keeps, columns, has_key, key_place, mapped_from, has_mapped, texts_equal, same_from, Tables, CommandRow, registry_schema, commands, commands_by_key, command_values, Holds, is_under, stands_permuted}
use Rattle.sqlite_rules.specs.Lists.{Has as Stands}
use Rattle.sqlite_rows.proofs.Unique.{one_of_a_key}
use Rattle.gm_registry.proofs.Written.{command_rows, further_rows}

none_left : {A : Type 0} (xs : List A) → length xs ≤ 0 → xs ≡ []
none_left [] few = refl
none_left (x ∷ xs) few = absurd (omega arith)

module _ (key : List ℕ) (older : List CommandRow) (rows : List Row)
    (keeps : Keeps columns command_values older rows) where
  key_shown : (row : Row) → Stands rows row → has_key key row ≡ true → column row 1 ≡ Text key
  key_shown row has under =
      let back = stands_permuted (map columns rows) (map command_values older) (columns row)
      (IsPermutation-sym _ _ keeps.same) (has_mapped columns rows row has) in
      let from = mapped_from command_values older (columns row) back in
      let is : column row 1 ≡ Text from.0.call_key =
      sym (key_place row) ∙ ap (λ r. column r 0) from.2 in
      let same : from.0.call_key ≡ key =
      (bytes_eq-Decides from.0.call_key key).0 (sym (texts_equal from.0.call_key key)
      ∙ (ap (λ v. equal Binary v (Text key)) (sym is) ∙ under)) in
      is ∙ ap Text same

  as_many : length (filter (is_under key) older) ≡ length (filter (has_key key) rows)
  as_many =
      let p : Row → Bool = λ row. equal Binary (column row 0) (Text key) in
      let mine : filter p (map command_values older) ≡ map command_values
      (filter (is_under key) older) =
      filter-map p command_values older ∙ ap (map command_values)
      (filter_agree (λ c. p (command_values c)) (is_under key)
      (λ c. texts_equal c.call_key key) older) in
      let stored : filter p (map columns rows) ≡ map columns (filter (has_key key) rows) =
      filter-map p columns rows ∙ ap (map columns)
      (filter_agree (λ row. p (columns row)) (has_key key)
      (λ row. ap (λ v. equal Binary v (Text key)) (key_place row)) rows) in
      sym (length-map (filter (is_under key) older) command_values)
      ∙ (sym (ap length mine)
      ∙ (sym (length_permutation _ _ (IsPermutation-filter p _ _ keeps.same))
      ∙ (ap length stored ∙ length-map (filter (has_key key) rows) columns)))

-- so at most one of them stands under a key
pub once_each : (db : Trees) (t : Tables) → Holds db t → (key : List ℕ)
    → length (filter (is_under key) t.commands) ≤ 1
once_each db t held key =
    let keeps = held.rows.rows.commands in
    let few = one_of_a_key registry_schema commands (inr (inr (inr (inr (inl refl)))))
    commands_by_key (inr (inr (inr (inr (inl refl))))) refl refl refl db held.sound.obeys
    keeps.keyed key (key_shown key t.commands (db 8) keeps) in
    let many = as_many key t.commands (db 8) keeps in
    omega (arith, few, many)

-- ---- rows that were added

-- under each key there is one at most
abbrev AreOnce : List CommandRow → Type 0
AreOnce rows = (key : List ℕ) → length (filter (is_under key) rows) ≤ 1

-- so none of the others stands under the key of the first
others_apart : (c : CommandRow) (older : List CommandRow) → AreOnce (c ∷ older)
    → filter (is_under c.call_key) older ≡ []
others_apart c older once =
    let mine : is_under c.call_key c ≡ true = same_from c.call_key c.call_key refl in
    let more : filter (is_under c.call_key) (c ∷ older) ≡ c ∷ filter (is_under c.call_key) older =
    rw mine refl in
    let count = ap length more in
    let few = once c.call_key in
    none_left (filter (is_under c.call_key) older) (omega (arith, few, count))

-- nor is there more than one of them
others_once : (c : CommandRow) (older : List CommandRow) → AreOnce (c ∷ older) → AreOnce older
others_once c older once key =
    let few = once key in
    elim (cases_Bool (is_under key c)) [
      | inl mine ↦
          (let more : filter (is_under key) (c ∷ older) ≡ c ∷ filter (is_under key) older =
          rw mine refl in
          let count = ap length more in omega (arith, few, count))
      | inr other ↦
          (let same : filter (is_under key) (c ∷ older) ≡ filter (is_under key) older =
          rw other refl in
          let count = ap length same in omega (arith, few, count))
    ]

-- further keys are free of what was there, in turn
further_apart : (fs : List Further) (n : ℕ) (words : List ℕ) (t : Tables)
    → AreOnce (further_rows fs n words t.commands)
    → AreOnce t.commands × AreFreeInTurn fs n words t
further_apart [] n words t once = (once, tt)
further_apart (f ∷ more) n words t once =
    let row = command_row (string_bytes f.key) n words f.reply in
    let rest = further_apart more (n + 1) words (with_command row t) once in (
      others_once row t.commands rest.0,
      (others_apart row t.commands rest.0, rest.1),
    )

-- the keys of a command that was added were free
pub keys_apart : (db : Trees) (ch : Changed) (key words : List ℕ) (after t : Tables)
    → Holds db after → after.commands ≡ command_rows ch key (count_of t + 1) words t.commands
    → IsFree t key × IsFreeUnderFurther ch key words t
keys_apart db ch key words after t held is =
    let first = command_row key (count_of t + 1) words ch.reply in
    let next : count_of t + 1 + 1 ≡ count_of t + 2 = omega arith in
    let once : AreOnce (further_rows ch.further (count_of t + 2) words (first ∷ t.commands)) =
    subst (λ n. AreOnce (further_rows ch.further n words (first ∷ t.commands))) next
    (subst AreOnce is (once_each db after held)) in
    let free = further_apart ch.further (count_of t + 2) words (with_command first t) once in
    (others_apart first t.commands free.0, free.1)
