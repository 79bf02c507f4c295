-- Rows that are shown of the mirrors, or of the components under a key, say the records of a state.
use Rattle.gm_registry.proofs.Common.{◌≡◌, ◌∙◌, ℕ, Bool, List, [], ◌∷◌, map, filter, refl, ap, subst, bytes_eq, All, filter_agree, IsPermutation-sym, Binary, Row, column, Trees, Text, equal, filter-map, IsPermutation-filter, Keeps, columns, keeps_filter, texts_equal, Mirror, Component, Records, Tables, ComponentRow, mirror_row, component_row, same_mirror, same_component, Has-filter, row_is_under, AreUnder, under, IsShown, AreRecordsOf, mirror_values, component_values, mirror_shown, component_shown, HasRows, columns_at, numbered, nine, IsMirrorValue, IsComponentValue, Mirrors, Key, Provider, one_mirror, one_component, none_said, read_said, mirrors_shown, components_shown, said, mirror_value, component_value}
use Rattle.std.specs.List.Sorted.{IsPermutation}
use Rattle.gm_registry.specs.Keys.{is_under}
use Rattle.gm_registry.specs.declared.components_by_key.Key.TheVariants.{Mirror as OfMirror}

-- ---- the tests of a key

abbrev row_under : Key → List ℕ → ComponentRow → Bool
row_under Provider label k = bytes_eq k.prov label
row_under OfMirror label k = bytes_eq k.mirror label

-- the same of a row without its rowid
abbrev values_under : Key → List ℕ → Row → Bool
values_under Provider label row = equal Binary (column row 0) (Text label)
values_under OfMirror label row = equal Binary (column row 1) (Text label)

values_agree : (key : Key) (label : List ℕ) (k : ComponentRow)
    → values_under key label (component_values k) ≡ row_under key label k
values_agree Provider label k = texts_equal k.prov label
values_agree OfMirror label k = texts_equal k.mirror label

stored_agree : (key : Key) (label : List ℕ) (row : Row)
    → values_under key label (columns row) ≡ row_is_under key label row
stored_agree Provider label [] = refl
stored_agree Provider label (x ∷ row) = refl
stored_agree OfMirror label [] = refl
stored_agree OfMirror label (x ∷ row) = refl

records_agree : (key : Key) (label : List ℕ) (k : Component)
    → row_under key label (component_row k) ≡ is_under key label k
records_agree Provider label k = refl
records_agree OfMirror label k = refl

-- ---- what the rows say

module _ (db : Trees) (t : Tables) (s : Records) (has : HasRows db t) (of : AreRecordsOf t s) where
  mirrors_said : (rows : List Row) → IsShown db Mirrors rows
      → IsPermutation (map mirror_shown s.mirrors) (map (columns_at nine) rows)
  mirrors_said rows are =
      said mirror_row mirror_values s.mirrors t.mirrors _
      (mirrors_shown db t rows has are) of.rows.mirrors

  pub mirrors_read : (rows : List Row) (ms : List Mirror) → IsShown db Mirrors rows
      → map (columns_at nine) rows ≡ numbered (λ _ m. mirror_shown m) 1 ms
      → IsPermutation s.mirrors ms
  mirrors_read rows ms are is =
      IsPermutation-sym _ _ (read_said mirror_shown (λ a b. one_mirror a b (same_mirror a b)) rows
      ms s.mirrors is (mirrors_said rows are))

  pub no_mirrors : (rows : List Row) → IsShown db Mirrors rows
      → ((list : List Mirror) → All IsMirrorValue list
      → map (columns_at nine) rows ≡ numbered (λ _ m. mirror_shown m) 1 list → ⊥) → ⊥
  no_mirrors rows are none =
      none_said mirror_shown IsMirrorValue rows none s.mirrors (mirror_value s of.state)
      (mirrors_said rows are)

  module _ (key : Key) (label : List ℕ) where
    rows_under : IsPermutation (map component_row (under key s.components label))
        (filter (row_under key label) t.components)
    rows_under =
        subst (λ l. IsPermutation l (filter (row_under key label) t.components))
        (filter-map (row_under key label) component_row s.components
        ∙ ap (map component_row) (filter_agree (λ k. row_under key label (component_row k))
        (is_under key label) (records_agree key label) s.components))
        (IsPermutation-filter (row_under key label) _ _ of.rows.components)

    kept_under : Keeps columns component_values (filter (row_under key label) t.components)
        (filter (row_is_under key label) (db 4))
    kept_under = keeps_filter columns component_values (values_under key label)
        (row_under key label) (row_is_under key label) (values_agree key label)
        (stored_agree key label) t.components (db 4) has.components

    components_said : (rows : List Row) → AreUnder db key label rows
        → IsPermutation (map component_shown (under key s.components label))
        (map (columns_at nine) rows)
    components_said rows are =
        said component_row component_values (under key s.components label)
        (filter (row_under key label) t.components) _ (components_shown _ _ rows kept_under are)
        rows_under

    pub components_read : (rows : List Row) (ks : List Component) → AreUnder db key label rows
        → map (columns_at nine) rows ≡ numbered (λ _ k. component_shown k) 1 ks
        → IsPermutation (under key s.components label) ks
    components_read rows ks are is =
        IsPermutation-sym _ _ (read_said component_shown
        (λ a b. one_component a b (same_component a b)) rows ks (under key s.components label) is
        (components_said rows are))

    pub no_components : (rows : List Row) → AreUnder db key label rows
        → ((list : List Component) → All IsComponentValue list
        → map (columns_at nine) rows ≡ numbered (λ _ k. component_shown k) 1 list → ⊥) → ⊥
    no_components rows are none =
        none_said component_shown IsComponentValue rows none (under key s.components label)
        (λ k in_it. component_value s of.state k
        (Has-filter (is_under key label) s.components k in_it).0) (components_said rows are)
