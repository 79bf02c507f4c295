-- The rows that are shown of mirrors and components say what these two tables hold.
use Rattle.gm_rows.proofs.Common.{◌≡◌, List, map, refl, IsPermutation, IsPermutation-sym, IsPermutation-trans, Row, Trees, Records, Tables, mirror_row, component_row, mirror_values, component_values, HasRows, AreRecordsOf, columns_at, nine, IsShown, shown_places, SayState, RecordsSay, Mirrors, Components}
use Rattle.gm_rows.proofs.RowsSayTables.{again_shown, mirrors_shown, components_shown, said}

again : (row : Row) → columns_at nine (columns_at (shown_places Mirrors) row)
    ≡ columns_at (shown_places Mirrors) row
again row = refl

module _ (db : Trees) (mirrors components : List Row) (are : IsShown db Mirrors mirrors)
    (theirs : IsShown db Components components) where
  mirrors_again : IsPermutation (map (columns_at (shown_places Mirrors)) (db 1))
      (map (columns_at nine) mirrors)
  mirrors_again =
      again_shown (columns_at nine) (columns_at (shown_places Mirrors)) again (db 1) mirrors are

  components_again : IsPermutation (map (columns_at (shown_places Components)) (db 4))
      (map (columns_at nine) components)
  components_again =
      again_shown (columns_at nine) (columns_at (shown_places Components)) again (db 4) components
      theirs

  -- rows that say a state say tables that do
  pub any_records : (s : Records) → SayState mirrors components s → RecordsSay db s
  any_records s says = record {
    state = says.state;
    mirrors = IsPermutation-trans _ _ _ says.mirrors_are (IsPermutation-sym _ _ mirrors_again);
    components =
        IsPermutation-trans _ _ _ says.components_are (IsPermutation-sym _ _ components_again);
  }

  -- and tables that say a state are shown by rows that do
  pub any_state : (s : Records) → RecordsSay db s → SayState mirrors components s
  any_state s of = record {
    state = of.state;
    mirrors_are = IsPermutation-trans _ _ _ of.mirrors mirrors_again;
    components_are = IsPermutation-trans _ _ _ of.components components_again;
  }

  -- so do those of a registry whose records are a state's
  pub says_records : (t : Tables) (s : Records) → HasRows db t → AreRecordsOf t s
      → SayState mirrors components s
  says_records t s has of = record {
    state = of.state;
    mirrors_are = said mirror_row mirror_values s.mirrors t.mirrors _
        (mirrors_shown db t mirrors has are) of.rows.mirrors;
    components_are = said component_row component_values s.components t.components _
        (components_shown t.components (db 4) components has.components theirs)
        of.rows.components;
  }
