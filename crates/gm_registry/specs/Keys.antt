-- The form that code goes by: the queries of the components under a key.
use Rattle.std.specs.Prelude.{ℕ, Bool, codes, List, filter, map}
use Rattle.std.specs.List.Sorted.{IsPermutation}
use Rattle.gm_metadata.specs.Images.{same_label}
use Rattle.sqlite.specs.Collation.TheVariants.{Binary}
use Rattle.sqlite.specs.Order.{Row, column}
use Rattle.sqlite.specs.Tree.{Trees}
use Rattle.sqlite.specs.declared.types.Value.TheVariants.{Text}
use Rattle.sqlite_schema.specs.Rules.{equal}
use Rattle.gm_state.specs.declared.records.Component.{Component}
use Rattle.gm_rows.specs.Queries.{shown_places}
use Rattle.gm_rows.specs.Values.{columns_at}
use Rattle.gm_rows.specs.declared.fetched.Table.TheVariants.{Components}
use Rattle.gm_registry.specs.declared.components_by_key.Key.{Key}
use Rattle.gm_registry.specs.declared.components_by_key.Key.TheVariants.{Provider, Mirror}

-- what each key asks by
abbrev pub key_text : Key → List ℕ
key_text Provider =
    codes "SELECT prov, mirror, did, syncid, priority, sync_offset, dflags, hard, provsize FROM components WHERE prov = ?1"
key_text Mirror =
    codes "SELECT prov, mirror, did, syncid, priority, sync_offset, dflags, hard, provsize FROM components WHERE mirror = ?1"

-- the stored column that it tests
abbrev pub key_column : Key → ℕ
key_column Provider = 1
key_column Mirror = 2

-- the stored row has this label in that column
abbrev pub row_is_under : Key → List ℕ → Row → Bool
row_is_under key label row = equal Binary (column row (key_column key)) (Text label)

-- what is shown of those rows
abbrev pub shown_under : Trees → Key → List ℕ → List Row
shown_under db key label =
    map (columns_at (shown_places Components)) (filter (row_is_under key label) (db 4))

-- the rows that the query of the key may show for the label
abbrev pub AreUnder : Trees → Key → List ℕ → List Row → Type 0
AreUnder db key label rows = IsPermutation (shown_under db key label) rows

-- the component is on this provider, or of this mirror
abbrev pub is_under : Key → List ℕ → Component → Bool
is_under Provider label k = same_label k.provider label
is_under Mirror label k = same_label k.mirror label

-- those of the components that are
abbrev pub under : Key → List Component → List ℕ → List Component
under key ks label = filter (is_under key label) ks
