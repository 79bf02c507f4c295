-- The rows of one table, as records.
use Rattle.std.specs.Prelude.{List, drop, map}
use Rattle.std.specs.List.Sorted.{IsPermutation}
use Rattle.sqlite.specs.Order.{Row}
use Rattle.sqlite_trees.specs.View.{IsShaped}
use Rattle.sqlite_trees.specs.declared.store.Shape.TheVariants as shape

-- a row but for its rowid
abbrev pub columns : Row → Row
columns row = drop 1 row

-- a row whose rowid is a column of the record
abbrev pub whole : Row → Row
whole row = row

-- the rows of a table are those of these records, in some order, and no other
pub record Keeps {A : Type 0} (part : Row → Row) (row_of : A → Row) (records : List A)
    (rows : List Row) : Type 0 where
  pub same : IsPermutation (map row_of records) (map part rows)
  -- the rowids are integers, and rise
  pub keyed : IsShaped shape.Table rows
