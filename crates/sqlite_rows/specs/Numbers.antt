-- Whether a table can number more rows.
use Rattle.std.specs.Prelude.{◌≡◌, ℕ, pos, ◌+◌, ◌^◌, ◌<◌, ◌≤◌, List}
use Rattle.std.specs.List.{AllByRecursion}
use Rattle.sqlite.specs.Order.{Row}
use Rattle.sqlite.specs.declared.types.Value.TheVariants.{Int}
use Rattle.sqlite_trees.specs.Tree.{rowid}

-- the rowids of these rows are numbers up to this one
abbrev pub AreUpTo : ℕ → List Row → Type 0
AreUpTo last rows = AllByRecursion (λ row. (k : ℕ) × (rowid row ≡ Int (pos k)) × (k ≤ last)) rows

-- so many rows more can be numbered after these
pub record TakesMore (more : ℕ) (rows : List Row) : Type 0 where
  pub last : ℕ
  pub up_to : AreUpTo last rows
  pub room : last + more < 2 ^ 63
