use Rattle.gm_registry.proofs.Common.{drop, map, columns_at, two, under_number, IsLeft}
use Rattle.gm_registry.proofs.open_store.shows_text.Given as goal

-- the rows from row-index on are left to see
abbrev pub invariant-rows : goal.invariant-rows
invariant-rows l =
    IsLeft (under_number l.number l.text) (map (columns_at two) l.rows)
    (map (columns_at two) (drop l.row-index l.rows))
