use Rattle.gm_rows.proofs.Common.{◌≡◌, map, take, length, columns_at, numbered}
use Rattle.gm_rows.proofs.shown.read_all.Given as goal

abbrev pub invariant-rows : goal.invariant-rows
invariant-rows g l =
    record {
      read : map (columns_at g.T.Shown.places) (take l.index l.rows)
          ≡ numbered g.T.Shown.values 1 l.list.items;
      count : length l.list.items ≡ l.index;
    }
