use Rattle.gm_registry.proofs.Common.{take, map, flat_map, IsPermutation, Records, Tables, shown_under, under, component_shown, AreRecordsOf, DiskKept, HasTables, HaveRead, seen}
use Rattle.gm_registry.specs.Registry.{IsOurs}
use Rattle.gm_registry.proofs.components_by_key.components_under.Given as goal

-- the components of the labels so far
abbrev pub invariant-labels : goal.invariant-labels
invariant-labels g l = record {
  read : HaveRead g.S.Store l.fn.conn l.conn;
  found : DiskKept g.S.Store l.conn → (t : Tables) (s : Records) → HasTables g.S.Store l.fn.conn t
      → AreRecordsOf t s
      → IsPermutation (flat_map (under l.key s.components) (take l.label-index l.labels))
      l.all.items;
  says : DiskKept g.S.Store l.conn → IsOurs g.S.Store l.fn.conn
      → IsPermutation
      (flat_map (shown_under (seen g.S.Store l.fn.conn) l.key) (take l.label-index l.labels))
      (map component_shown l.all.items);
}
