use Rattle.gm_bench.proofs.Common.{map, take, string_bytes, IsStretchedBy}
use Rattle.gm_bench.proofs.further.go_on.Given as goal

abbrev pub invariant-loop-key : goal.invariant-loop-key
invariant-loop-key l = record {
  stretched : IsStretchedBy l.mirror (take l.key-index (map string_bytes l.keys)) l.fn.change
      l.change;
}
