use Rattle.gm_bench.proofs.Common.{◌≡◌, ◌≤◌, ◌-◌, [], ◌∷◌, Ok, map, string_bytes, take, count_of, AreFresh}
use Rattle.gm_bench.specs.Asking.{LooksUp}
use Rattle.gm_bench.specs.Keys.{AreReadUnderAll}
use Rattle.gm_bench.proofs.media.Media.count_free.Given as goal

abbrev pub invariant-loop-key : goal.invariant-loop-key
invariant-loop-key g l = record {
  each : l.free ≡ l.key-index;
  few : l.free ≤ l.room;
  looked : LooksUp g.S.Store l.fn.self l.self (Ok l.free) (λ n t. (l.room ≡ 99999 - count_of t)
      × AreFresh t (l.first ∷ []) (take n (map string_bytes l.keys)))
      (AreReadUnderAll (map string_bytes l.keys));
}
