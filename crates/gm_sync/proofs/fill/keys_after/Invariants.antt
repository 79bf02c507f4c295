use Rattle.gm_sync.proofs.Common.{◌≡◌, ◌+◌, map, string_bytes, keys_after, up_to_last}
use Rattle.gm_sync.proofs.fill.keys_after.Given as goal

-- a key for each turn, and the number is the last one's
abbrev pub invariant-loop : goal.invariant-loop
invariant-loop l = record {
  keys : map string_bytes l.keys.items ≡ keys_after l.fn.number l.counter;
  number : up_to_last l.number ≡ up_to_last (l.fn.number + l.counter);
}
