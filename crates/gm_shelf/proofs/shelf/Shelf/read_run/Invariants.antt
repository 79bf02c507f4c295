use Rattle.gm_shelf.proofs.Common.{◌≡◌, ◌<◌, ◌+◌, ℕ, AreReads}
use Rattle.gm_shelf.specs.Disk.{sector_of}
use Rattle.gm_shelf.proofs.shelf.Shelf.read_run.Given as goal

abbrev pub invariant-loop-index : goal.invariant-loop-index
invariant-loop-index g l =
    let H = g.Self.Shelf in
    let old = H.view l.fn.self in
    record {
      untouched : l.index ≡ 0 → l.self ≡ l.fn.self;
      counted : (H.view l.self).faults ≡ old.faults;
      size : H.size l.self ≡ H.size l.fn.self;
      honest : H.honest l.fn.self → H.honest l.self;
      reads : H.honest l.fn.self → AreReads old (H.view l.self);
      bytes : H.honest l.fn.self → (k : ℕ) → k < l.index
          → sector_of l.out k ≡ old.seen l.provider (l.first + k);
    }
