use Rattle.gm_shelf.proofs.Common.{◌≡◌, Same, IsRunWrite}
use Rattle.gm_shelf.proofs.Runs.{put_upto}
use Rattle.gm_shelf.proofs.shelf.Shelf.write_run.Given as goal

abbrev pub invariant-loop-index : goal.invariant-loop-index
invariant-loop-index g l =
    let H = g.Self.Shelf in
    let old = H.view l.fn.self in
    record {
      untouched : l.index ≡ 0 → l.self ≡ l.fn.self;
      counted : (H.view l.self).faults ≡ old.faults;
      size : H.size l.self ≡ H.size l.fn.self;
      honest : H.honest l.fn.self → H.honest l.self;
      law : H.honest l.fn.self → IsRunWrite l.provider l.first l.sectors old (H.view l.self);
      seen : H.honest l.fn.self
          → Same (H.view l.self).seen (put_upto l.provider l.first l.sectors l.index old.seen);
    }
