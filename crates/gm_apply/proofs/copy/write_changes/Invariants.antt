use Rattle.gm_apply.proofs.Common.{◌≤◌, Same, IsRun, IsRunWrite, Keeps, put_upto}
use Rattle.gm_apply.proofs.copy.write_changes.Given as goal

abbrev pub invariant-loop-index : goal.invariant-loop-index
invariant-loop-index g l =
    let H = g.H.Shelf in
    let old = H.view l.fn.shelf in
    record {
      behind : l.from ≤ l.index;
      keeps : Keeps H l.fn.shelf l.shelf;
      law : H.honest l.fn.shelf → IsRunWrite l.target l.first l.run old (H.view l.shelf);
      seen : H.honest l.fn.shelf → IsRun l.target l.first old.seen l.held
          → Same (H.view l.shelf).seen (put_upto l.target l.first l.run l.from old.seen);
    }
