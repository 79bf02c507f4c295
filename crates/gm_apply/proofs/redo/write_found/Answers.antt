use Rattle.gm_apply.proofs.Common.{Some, encoded, WritesFound}
use Rattle.gm_apply.proofs.OneIntent.{found_written, last_written, passed_on}
use Rattle.gm_apply.proofs.redo.write_found.Goals as goal

pub returns-in_err-write_meta : goal.returns-in_err-write_meta
returns-in_err-write_meta g c =
    rw c.in-Some.is
    (passed_on (λ r. WritesFound g.H.Shelf c.args.shelf.now c.write_meta.new.shelf r
    c.args.provider (Some c.in-Some.metadata)) c.from_residual.result _ c.from_residual.ensures.1
    (found_written g.H.Shelf c.args.shelf.now c.write_meta.new.shelf _ c.args.provider
    c.in-Some.metadata
    (last_written g.H.Shelf c.args.shelf.now c.write_meta.new.shelf _ c.args.provider
    (encoded c.in-Some.metadata) c.in_err-write_meta.ensures)))

pub returns-in_ok-write_meta : goal.returns-in_ok-write_meta
returns-in_ok-write_meta g c =
    rw c.in-Some.is
    (found_written g.H.Shelf c.args.shelf.now c.write_meta.new.shelf _ c.args.provider
    c.in-Some.metadata
    (last_written g.H.Shelf c.args.shelf.now c.write_meta.new.shelf _ c.args.provider
    (encoded c.in-Some.metadata) c.in_ok-write_meta.ensures))
