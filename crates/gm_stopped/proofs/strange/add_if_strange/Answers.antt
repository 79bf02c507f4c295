use Rattle.gm_stopped.proofs.Common.{arith}
use Rattle.gm_stopped.proofs.Missing.{listed_not_missing, missing_le, other_not_missing}
use Rattle.gm_stopped.proofs.StrangeTest.{without_it}
use Rattle.gm_stopped.proofs.strange.add_if_strange.Goals as goal

pub returns-in-Ok-false-clause-listed : goal.returns-in-Ok-false-clause-listed
returns-in-Ok-false-clause-listed g c honest counted =
    without_it c.args.state.now c.args.stopped.now (g.H.Shelf.size c.args.shelf.now)
    (g.H.Shelf.view c.args.shelf.now).seen c.args.need c.args.names.now.items
    c.in-Ok-false.field-0 c.in-Ok-false.field-0-test (c.in-Ok-false.ensures.strange honest)

pub returns-in_ok-add-in-Ok-true-clause-missed : goal.returns-in_ok-add-in-Ok-true-clause-missed
returns-in_ok-add-in-Ok-true-clause-missed g c honest =
    omega (
      arith,
      listed_not_missing c.args.state.now c.args.stopped.now
          (g.H.Shelf.size c.args.shelf.now) (g.H.Shelf.view c.args.shelf.now).seen
          c.add.new.names.items c.args.need c.in_ok-add-in-Ok-true.ensures.added,
      c.is_strange.ensures.looks.only.keeps.count,
    )

pub returns-in-Ok-false-clause-missed : goal.returns-in-Ok-false-clause-missed
returns-in-Ok-false-clause-missed g c honest =
    omega (
      arith,
      other_not_missing c.args.state.now c.args.stopped.now
          (g.H.Shelf.size c.args.shelf.now) (g.H.Shelf.view c.args.shelf.now).seen
          c.args.names.now.items c.args.need c.in-Ok-false.field-0 c.in-Ok-false.field-0-test
          (c.in-Ok-false.ensures.strange honest),
      c.is_strange.ensures.looks.only.keeps.count,
    )

pub returns-in-Err-Device-clause-missed : goal.returns-in-Err-Device-clause-missed
returns-in-Err-Device-clause-missed g c honest =
    omega (
      arith,
      missing_le c.args.state.now c.args.stopped.now (g.H.Shelf.size c.args.shelf.now)
          (g.H.Shelf.view c.args.shelf.now).seen c.args.names.now.items c.args.need,
      c.is_strange.ensures.looks.device (cc),
    )
