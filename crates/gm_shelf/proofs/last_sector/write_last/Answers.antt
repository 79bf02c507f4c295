use Rattle.gm_shelf.proofs.Common.{◌≡◌, ◌+◌, ◌-◌, arith, rules}
use Rattle.gm_shelf.proofs.LastWrite.{last_done}
use Rattle.gm_shelf.proofs.last_sector.write_last.Goals as goal

pub returns-in_err-write : goal.returns-in_err-write
returns-in_err-write g c = record {
  done = search rules;
  moments = search rules;
  fails = search rules;
  nothing_done = search rules;
  calls = λ i is.
      let counted : c.in-Some.count ≡ i + 1 = cc (c.in-Some.ensures) in
      let place : c.in-Some.count - 1 ≡ i = omega (arith, counted) in
      record {
        between = c.write.new.self;
        wrote = c.write.result;
        write = rw place at c.write.ensures.gives;
        failed = search rules;
        synced = search rules;
      };
  keeps = search rules;
  counted = search rules;
}

pub returns-in_err-sync : goal.returns-in_err-sync
returns-in_err-sync g c = record {
  done = search rules;
  moments = search rules;
  fails = search rules;
  nothing_done = search rules;
  calls = λ i is.
      let counted : c.in-Some.count ≡ i + 1 = cc (c.in-Some.ensures) in
      let place : c.in-Some.count - 1 ≡ i = omega (arith, counted) in
      record {
        between = c.write.new.self;
        wrote = c.write.result;
        write = rw place at c.write.ensures.gives;
        failed = search rules;
        synced = search rules;
      };
  keeps = search rules;
  counted = search rules;
}

pub returns : goal.returns
returns g c = record {
  done = λ i h is.
      let counted : c.in-Some.count ≡ i + 1 = cc (c.in-Some.ensures) in
      let place : c.in-Some.count - 1 ≡ i = omega (arith, counted) in
      last_done c.args.provider i c.args.sector.now (g.H.Shelf.view c.args.shelf.now)
      (g.H.Shelf.view c.write.new.self) (g.H.Shelf.view c.sync.new.self)
      (rw place at (c.write.ensures.law h)) (rw place at (c.in_ok-write.ensures.written h))
      (c.sync.ensures.quiet (c.write.ensures.honest h))
      (c.in_ok-sync.ensures.fixed (c.write.ensures.honest h));
  moments = search rules;
  fails = search rules;
  nothing_done = search rules;
  calls = λ i is.
      let counted : c.in-Some.count ≡ i + 1 = cc (c.in-Some.ensures) in
      let place : c.in-Some.count - 1 ≡ i = omega (arith, counted) in
      record {
        between = c.write.new.self;
        wrote = c.write.result;
        write = rw place at c.write.ensures.gives;
        failed = search rules;
        synced = search rules;
      };
  keeps = search rules;
  counted = search rules;
}
