use Rattle.gm_apply.proofs.Common.{◌≡◌, ◌≤◌, ◌+◌, length, rules}
use Rattle.gm_apply.proofs.LaidBytes.{lay_going, lay_seen}
use Rattle.gm_apply.proofs.Stretches.{none_held}
use Rattle.gm_apply.proofs.patch.lay_run.Goals as goal

pub returns-in_err-write_stretch : goal.returns-in_err-write_stretch
returns-in_err-write_stretch g c =
    let shelf = g.H.Shelf in
    let few : c.min-sectors.result ≤ length c.args.bytes.now = search rules in
    let fits : c.args.first + c.min-sectors.result ≤ c.args.end = search rules in
    record {
      done = search rules;
      under_way = λ h.
          lay_going c.args.provider c.args.first c.args.end c.min-sectors.result c.args.bytes.now
          few fits (shelf.view c.args.shelf.now) (shelf.view c.write_stretch.new.shelf)
          (c.write_stretch.ensures.law h);
      fails = search rules;
      keeps = search rules;
    }

pub returns-in_ok-write_stretch : goal.returns-in_ok-write_stretch
returns-in_ok-write_stretch g c =
    let shelf = g.H.Shelf in
    let few : c.min-sectors.result ≤ length c.args.bytes.now = search rules in
    let fits : c.args.first + c.min-sectors.result ≤ c.args.end = search rules in
    record {
      done = λ h enough.
          let whole : c.args.first + c.min-sectors.result ≡ c.args.end = search rules in
          lay_seen c.args.provider c.args.first c.args.end c.min-sectors.result c.args.bytes.now
          few fits whole (shelf.view c.args.shelf.now).seen
          (shelf.view c.write_stretch.new.shelf).seen
          (c.in_ok-write_stretch.ensures.written h
          (none_held c.args.provider c.args.first (shelf.view c.args.shelf.now).seen));
      under_way = λ h.
          lay_going c.args.provider c.args.first c.args.end c.min-sectors.result c.args.bytes.now
          few fits (shelf.view c.args.shelf.now) (shelf.view c.write_stretch.new.shelf)
          (c.write_stretch.ensures.law h);
      fails = search rules;
      keeps = search rules;
    }
