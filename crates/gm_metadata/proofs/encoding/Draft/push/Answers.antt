use Rattle.gm_metadata.proofs.Common.{rules, ◌+◌, ◌≤◌, length}
use Rattle.gm_metadata.proofs.Sector.{zeros_follow}
use Rattle.gm_metadata.proofs.encoding.Draft.push.Goals as goal

pub invariant_of-self : goal.invariant_of-self
invariant_of-self c =
    let fits : c.self.inside.len + length c.args.bytes.now ≤ 512 = search rules in (
      fits,
      zeros_follow c.self.inside.sector c.copy_from_slice.new.self c.self.inside.len
          (length c.args.bytes.now) (search rules) (search rules) fits c.self.invariant.1,
    )
