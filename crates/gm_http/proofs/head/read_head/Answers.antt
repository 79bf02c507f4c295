use Rattle.gm_http.proofs.Common.{rules, ◌≤◌, length}
use Rattle.gm_http.proofs.Beginnings.{full}
use Rattle.gm_http.proofs.head.read_head.Goals as goal

pub returns-clause-none : goal.returns-clause-none
returns-clause-none g c =
    let long : 8192 ≤ length c.loop-bytes.bytes.items = search rules in
    full _ _ _ c.loop-bytes.invariant.takes long c.loop-bytes.invariant.none
