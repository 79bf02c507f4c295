use Rattle.gm_lines.proofs.Common.{arith, ◌<◌, length, sym, subst, IfSome_then, BeginsWith}
use Rattle.gm_lines.proofs.TakenLines.{begins_with}
use Rattle.gm_lines.proofs.ahead.read_ahead.Goals as goal

pub returns : goal.returns
returns c =
    let n = c.length_before_feed-length in
    let within : n.result < length c.args.bytes.now =
    omega (arith, n.ensures.bound, c.if-length-bytes.false) in
    IfSome_then c.ahead_of.result c.ahead_of.ensures (λ it is. (
      is.0,
      subst (BeginsWith c.args.bytes.now) (sym is.1)
          (begins_with c.args.bytes.now n.result within (n.ensures.feed within) n.ensures.line),
    ))
