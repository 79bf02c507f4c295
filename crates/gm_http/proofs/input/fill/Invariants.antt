use Rattle.gm_http.proofs.Common.{◌≤◌, ◌-◌, max, vec_len, Takes}
use Rattle.gm_http.proofs.input.fill.Given as goal

abbrev pub invariant-loop-bytes : goal.invariant-loop-bytes
invariant-loop-bytes g l = record {
  takes : Takes (g.R.Read.remaining l.fn.peer.reader) (g.R.Read.remaining l.peer.reader)
      l.fn.bytes.items l.bytes.items;
  most : vec_len l.bytes ≤ max (vec_len l.fn.bytes) l.total;
}

abbrev pub decreases-loop-bytes : goal.decreases-loop-bytes
decreases-loop-bytes g l = l.total - vec_len l.bytes
