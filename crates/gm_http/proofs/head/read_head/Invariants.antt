use Rattle.gm_http.proofs.Common.{◌≤◌, ◌-◌, [], vec_len, HasNoRequest, Takes}
use Rattle.gm_http.proofs.head.read_head.Given as goal

abbrev pub invariant-loop-bytes : goal.invariant-loop-bytes
invariant-loop-bytes g l = record {
  takes : Takes (g.R.Read.remaining l.fn.peer.reader) (g.R.Read.remaining l.peer.reader) []
      l.bytes.items;
  most : vec_len l.bytes ≤ 8192;
  none : HasNoRequest l.bytes.items;
}

abbrev pub decreases-loop-bytes : goal.decreases-loop-bytes
decreases-loop-bytes g l = 8192 - vec_len l.bytes
