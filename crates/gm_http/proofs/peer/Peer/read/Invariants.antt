use Rattle.gm_http.proofs.Common.{Keeps}
use Rattle.gm_http.proofs.peer.Peer.read.Given as goal

abbrev pub invariant-loop : goal.invariant-loop
invariant-loop g l =
    Keeps (g.R.Read.remaining l.fn.self.reader) (g.R.Read.remaining l.self.reader)
