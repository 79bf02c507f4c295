-- What contracts name of a peer beside its reader: whether reading from it failed.
use Rattle.std.specs.Prelude.{◌≡◌, Bool, Result, IfErr, IsTrue}
use Rattle.gm_http.specs.declared.peer.Peer.{Peer}
use Rattle.gm_http.specs.declared.request.RequestFault.{RequestFault}
use Rattle.gm_http.specs.declared.request.RequestFault.TheVariants.{Read}

abbrev pub has_failed : {R : Type 0} → Peer R → Bool
has_failed peer = peer.failed

-- only of a peer that couldn't be read from is it said that it couldn't
abbrev pub ReadsUnlessFailed : {R T : Type 0} → Peer R → Result T RequestFault → Type 0
ReadsUnlessFailed peer result = IfErr result (λ fault. fault ≡ Read → IsTrue (has_failed peer))
