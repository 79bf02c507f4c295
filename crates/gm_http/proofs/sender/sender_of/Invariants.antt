use Rattle.gm_http.proofs.Common.{All, take, header_bytes, TellsPage}
use Rattle.gm_http.proofs.sender.sender_of.Given as goal

-- none of the fields so far tells of a page
abbrev pub invariant-loop-header : goal.invariant-loop-header
invariant-loop-header l =
    All (λ s. ¬ (TellsPage (header_bytes l.bytes s))) (take l.header-index l.headers)
