use Rattle.gm_http.proofs.Common.{rules, ◌≡◌, [], ◌∷◌, ◌++◌, IsIpv6Text}
use Rattle.gm_http.proofs.Senders.{bracketed, is_read}
use Rattle.gm_http.proofs.sender.is_bracketed.Goals as goal

pub returns : goal.returns
returns c =
    let rest = c.in-Some-eq91-default.rest.now in
    let inner = c.in-Some-eq93-default.inner.now in
    let first : c.args.host.now ≡ 91 ∷ rest = search rules in
    let last : rest ≡ inner ++ (93 ∷ []) = search rules in
    bracketed _ rest inner _ first last
    (is_read IsIpv6Text _ _ _ c.is_ok.ensures.value c.parse_ascii.ensures)
