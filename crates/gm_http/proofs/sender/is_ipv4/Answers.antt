use Rattle.gm_http.proofs.Common.{IsIpv4Text}
use Rattle.gm_http.proofs.Senders.{is_read}
use Rattle.gm_http.proofs.sender.is_ipv4.Goals as goal

pub returns : goal.returns
returns c = is_read IsIpv4Text _ _ _ c.is_ok.ensures.value c.parse_ascii.ensures
