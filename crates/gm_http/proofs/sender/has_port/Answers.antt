use Rattle.gm_http.proofs.Common.{IsSocketText}
use Rattle.gm_http.proofs.Senders.{is_read}
use Rattle.gm_http.proofs.sender.has_port.Goals as goal

pub returns : goal.returns
returns c = is_read IsSocketText _ _ _ c.is_ok.ensures.value c.parse_ascii.ensures
