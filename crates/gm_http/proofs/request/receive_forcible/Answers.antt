use Rattle.gm_http.proofs.Common.{rules, map, take, header_bytes, IsHead, SendsFields}
use Rattle.gm_http.proofs.Senders.{sends_head}
use Rattle.gm_http.proofs.request.receive_forcible.Goals as goal

pub returns-clause-sends : goal.returns-clause-sends
returns-clause-sends g c =
    let bytes = c.read_head.new.bytes.items in
    let headers = c.read_head.new.headers in
    let spans = c.in-Some.spans in
    let head : IsHead bytes headers spans = search rules in
    let told : SendsFields (map (header_bytes bytes) (take spans.headers headers))
    c.sender_of-sender.result =
    rw c.deref.ensures.value at c.sender_of-sender.ensures in
    sends_head _ _ bytes headers spans _ c.in_ok-spans.ensures.takes head told
