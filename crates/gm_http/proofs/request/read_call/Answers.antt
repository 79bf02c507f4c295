use Rattle.gm_http.proofs.Common.{rules, ◌≡◌, ◌≤◌, ◌+◌, ap, Some, None, length, map, slice_range, header_bytes, call_of, texts_in, length_by, called}
use Rattle.gm_http.proofs.Asking.{whole_body}
use Rattle.gm_http.proofs.request.read_call.Goals as goal

pub returns-in-Some-2-clause-asks : goal.returns-in-Some-2-clause-asks
returns-in-Some-2-clause-asks g c =
    let small : c.in-Some.length ≤ 131072 = search rules in
    let field : length_by (map (header_bytes c.args.bytes.now.items) c.args.headers.now)
    ≡ Some c.in-Some.length = search rules in
    let whole : c.args.start + c.in-Some.length ≤ length c.fill.new.bytes.items = search rules in
    let call : Some (texts_in c.in-Some-2.call) ≡ call_of c.args.takes_force
    (slice_range c.fill.new.bytes.items c.args.start (c.args.start + c.in-Some.length)) =
    search rules in
    whole_body _ _ _ _ _ _ _ _ _ c.in_ok-fill.ensures.takes c.requires.start small whole field
    (ap called call)

pub returns-in-None-clause-asks : goal.returns-in-None-clause-asks
returns-in-None-clause-asks g c =
    let small : c.in-Some.length ≤ 131072 = search rules in
    let field : length_by (map (header_bytes c.args.bytes.now.items) c.args.headers.now)
    ≡ Some c.in-Some.length = search rules in
    let whole : c.args.start + c.in-Some.length ≤ length c.fill.new.bytes.items = search rules in
    let call : None ≡ call_of c.args.takes_force
    (slice_range c.fill.new.bytes.items c.args.start (c.args.start + c.in-Some.length)) =
    search rules in
    whole_body _ _ _ _ _ _ _ _ _ c.in_ok-fill.ensures.takes c.requires.start small whole field
    (ap called call)
