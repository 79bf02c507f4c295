use Rattle.gm_http.proofs.Common.{◌≤◌, All, arith, length, subst, take_all, All-more, header_bytes, HeaderSpan, TellsPage}
use Rattle.gm_http.proofs.Senders.{none_tell, tells_not}
use Rattle.gm_http.proofs.sender.sender_of.Goals as goal

abbrev no_span : HeaderSpan
no_span = record { name = record { start = 0; end = 0 }; value = record { start = 0; end = 0 } }

pub loop-header-preserved : goal.loop-header-preserved
loop-header-preserved c =
    All-more (λ s. ¬ (TellsPage (header_bytes c.args.bytes.now s))) c.args.headers.now
    c.loop-header.header-index no_span c.loop-header-test.true c.loop-header.invariant
    (tells_not _ _ _ _ c.of.ensures c.of-in-loop-header.ensures c.tells_page.ensures
    c.if-tells_page.false)

pub returns : goal.returns
returns c =
    let finished : length c.args.headers.now ≤ c.loop-header.header-index =
    omega (arith, c.loop-header-test.false) in
    none_tell c.args.bytes.now c.args.headers.now
    (subst (All (λ s. ¬ (TellsPage (header_bytes c.args.bytes.now s))))
    (take_all c.loop-header.header-index c.args.headers.now finished) c.loop-header.invariant)
