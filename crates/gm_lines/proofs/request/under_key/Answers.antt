use Rattle.gm_lines.proofs.Common.{◌∙◌, ap, sym, nil_from_length, asked_by, pieces, texts}
use Rattle.gm_lines.proofs.Requests.{asked_bytes, asked_text, under_first}
use Rattle.gm_lines.proofs.request.under_key.Goals as goal

pub returns-in_default : goal.returns-in_default
returns-in_default c =
    sym (asked_bytes c.args.line.now c.requires.short c.in_default.ensures.cases.0)

pub returns-in-Some : goal.returns-in-Some
returns-in-Some c =
    let whole = asked_text c.args.line.now c.requires.short c.in-Ok.ensures.cases.1 in
    let cut = ap texts (sym c.in-Some.ensures.cases.0 ∙ c.deref.ensures.value)
    ∙ c.in_ok-found.ensures ∙ ap pieces c.in-Ok.ensures.cases.0 in
    under_first c.in-Some.key.now.now (texts c.in-Some.field-0-1.now) c.args.line.now
    c.args.command (whole ∙ sym (ap asked_by cut)) c.requires.asks

pub returns : goal.returns
returns c =
    let whole = asked_text c.args.line.now c.requires.short c.in-Ok.ensures.cases.1 in
    let none = nil_from_length c.deref.result.now c.in-None.ensures.cases in
    let cut = ap texts (sym none ∙ c.deref.ensures.value)
    ∙ c.in_ok-found.ensures ∙ ap pieces c.in-Ok.ensures.cases.0 in
    ap asked_by cut ∙ sym whole
