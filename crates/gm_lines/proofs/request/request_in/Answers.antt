use Rattle.gm_lines.proofs.Common.{◌∙◌, sym, ap, asked_by, pieces, texts}
use Rattle.std.proofs.lemmas.Result.{IfOk-weaker}
use Rattle.gm_lines.proofs.Requests.{asked_text, asked_bytes}
use Rattle.gm_lines.proofs.request.request_in.Goals as goal

pub returns-in_ok-pieces-in-Ok : goal.returns-in_ok-pieces-in-Ok
returns-in_ok-pieces-in-Ok c =
    let whole = asked_text c.args.line.now c.requires c.in-Ok.ensures.cases.1 in
    let cut = ap texts c.deref.ensures.value ∙ c.in_ok-pieces-in-Ok.ensures
    ∙ ap pieces c.in-Ok.ensures.cases.0 in
    IfOk-weaker c.request_of.result _ _ (λ request e. e ∙ ap asked_by cut ∙ sym whole)
    c.request_of.ensures

pub returns-in-Err : goal.returns-in-Err
returns-in-Err c = sym (asked_bytes c.args.line.now c.requires c.in-Err.ensures.cases.0)
