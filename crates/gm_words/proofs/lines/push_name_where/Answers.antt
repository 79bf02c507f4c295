use Rattle.gm_words.proofs.Common.{◌∙◌, ◌++◌, Bool, ap, append-nil, sym, map-append, name_where}
use Rattle.gm_words.specs.Lines.{texts}
use Rattle.gm_words.proofs.lines.push_name_where.Goals as goal

pub returns-in_ok-push : goal.returns-in_ok-push
returns-in_ok-push c =
    ap texts c.in_ok-push.ensures.items ∙ (map-append _ _ _
    ∙ sym (ap (λ (h : Bool). texts c.args.names.now.items ++ name_where h c.args.name.now)
    c.if-holds.true))

pub returns-else-holds : goal.returns-else-holds
returns-else-holds c =
    sym (ap (λ (h : Bool). texts c.args.names.now.items ++ name_where h c.args.name.now)
    c.if-holds.false ∙ append-nil _)
