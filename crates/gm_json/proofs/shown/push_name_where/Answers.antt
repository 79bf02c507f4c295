use Rattle.gm_json.proofs.Common.{◌∙◌, ◌++◌, [], ◌∷◌, Bool, ap, append-nil, map, sym, map-append, Data, view, name_where}
use Rattle.gm_json.proofs.shown.push_name_where.Goals as goal

pub returns-in_ok-push : goal.returns-in_ok-push
returns-in_ok-push c =
    let made = c.args.names.now.items in
    ap (map view) c.in_ok-push.ensures.items
    ∙ (map-append view made (c.in_ok-try_from_str.field-0 ∷ [])
    ∙ (ap (λ (d : Data). map view made ++ d ∷ []) c.in_ok-try_from_str.ensures
    ∙ sym (ap (λ (h : Bool). map view made ++ name_where h c.args.name.now) c.if-holds.true)))

pub returns-else-holds : goal.returns-else-holds
returns-else-holds c =
    let made = c.args.names.now.items in
    sym (ap (λ (h : Bool). map view made ++ name_where h c.args.name.now) c.if-holds.false
    ∙ append-nil (map view made))
