use Rattle.gm_json.proofs.Common.{◌≡◌, ◌∙◌, ◌<◌, List, get_or, length, ap, map, subst, Data, view, Mirror, members, standing_mirror}
use Rattle.gm_json.proofs.Grown.{one_more}
use Rattle.gm_json.proofs.mirrors.standing_mirrors.Goals as goal

pub loop-mirror-preserved : goal.loop-mirror-preserved
loop-mirror-preserved c =
    let s = c.args.state.now in
    let f : Mirror → Data = λ m. standing_mirror m (members s.components m.name) in
    let x = c.mirror-item.result in
    let i = c.loop-mirror.mirror-index in
    let all = c.mirrors-mirror-items.ensures.value in
    let low : i < length s.mirrors =
    subst (λ (l : List Mirror). i < length l) all c.loop-mirror-test.true in
    let is : x ≡ get_or s.mirrors i x =
    c.mirror-item.is ∙ ap (λ (l : List Mirror). get_or l i x) all in
    ap (map view) c.in_ok-push.ensures.items
    ∙ one_more f view s.mirrors i x c.loop-mirror.values.items c.in_ok-standing_mirror.field-0
    low is c.loop-mirror.invariant (c.in_ok-standing_mirror.ensures
    ∙ ap (standing_mirror x) (c.deref.ensures.value ∙ c.in_ok-members.ensures.value))
