use Rattle.gm_words.proofs.Common.{◌≡◌, ◌∙◌, ◌++◌, ◌<◌, [], ℕ, List, get_or, length, ap, subst, string_bytes, Mirror, members}
use Rattle.gm_words.specs.Status.{block}
use Rattle.gm_words.proofs.GrownText.{grown}
use Rattle.gm_words.proofs.status.status_text.Goals as goal

pub loop-mirror-preserved : goal.loop-mirror-preserved
loop-mirror-preserved c =
    let s = c.args.state.now in
    let f : Mirror → List ℕ = λ m. block m (members s.components m.name) in
    let x = c.mirror-item.result in
    let i = c.loop-mirror.mirror-index in
    let all = c.mirrors-mirror-items.ensures.value in
    let low : i < length s.mirrors =
    subst (λ (l : List Mirror). i < length l) all c.loop-mirror-test.true in
    let is : x ≡ get_or s.mirrors i x =
    c.mirror-item.is ∙ ap (λ (l : List Mirror). get_or l i x) all in
    grown f s.mirrors i x [] (string_bytes c.loop-mirror.text) (string_bytes c.push_block.new.text)
    low is c.loop-mirror.invariant (c.in_ok-push_block.ensures
    ∙ ap (λ ks. string_bytes c.loop-mirror.text ++ block x ks)
    (c.deref.ensures.value ∙ c.in_ok-members.ensures.value))
