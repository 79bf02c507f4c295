use Rattle.gm_words.proofs.Common.{◌≡◌, ◌∙◌, ◌++◌, [], ◌∷◌, ℕ, List, length, map, ap, arith, rules, string_bytes, Mirror, members, line, block}
use Rattle.std.proofs.lemmas.List.{take_all}
use Rattle.gm_words.proofs.GrownText.{joined_as, mapped_next}
use Rattle.gm_words.proofs.JoinedNames.{blocks_some}
use Rattle.gm_words.proofs.listing.list_text.Goals as goal

pub loop-mirror-preserved : goal.loop-mirror-preserved
loop-mirror-preserved c =
    let s = c.args.state.now in
    let made = c.loop-mirror.blocks.items in
    let y = c.in_ok-block.field-0 in
    let f : Mirror → List ℕ = λ m. block m (members s.components m.name) in
    let are : length c.mirrors-mirror-items.result.now ≡ length s.mirrors =
    ap length c.mirrors-mirror-items.ensures.value in
    let pushed : c.push.new.self.items ≡ made ++ y ∷ [] = search rules in
    let text : string_bytes y ≡ f c.mirror-item.result = search rules in
    ap (map string_bytes) pushed ∙ mapped_next f string_bytes s.mirrors c.loop-mirror.mirror-index
    c.mirror-item.result made y (omega (arith, are)) (search rules) c.loop-mirror.invariant text

pub returns : goal.returns
returns c =
    let s = c.args.state.now in
    let f : Mirror → List ℕ = λ m. block m (members s.components m.name) in
    let are : length c.mirrors-mirror-items.result.now ≡ length s.mirrors =
    ap length c.mirrors-mirror-items.ensures.value in
    let some : length s.mirrors ≡ 0 → ⊥ = λ e. search rules in
    let all = c.loop-mirror.invariant ∙ ap (map f)
    (take_all c.loop-mirror.mirror-index s.mirrors (omega (arith, are))) in
    let same = joined_as f string_bytes (line []) s.mirrors c.loop-mirror.blocks.items all
    ∙ blocks_some f s.mirrors some in
    rw (← same, ← c.deref-2.ensures.value) c.join.ensures.ok
