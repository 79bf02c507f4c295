use Rattle.gm_words.proofs.Common.{◌≡◌, ◌++◌, arith, rules, string_bytes, component_lines, mirror_lines}
use Rattle.gm_words.proofs.GrownText.{grown}
use Rattle.gm_words.proofs.listing.block.Goals as goal

pub loop-component-preserved : goal.loop-component-preserved
loop-component-preserved c =
    let m = c.args.mirror.now in
    let ks = c.args.members.now in
    let more : string_bytes c.push_str.new.self ≡ string_bytes c.loop-component.text
    ++ component_lines m c.component-item.result = search rules in
    grown (component_lines m) ks c.loop-component.component-index c.component-item.result
    (mirror_lines m ks) (string_bytes c.loop-component.text) (string_bytes c.push_str.new.self)
    (omega arith) c.component-item.is c.loop-component.invariant more
