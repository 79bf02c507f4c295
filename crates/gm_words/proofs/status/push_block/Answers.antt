use Rattle.gm_words.proofs.Common.{◌++◌, arith, string_bytes, component_line, mirror_line}
use Rattle.gm_words.proofs.GrownText.{grown}
use Rattle.gm_words.proofs.status.push_block.Goals as goal

pub loop-component-preserved : goal.loop-component-preserved
loop-component-preserved c =
    grown (component_line c.args.mirror.now) c.args.members.now c.loop-component.component-index
    c.component-item.result
    (string_bytes c.args.text.now ++ mirror_line c.args.mirror.now c.args.members.now)
    (string_bytes c.loop-component.text) (string_bytes c.push_component_line.new.text)
    (omega arith) c.component-item.is c.loop-component.invariant c.in_ok-push_component_line.ensures
