use Rattle.gm_words.proofs.Common.{[], string_bytes, group_block}
use Rattle.gm_words.proofs.GrownText.{grown}
use Rattle.gm_words.proofs.tasted.groups_text.Goals as goal

pub loop-group-preserved : goal.loop-group-preserved
loop-group-preserved c =
    grown group_block c.args.groups.now c.loop-group.group-index c.group-item.result []
    (string_bytes c.loop-group.text) (string_bytes c.push_group.new.text) c.loop-group-test.true
    c.group-item.is c.loop-group.invariant c.in_ok-push_group.ensures
