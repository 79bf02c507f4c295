use Rattle.gm_words.proofs.Common.{◌≡◌, ◌∙◌, ◌++◌, ◌<◌, List, get_or, length, ap, subst, string_bytes, group_line, member_line}
use Rattle.gm_taste.specs.declared.tasted.Member.{Member}
use Rattle.gm_words.proofs.GrownText.{grown}
use Rattle.gm_words.proofs.tasted.push_group.Goals as goal

pub loop-member-preserved : goal.loop-member-preserved
loop-member-preserved c =
    let members = c.args.group.now.members.items in
    let i = c.loop-member.member-index in
    let x = c.member-item.result in
    let all = c.deref-member-items.ensures.value in
    let low : i < length members =
    subst (λ (l : List Member). i < length l) all c.loop-member-test.true in
    let is : x ≡ get_or members i x =
    c.member-item.is ∙ ap (λ (l : List Member). get_or l i x) all in
    grown member_line members i x (string_bytes c.args.text.now ++ group_line c.args.group.now)
    (string_bytes c.loop-member.text) (string_bytes c.push_member_line.new.text)
    low is c.loop-member.invariant c.in_ok-push_member_line.ensures
