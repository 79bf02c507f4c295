use Rattle.gm_words.proofs.Common.{◌≡◌, ◌++◌, flat_map, take, string_bytes, group_line, member_line}
use Rattle.gm_words.proofs.tasted.push_group.Given as goal

abbrev pub invariant-loop-member : goal.invariant-loop-member
invariant-loop-member l =
    string_bytes l.text ≡ (string_bytes l.fn.text ++ group_line l.fn.group)
    ++ flat_map member_line (take l.member-index l.fn.group.members.items)
