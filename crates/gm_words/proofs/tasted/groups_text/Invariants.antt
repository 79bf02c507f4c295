use Rattle.gm_words.proofs.Common.{◌≡◌, flat_map, take, string_bytes, group_block}
use Rattle.gm_words.proofs.tasted.groups_text.Given as goal

abbrev pub invariant-loop-group : goal.invariant-loop-group
invariant-loop-group l = string_bytes l.text ≡ flat_map group_block (take l.group-index l.groups)
