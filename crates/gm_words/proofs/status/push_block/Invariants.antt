use Rattle.gm_words.proofs.Common.{◌≡◌, ◌++◌, flat_map, take, string_bytes, component_line, mirror_line}
use Rattle.gm_words.proofs.status.push_block.Given as goal

abbrev pub invariant-loop-component : goal.invariant-loop-component
invariant-loop-component l =
    string_bytes l.text ≡ (string_bytes l.fn.text ++ mirror_line l.fn.mirror l.fn.members)
    ++ flat_map (component_line l.fn.mirror) (take l.component-index l.fn.members)
