use Rattle.gm_words.proofs.Common.{◌≡◌, ◌++◌, flat_map, take, string_bytes, component_lines, mirror_lines}
use Rattle.gm_words.proofs.listing.block.Given as goal

abbrev pub invariant-loop-component : goal.invariant-loop-component
invariant-loop-component l =
    string_bytes l.text ≡ mirror_lines l.fn.mirror l.fn.members
    ++ flat_map (component_lines l.fn.mirror) (take l.component-index l.fn.members)
