use Rattle.gm_words.proofs.Common.{◌≡◌, map, take, string_bytes, members, block}
use Rattle.gm_words.proofs.listing.list_text.Given as goal

abbrev pub invariant-loop-mirror : goal.invariant-loop-mirror
invariant-loop-mirror l =
    map string_bytes l.blocks.items ≡ map (λ m. block m (members l.fn.state.components m.name))
    (take l.mirror-index l.fn.state.mirrors)
