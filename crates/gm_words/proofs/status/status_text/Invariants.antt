use Rattle.gm_words.proofs.Common.{◌≡◌, flat_map, take, string_bytes, members}
use Rattle.gm_words.specs.Status.{block}
use Rattle.gm_words.proofs.status.status_text.Given as goal

abbrev pub invariant-loop-mirror : goal.invariant-loop-mirror
invariant-loop-mirror l =
    string_bytes l.text ≡ flat_map (λ m. block m (members l.fn.state.components m.name))
    (take l.mirror-index l.fn.state.mirrors)
