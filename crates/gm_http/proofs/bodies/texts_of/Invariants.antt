use Rattle.gm_http.proofs.Common.{◌≡◌, ◌++◌, map, drop, string_bytes, option_map, items_view, texts_of}
use Rattle.gm_http.proofs.bodies.texts_of.Given as goal

-- the texts so far, and those of the rest, are those of all
abbrev pub invariant-loop-value : goal.invariant-loop-value
invariant-loop-value l =
    option_map (λ rest. map string_bytes l.texts.items ++ rest)
    (texts_of (items_view (drop l.value-index l.values))) ≡ texts_of (items_view l.values)
