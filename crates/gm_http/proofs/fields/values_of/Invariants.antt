use Rattle.gm_http.proofs.Common.{◌≡◌, ◌++◌, map, drop, header_bytes, values_of}
use Rattle.gm_http.proofs.fields.values_of.Given as goal

-- the values so far, and those of the rest, are those of all
abbrev pub invariant-loop-header : goal.invariant-loop-header
invariant-loop-header l =
    map (λ value. value.now) l.values.items
    ++ values_of l.name (map (header_bytes l.bytes) (drop l.header-index l.headers))
    ≡ values_of l.name (map (header_bytes l.bytes) l.headers)
