use Rattle.gm_json.proofs.Common.{◌≡◌, map, take, string, view}
use Rattle.gm_json.proofs.audits.name_values.Given as goal

abbrev pub invariant-loop-name : goal.invariant-loop-name
invariant-loop-name l =
    map view l.values.items ≡ map string (take l.name-index l.fn.names)
