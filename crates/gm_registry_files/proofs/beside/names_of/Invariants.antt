use Rattle.gm_registry_files.proofs.Common.{◌≡◌, map, take, string_bytes, names_of}
use Rattle.gm_registry_files.proofs.beside.names_of.Given as goal

abbrev pub invariant-loop-x : goal.invariant-loop-x
invariant-loop-x l =
    map string_bytes l.names.items ≡ names_of (take l.x-index l.fn.passed)
