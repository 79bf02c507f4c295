-- Calls that only look at both media, one after the other.
use Rattle.gm_bench.proofs.Common.{Result, arith, Ghosts, Tables, DiskKept, HasTables, only_then, BenchFault, Media, OnlyLooks}
use Rattle.gm_shelf.specs.declared.shelf.Shelf.{Ghosts as ShelfGhosts}
use Rattle.gm_bench.proofs.DecidesOnly.{reads_then}
use Rattle.gm_bench.proofs.StoreFails.{failed_later}

-- two looks in turn are one
pub looks_in_turn : {S H T U : Type 0} (g : Ghosts S) (j : ShelfGhosts H) (old mid new : Media S H)
    (first : Result T BenchFault) (second : Result U BenchFault) → OnlyLooks g j old mid first
    → (DiskKept g mid.registry → (t : Tables) → HasTables g old.registry t
    → HasTables g mid.registry t) → OnlyLooks g j mid new second → OnlyLooks g j old new second
looks_in_turn g j old mid new first second one has two = record {
  clean = omega (arith, one.clean, two.clean);
  reads = λ clean.
      let early : DiskKept g mid.registry = omega (arith, two.clean, clean) in
      reads_then g old.registry mid.registry new.registry (has early) (one.reads early)
      (two.reads clean);
  only = only_then j old.shelf mid.shelf new.shelf one.only two.only;
  disk = λ is.
      let count = one.only.keeps.count in
      let later = two.disk is in omega (arith, count, later);
  store = λ clean is t there.
      let early : DiskKept g mid.registry = omega (arith, two.clean, clean) in
      failed_later g old.registry mid.registry t (one.reads early) there (has early t there)
      new.registry (two.store clean is t (has early t there));
  fault = two.fault;
}
