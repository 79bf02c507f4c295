use Rattle.gm_bench.proofs.Common.{◌≡◌, List, ℕ, Some, take, Has, Fact}
use Rattle.gm_bench.proofs.FactsAreWorlds.{IsCovered}
use Rattle.gm_bench.proofs.sizes.sizes_of.Given as goal

abbrev pub invariant-loop-name : goal.invariant-loop-name
invariant-loop-name g l =
    let size = g.H.Shelf.size l.shelf in
    record {
      sizes : (f : Fact) → Has l.entries.items f → size f.provider ≡ Some f.sectors;
      covered : (q : List ℕ) → Has (take l.name-index l.names) q
          → IsCovered l.entries.items size q;
    }
