use Rattle.gm_bench.proofs.Common.{◌≡◌, List, ℕ, Some, take, ReadsOnly, Has, Fact, IsFact}
use Rattle.gm_bench.proofs.FactsAreWorlds.{IsCovered}
use Rattle.gm_bench.proofs.facts.facts_of.Given as goal

abbrev pub invariant-loop-name : goal.invariant-loop-name
invariant-loop-name g l =
    let H = g.H.Shelf in
    let old = H.view l.fn.shelf in
    record {
      only : ReadsOnly H l.fn.shelf l.shelf;
      sizes : (f : Fact) → Has l.entries.items f → H.size l.fn.shelf f.provider ≡ Some f.sectors;
      facts : H.honest l.fn.shelf → (f : Fact) → Has l.entries.items f
          → IsFact (H.size l.fn.shelf) old.seen l.against f;
      covered : H.honest l.fn.shelf → (q : List ℕ) → Has (take l.name-index l.names) q
          → IsCovered l.entries.items (H.size l.fn.shelf) q;
    }
