use Rattle.std.proofs.Common.{ℕ, List, take}
use Rattle.gm_lists.specs.Ordered.{Has}
use Rattle.gm_shelf.specs.Keeping.{ReadsOnly}
use Rattle.gm_refusals.specs.declared.facts.Fact.{Fact}
use Rattle.gm_ways.specs.Shown.{IsFact}
use Rattle.gm_ways.proofs.FactsShown.{IsCovered}
use Rattle.gm_ways.proofs.shown.facts_of.Given as goal

abbrev pub invariant-loop-name : goal.invariant-loop-name
invariant-loop-name g l =
    let H = g.H.Shelf in
    let old = H.view l.fn.shelf in
    record {
      only : ReadsOnly H l.fn.shelf l.shelf;
      facts : H.honest l.fn.shelf → (f : Fact) → Has l.entries.items f
          → IsFact (H.size l.fn.shelf) old.seen f;
      covered : H.honest l.fn.shelf → (q : List ℕ) → Has (take l.name-index l.names) q
          → IsCovered l.entries.items (H.size l.fn.shelf) q;
    }
