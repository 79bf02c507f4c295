use Rattle.gm_bench.proofs.Common.{◌≡◌, ◌∙◌, inl, inr, ◌++◌, ◌∷◌, [], List, ℕ, sym, ap, subst, arith, take, Some, None, take_all, Sizes, Has, Fact, IsFact, Tell, TellSizes, only_then, Has-push, has_left, has_last}
use Rattle.gm_bench.proofs.FactsAreWorlds.{tell, tell_sizes, size_found, moved, fact_found, absent_found, covered_more}
use Rattle.gm_bench.proofs.facts.facts_of.Goals as goal
use Rattle.gm_bench.proofs.facts.facts_of.Goals.{in-Some+in-Ok, in-None}

pub loop-name-preserved : goal.loop-name-preserved
loop-name-preserved g c =
    let j = g.H.Shelf in
    let inv = c.loop-name.invariant in
    let size = j.size c.args.shelf.now in
    let against = c.args.against.now in
    let mid = j.size c.loop-name.shelf in
    let seen = (j.view c.args.shelf.now).seen in
    let was = (j.view c.loop-name.shelf).seen in
    let name = c.name-item.result in
    elim c.match-branch-2.branch [
      | in-Some+in-Ok w ↦
          let more : c.match-branch-2.entries.items ≡ c.loop-name.entries.items ++ w.in-Some.fact
          ∷ [] = ap (λ v. v.items) w.entries-is ∙ w.in-Ok.ensures.items in
          let fact : g.H.Shelf.honest c.args.shelf.now
          → IsFact size seen against w.in-Some.fact × (w.in-Some.fact.provider ≡ name) = λ h. (
          let it = fact_found c.in_ok-fact_of.field-0 w.in-Some.fact mid was against name
          w.in-Some.is (c.in_ok-fact_of.ensures.fact (inv.only.keeps.honest h)) in (
            moved size mid seen was against w.in-Some.fact inv.only.keeps.size
                (inv.only.reads h).quiet.seen it.0,
            it.1,
          )) in
          record {
            only = only_then j _ _ _ inv.only c.fact_of.ensures.looks.only;
            sizes = λ f has.
                (elim (Has-push c.loop-name.entries.items w.in-Some.fact f
                (subst (λ (l : List Fact). Has l f) more has)) [
                  | inl old ↦ inv.sizes f old
                  | inr new ↦ subst (λ (x : Fact). size x.provider ≡ Some x.sectors) new
                      (subst (λ (z : Sizes). z w.in-Some.fact.provider
                      ≡ Some w.in-Some.fact.sectors) inv.only.keeps.size
                      (size_found c.in_ok-fact_of.field-0 w.in-Some.fact mid name w.in-Some.is
                      c.in_ok-fact_of.ensures.size))
                ]);
            facts = λ h f has.
                (elim (Has-push c.loop-name.entries.items w.in-Some.fact f
                (subst (λ (l : List Fact). Has l f) more has)) [
                  | inl old ↦ inv.facts h f old
                  | inr new ↦ subst (IsFact size seen against) new (fact h).0
                ]);
            covered = λ h q has. covered_more c.loop-name.entries.items
                c.match-branch-2.entries.items size c.args.names.now c.loop-name.name-index name
                (omega arith) c.name-item.is
                (λ f k. subst (λ (l : List Fact). Has l f) (sym more)
                (has_left c.loop-name.entries.items w.in-Some.fact f k))
                (inr (
                  w.in-Some.fact,
                  subst (λ (l : List Fact). Has l w.in-Some.fact) (sym more)
                      (has_last c.loop-name.entries.items w.in-Some.fact),
                  (fact h).1,
                ))
                (inv.covered h) q has;
          }
      | in-None w ↦
          let more : c.match-branch-2.entries.items ≡ c.loop-name.entries.items =
          ap (λ v. v.items) w.entries-is in
          record {
            only = only_then j _ _ _ inv.only c.fact_of.ensures.looks.only;
            sizes = λ f has. inv.sizes f (subst (λ (l : List Fact). Has l f) more has);
            facts = λ h f has. inv.facts h f (subst (λ (l : List Fact). Has l f) more has);
            covered = λ h q has. covered_more c.loop-name.entries.items
                c.match-branch-2.entries.items size c.args.names.now c.loop-name.name-index name
                (omega arith) c.name-item.is
                (λ f k. subst (λ (l : List Fact). Has l f) (sym more) k)
                (inl (subst (λ (z : Sizes). z name ≡ None) inv.only.keeps.size
                (absent_found c.in_ok-fact_of.field-0 mid was against name w.in-None.is
                (c.in_ok-fact_of.ensures.fact (inv.only.keeps.honest h))))) (inv.covered h) q has;
          }
    ]

pub returns-clause-tell : goal.returns-clause-tell
returns-clause-tell g c h q has =
    let j = g.H.Shelf in
    let inv = c.loop-name.invariant in
    let size = j.size c.args.shelf.now in
    let against = c.args.against.now in
    let seen = (j.view c.args.shelf.now).seen in
    let all : take c.loop-name.name-index c.args.names.now ≡ c.args.names.now =
    take_all c.loop-name.name-index c.args.names.now (omega arith) in
    let covered = inv.covered h q (subst (λ (l : List (List ℕ)). Has l q) (sym all) has) in
    subst (λ (l : List Fact). Tell l size seen against q) (sym c.new.ensures)
    (tell c.loop-name.entries.items size seen against q (inv.facts h) covered)

pub returns-clause-sizes : goal.returns-clause-sizes
returns-clause-sizes g c =
    let size = g.H.Shelf.size c.args.shelf.now in
    subst (λ (l : List Fact). TellSizes l size) (sym c.new.ensures)
    (tell_sizes c.loop-name.entries.items size c.loop-name.invariant.sizes)
