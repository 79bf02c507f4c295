use Rattle.std.proofs.Common.{◌≡◌, ◌∙◌, inl, inr, ◌++◌, ◌∷◌, [], List, ℕ, sym, ap, subst, arith, take, Some, None, Option, MatchOption}
use Rattle.std.proofs.lemmas.List.{take_all}
use Rattle.gm_metadata.specs.Images.{Sizes}
use Rattle.gm_lists.specs.Ordered.{Has}
use Rattle.gm_lists.proofs.Finding.{Has-append_left}
use Rattle.gm_lists.proofs.Lists.{Has-push}
use Rattle.gm_shelf.proofs.Keeping.{only_then}
use Rattle.gm_refusals.specs.declared.facts.Fact.{Fact}
use Rattle.gm_ways.specs.Shown.{IsFact, Tell}
use Rattle.gm_ways.proofs.FactsShown.{covered_more, has_last, moved, tell}
use Rattle.gm_ways.proofs.shown.facts_of.Goals as goal
use Rattle.gm_ways.proofs.shown.facts_of.Goals.{in-Some+in_ok-push-in-Some, in-None}

pub loop-name-preserved : goal.loop-name-preserved
loop-name-preserved g c =
    let j = g.H.Shelf in
    let inv = c.loop-name.invariant in
    let size = j.size c.args.shelf.now in
    let mid = j.size c.loop-name.shelf in
    let seen = (j.view c.args.shelf.now).seen in
    let was = (j.view c.loop-name.shelf).seen in
    let name = c.name-item.result in
    let found = c.in_ok-fact_of.field-0 in
    elim c.match-branch-2.branch [
      | in-Some+in_ok-push-in-Some w ↦
          let f = w.in-Some.fact in
          let more : c.match-branch-2.entries.items ≡ c.loop-name.entries.items ++ f ∷ [] =
          ap (λ v. v.items) w.entries-is ∙ w.in_ok-push-in-Some.ensures.items in
          let fact : j.honest c.args.shelf.now → IsFact size seen f × (f.provider ≡ name) = λ h. (
          let it : IsFact mid was f × (f.provider ≡ name) =
          subst (λ (o : Option Fact). MatchOption o (mid name ≡ None)
          (λ g. IsFact mid was g × (g.provider ≡ name))) w.in-Some.is
          (c.in_ok-fact_of.ensures.fact (inv.only.keeps.honest h)) in (
            moved size mid seen was f inv.only.keeps.size (inv.only.reads h).quiet.seen it.0,
            it.1,
          )) in
          record {
            only = only_then j _ _ _ inv.only c.fact_of.ensures.looks.only;
            facts = λ h g has.
                (elim (Has-push c.loop-name.entries.items f g
                (subst (λ (l : List Fact). Has l g) more has)) [
                  | inl old ↦ inv.facts h g old
                  | inr new ↦ subst (IsFact size seen) new (fact h).0
                ]);
            covered = λ h q has. covered_more c.loop-name.entries.items
                c.match-branch-2.entries.items size c.args.names.now c.loop-name.name-index name
                (omega arith) c.name-item.is
                (λ g k. subst (λ (l : List Fact). Has l g) (sym more)
                (Has-append_left c.loop-name.entries.items (f ∷ []) g k))
                (inr (
                  f,
                  subst (λ (l : List Fact). Has l f) (sym more)
                      (has_last c.loop-name.entries.items f),
                  (fact h).1,
                ))
                (inv.covered h) q has;
          }
      | in-None w ↦
          let more : c.match-branch-2.entries.items ≡ c.loop-name.entries.items =
          ap (λ v. v.items) w.entries-is in
          record {
            only = only_then j _ _ _ inv.only c.fact_of.ensures.looks.only;
            facts = λ h g has. inv.facts h g (subst (λ (l : List Fact). Has l g) more has);
            covered = λ h q has. covered_more c.loop-name.entries.items
                c.match-branch-2.entries.items size c.args.names.now c.loop-name.name-index name
                (omega arith) c.name-item.is
                (λ g k. subst (λ (l : List Fact). Has l g) (sym more) k)
                (inl (subst (λ (z : Sizes). z name ≡ None) inv.only.keeps.size
                (subst (λ (o : Option Fact). MatchOption o (mid name ≡ None)
                (λ g. IsFact mid was g × (g.provider ≡ name))) w.in-None.is
                (c.in_ok-fact_of.ensures.fact (inv.only.keeps.honest h))))) (inv.covered h) q has;
          }
    ]

pub returns-clause-tell : goal.returns-clause-tell
returns-clause-tell g c h q has =
    let j = g.H.Shelf in
    let inv = c.loop-name.invariant in
    let size = j.size c.args.shelf.now in
    let seen = (j.view c.args.shelf.now).seen in
    let all : take c.loop-name.name-index c.args.names.now ≡ c.args.names.now =
    take_all c.loop-name.name-index c.args.names.now (omega arith) in
    let covered = inv.covered h q (subst (λ (l : List (List ℕ)). Has l q) (sym all) has) in
    subst (λ (l : List Fact). Tell l size seen q) (sym c.new.ensures)
    (tell c.loop-name.entries.items size seen q (inv.facts h) covered)
