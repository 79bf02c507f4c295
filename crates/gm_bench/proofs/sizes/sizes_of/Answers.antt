use Rattle.gm_bench.proofs.Common.{◌≡◌, ◌∙◌, inl, inr, ◌++◌, ◌∷◌, [], List, ℕ, sym, ap, subst, arith, take, Option, Some, None, MatchOption, take_all, Has, size_in, Fact, Has-push, has_left, has_last}
use Rattle.gm_bench.proofs.FactsAreWorlds.{tell_size, covered_more}
use Rattle.gm_bench.proofs.sizes.sizes_of.Goals as goal
use Rattle.gm_bench.proofs.sizes.sizes_of.Goals.{in-Some+in_ok-push, in_default}

pub loop-name-preserved : goal.loop-name-preserved
loop-name-preserved g c =
    let inv = c.loop-name.invariant in
    let size = g.H.Shelf.size c.args.shelf.now in
    let name = c.name-item.result in
    elim c.match-size_of.branch [
      | in-Some+in_ok-push w ↦
          let fact = w.in-Some.fact in
          let more : c.match-size_of.entries.items ≡ c.loop-name.entries.items ++ fact ∷ [] =
          ap (λ v. v.items) w.entries-is ∙ w.in_ok-push.ensures.items in
          let told : (fact.provider ≡ name) × (size name ≡ Some fact.sectors) =
          subst (λ (o : Option Fact). MatchOption o (size name ≡ None)
          (λ f. (f.provider ≡ name) × (size name ≡ Some f.sectors))) w.in-Some.is
          c.size_of.ensures in
          record {
            sizes = λ f has.
                (elim (Has-push c.loop-name.entries.items fact f
                (subst (λ (l : List Fact). Has l f) more has)) [
                  | inl old ↦ inv.sizes f old
                  | inr new ↦ subst (λ (x : Fact). size x.provider ≡ Some x.sectors) new
                      (ap size told.0 ∙ told.1)
                ]);
            covered = λ q has. covered_more c.loop-name.entries.items
                c.match-size_of.entries.items size c.args.names.now c.loop-name.name-index name
                (omega arith) c.name-item.is
                (λ f k. subst (λ (l : List Fact). Has l f) (sym more)
                (has_left c.loop-name.entries.items fact f k))
                (inr (
                  fact,
                  subst (λ (l : List Fact). Has l fact) (sym more)
                      (has_last c.loop-name.entries.items fact),
                  told.0,
                ))
                inv.covered q has;
          }
      | in_default w ↦
          let more : c.match-size_of.entries.items ≡ c.loop-name.entries.items =
          ap (λ v. v.items) w.entries-is in
          let gone : size name ≡ None =
          subst (λ (o : Option Fact). MatchOption o (size name ≡ None)
          (λ f. (f.provider ≡ name) × (size name ≡ Some f.sectors))) w.in_default.is
          c.size_of.ensures in
          record {
            sizes = λ f has. inv.sizes f (subst (λ (l : List Fact). Has l f) more has);
            covered = λ q has. covered_more c.loop-name.entries.items
                c.match-size_of.entries.items size c.args.names.now c.loop-name.name-index name
                (omega arith) c.name-item.is
                (λ f k. subst (λ (l : List Fact). Has l f) (sym more) k)
                (inl gone) inv.covered q has;
          }
    ]

pub returns : goal.returns
returns g c q has =
    let inv = c.loop-name.invariant in
    let size = g.H.Shelf.size c.args.shelf.now in
    let all : take c.loop-name.name-index c.args.names.now ≡ c.args.names.now =
    take_all c.loop-name.name-index c.args.names.now (omega arith) in
    let covered = inv.covered q (subst (λ (l : List (List ℕ)). Has l q) (sym all) has) in
    subst (λ (l : List Fact). size_in l q ≡ size q) (sym c.new.ensures)
    (tell_size c.loop-name.entries.items size q inv.sizes covered)
