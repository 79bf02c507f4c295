use Rattle.gm_shelf.proofs.Common.{◌≡◌, ◌∙◌, ◌++◌, ◌∷◌, [], ap, sym, subst, true, rules, List, reverse, is_ok, IsCache, Event, Added}
use Rattle.gm_shelf.proofs.CachedContents.{cache_added}
use Rattle.gm_shelf.proofs.Steps.{pushed}
use Rattle.gm_shelf.proofs.mem_shelf.MemShelf.add.Goals as goal

pub invariant_of-self-2 : goal.invariant_of-self-2
invariant_of-self-2 c =
    let same : c.in_ok-held.held.items ≡ c.args.sectors.items = search rules in
    let ok : is_ok c.push.result ≡ true = c.push.ensures.succeeds (search rules) in
    let items : c.push.new.self.items ≡ c.args.self.now.log.items
    ++ Added c.args.label c.args.sectors ∷ [] =
    (rw ok at c.push.ensures.items) ∙ ap (λ (l : List Event). l
    ++ Added c.args.label c.args.sectors ∷ []) c.in_ok-reserve.ensures.items in
    record {
      cached = subst (λ (l : List Event). IsCache l c.insert.new.self) (sym (pushed _ _ _ items))
          (cache_added (reverse c.args.self.now.log.items) c.args.self.now.disks c.insert.new.self
          c.args.label c.args.sectors c.in_ok-held.held c.args.self.now.cached
          c.in_ok-insert.ensures.updates.0 same);
    }
