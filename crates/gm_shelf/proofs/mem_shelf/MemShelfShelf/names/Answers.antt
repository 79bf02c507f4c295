use Rattle.gm_shelf.proofs.Common.{◌∙◌, List, ℕ, subst, sym, ap, reverse, is_some, keys, IfOk-weaker, AreNames, size_after}
use Rattle.gm_shelf.proofs.KeyNames.{names_are, is_some-option_map}
use Rattle.gm_shelf.proofs.mem_shelf.MemShelfShelf.names.Goals as goal

pub returns : goal.returns
returns c =
    let named : AreNames (size_after (reverse c.args.self.now.log.items))
    (keys c.args.self.now.disks) =
    names_are _ _ c.names_in.ensures.ascending
    (λ q. ap is_some (sym (c.args.self.now.cached.sizes q)) ∙ is_some-option_map _ _
    ∙ c.names_in.ensures.found q) in
    IfOk-weaker c.names_in.result _ _
    (λ v is. subst (λ (names : List (List ℕ)).
    AreNames (size_after (reverse c.args.self.now.log.items)) names) (sym is) named)
    c.names_in.ensures.names
