use Rattle.gm_shelf.proofs.Common.{◌∙◌, List, ℕ, subst, sym, keys, IfOk-weaker, AreNames, sectors_of}
use Rattle.gm_shelf.proofs.KeyNames.{names_are, is_some-option_map}
use Rattle.gm_shelf.proofs.file_shelf.FileShelfShelf.names.Goals as goal

pub returns : goal.returns
returns g c =
    let named : AreNames (sectors_of c.args.self.now.images) (keys c.args.self.now.images) =
    names_are _ _ c.names_in.ensures.ascending (λ q. is_some-option_map _ _
    ∙ c.names_in.ensures.found q) in
    IfOk-weaker c.names_in.result _ _
    (λ v is. subst (λ (names : List (List ℕ)). AreNames (sectors_of c.args.self.now.images) names)
    (sym is) named)
    c.names_in.ensures.names
