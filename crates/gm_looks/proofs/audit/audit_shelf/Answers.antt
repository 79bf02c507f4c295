use Rattle.gm_looks.proofs.Common.{rules, ◌≡◌, ◌∙◌, List, ℕ, map, refl, sym, ap, subst, IsAudit, is_meant, All, Unlike}
use Rattle.gm_looks.proofs.UnlikeSoFar.{audited, on}
use Rattle.gm_looks.proofs.audit.audit_shelf.Goals as goal

pub returns-clause-audit : goal.returns-clause-audit
returns-clause-audit g c h =
    let s = c.args.state.now in
    let size = g.H.Shelf.size c.args.shelf.now in
    let seen = (g.H.Shelf.view c.args.shelf.now).seen in
    let list : List Unlike = c.in_ok-list.list.items in
    let names : List (List ℕ) = c.in_ok-names_of.field-0.items in
    let given : c.deref.result.now ≡ list = search rules in
    let are : names ≡ map on list =
    c.in_ok-names_of.ensures ∙ ap (λ (l : List Unlike). map on l) given in
    subst (λ (n : List (List ℕ)). IsAudit s size seen n) (sym are)
    (audited (is_meant All) s size seen c.in_ok-list.ensures.state (λ k. refl) list
    (c.in_ok-list.ensures.unlike h))
