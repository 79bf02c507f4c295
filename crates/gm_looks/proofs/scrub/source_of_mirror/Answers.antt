use Rattle.gm_looks.proofs.Common.{◌≡◌, ◌∙◌, true, false, sym, subst, Component, goes_first, IsSourceOfMirror}
use Rattle.gm_looks.proofs.Listed.{some_other}
use Rattle.gm_looks.proofs.MirrorSource.{best_lender, itself_source, kept_source, lender_source}
use Rattle.gm_looks.proofs.scrub.source_of_mirror.Goals as goal

pub returns-in_default : goal.returns-in_default
returns-in_default c state m active =
    itself_source c.args.state.now state m c.args.component.now active c.source.result
    c.source.ensures.best c.in_default.is

pub returns-in_default-component : goal.returns-in_default-component
returns-in_default-component c state m active =
    let lent = best_lender c.args.state.now state m c.args.component.now active c.source.result
    c.in-Some.name c.source.ensures.best c.in-Some.is in
    absurd (let no = sym lent.1 ∙ sym c.component.ensures.value ∙ c.in_default-component.is in cc)

pub returns-then-goes_first : goal.returns-then-goes_first
returns-then-goes_first c state m active =
    let s = c.args.state.now in
    let k = c.args.component.now in
    let b = c.in-Some-component.other in
    let lent = best_lender s state m k active c.source.result c.in-Some.name c.source.ensures.best
    c.in-Some.is in
    let same : lent.0 ≡ b = some_other _ lent.0 b lent.1
    (sym c.component.ensures.value ∙ c.in-Some-component.is) in
    let first : goes_first b k ≡ true = sym c.goes_first.ensures ∙ c.if-goes_first.true in
    subst (λ (x : Component). IsSourceOfMirror s m x) same
    (lender_source s state m k active lent.0 lent.2
    (subst (λ (x : Component). goes_first x k ≡ true) (sym same) first))

pub returns-else-goes_first : goal.returns-else-goes_first
returns-else-goes_first c state m active =
    let s = c.args.state.now in
    let k = c.args.component.now in
    let b = c.in-Some-component.other in
    let lent = best_lender s state m k active c.source.result c.in-Some.name c.source.ensures.best
    c.in-Some.is in
    let same : lent.0 ≡ b = some_other _ lent.0 b lent.1
    (sym c.component.ensures.value ∙ c.in-Some-component.is) in
    let first : goes_first b k ≡ false = sym c.goes_first.ensures ∙ c.if-goes_first.false in
    kept_source s state m k active lent.0 lent.2
    (subst (λ (x : Component). goes_first x k ≡ false) (sym same) first)
