use Rattle.gm_changes.proofs.Common.{◌∙◌, sym, refl, seen_in, some_from, home_of, member_found}
use Rattle.gm_refusals.specs.declared.refusals.Refusal.TheVariants as refusals
use Rattle.gm_changes.proofs.LendingComponent.{held_small, is_copying, lender}
use Rattle.gm_changes.proofs.MadeOfPart.{advance_made}
use Rattle.gm_changes.proofs.advance.advance.Goals as goal

pub unwrap-mirror-requires : goal.unwrap-mirror-requires
unwrap-mirror-requires c =
    rw c.mirror.ensures.value (some_from _ (c.requires refusals.NoMirror refl refl))

pub unwrap-component-requires : goal.unwrap-component-requires
unwrap-component-requires c =
    rw c.component.ensures.value (member_found c.args.part.now c.args.name c.args.provider
    (c.requires refusals.NotMember refl refl))

pub unwrap-source-requires : goal.unwrap-source-requires
unwrap-source-requires c =
    let s = c.args.part.now in
    let found = sym c.mirror.ensures.value ∙ c.unwrap-mirror.ensures in
    let at = sym c.component.ensures.value ∙ c.unwrap-component.ensures in
    let state = c.mirror.ensures.state in
    let home = home_of s c.args.name c.args.provider state _ at
    (c.requires refusals.NotMember refl refl) in
    let filled = is_copying s c.args.name c.args.provider state _ _ found at home
    (c.requires refusals.NotSynchronizing refl refl) in
    let from = lender s c.args.name c.args.provider state _ _ found at home (λ e. (let f : ⊥ = cc in
    f)) c.source.result c.source.ensures.best in
    rw from.1 refl

pub advanced-requires : goal.advanced-requires
advanced-requires c =
    let s = c.args.part.now in
    let found = sym c.mirror.ensures.value ∙ c.unwrap-mirror.ensures in
    let at = sym c.component.ensures.value ∙ c.unwrap-component.ensures in
    let home = home_of s c.args.name c.args.provider c.mirror.ensures.state _ at
    (c.requires refusals.NotMember refl refl) in
    held_small s c.args.name c.args.provider c.mirror.ensures.state _ _ found at home

pub returns : goal.returns
returns c =
    advance_made c.args.part.now (seen_in c.args.facts.now) c.args.name c.args.provider _ _ _ _
    (sym c.mirror.ensures.value ∙ c.unwrap-mirror.ensures)
    (sym c.component.ensures.value ∙ c.unwrap-component.ensures)
    (sym c.source.ensures.value ∙ c.unwrap-source.ensures) c.in_ok-advanced.ensures
