use Rattle.gm_changes.proofs.Common.{◌∙◌, sym, refl, seen_in, some_from, member_found}
use Rattle.gm_refusals.specs.declared.refusals.Refusal.TheVariants as refusals
use Rattle.gm_changes.proofs.MadeOfPart.{activate_made}
use Rattle.gm_changes.proofs.activate.activate.Goals as goal

pub unwrap-mirror-requires : goal.unwrap-mirror-requires
unwrap-mirror-requires c =
    rw c.mirror.ensures.value (some_from _ (c.requires refusals.NoMirror refl refl))

pub unwrap-component-requires : goal.unwrap-component-requires
unwrap-component-requires c =
    rw c.component.ensures.value (member_found c.args.part.now c.args.name c.args.provider
    (c.requires refusals.NotMember refl refl))

pub returns : goal.returns
returns c =
    activate_made c.args.part.now (seen_in c.args.facts.now) c.args.name c.args.provider _ _ _
    (sym c.mirror.ensures.value ∙ c.unwrap-mirror.ensures)
    (sym c.component.ensures.value ∙ c.unwrap-component.ensures)
    (rw c.activated.ensures at c.in_ok-replaced.ensures)
