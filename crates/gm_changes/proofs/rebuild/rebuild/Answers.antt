use Rattle.gm_changes.proofs.Common.{◌∙◌, sym, refl, seen_in, member_found}
use Rattle.gm_refusals.specs.declared.refusals.Refusal.TheVariants as refusals
use Rattle.gm_changes.proofs.MadeOfPart.{rebuild_made}
use Rattle.gm_changes.proofs.rebuild.rebuild.Goals as goal

pub unwrap-component-requires : goal.unwrap-component-requires
unwrap-component-requires c =
    rw c.component.ensures.value (member_found c.args.part.now c.args.name c.args.provider
    (c.requires refusals.NotMember refl refl))

pub returns : goal.returns
returns c =
    rebuild_made c.args.part.now (seen_in c.args.facts.now) c.args.name c.args.provider _ _
    (sym c.component.ensures.value ∙ c.unwrap-component.ensures)
    (rw c.rebuilt.ensures at c.in_ok-replaced.ensures)
