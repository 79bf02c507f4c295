use Rattle.gm_changes.proofs.Common.{◌∙◌, sym, refl, seen_in, some_from, one_more_sync}
use Rattle.gm_refusals.specs.declared.refusals.Refusal.TheVariants as refusals
use Rattle.gm_changes.proofs.MadeOfPart.{deactivate_made}
use Rattle.gm_changes.proofs.deactivate.deactivate.Goals as goal

pub unwrap-mirror-requires : goal.unwrap-mirror-requires
unwrap-mirror-requires c =
    rw c.mirror.ensures.value (some_from _ (c.requires refusals.NoMirror refl refl))

pub deactivated-requires : goal.deactivated-requires
deactivated-requires c =
    one_more_sync c.args.part.now c.args.name _ c.mirror.ensures.state
    (sym c.mirror.ensures.value ∙ c.unwrap-mirror.ensures)
    (c.requires refusals.LastSyncid refl refl)

pub returns : goal.returns
returns c =
    deactivate_made c.args.part.now (seen_in c.args.facts.now) c.args.name c.args.provider _ _ _
    (sym c.mirror.ensures.value ∙ c.unwrap-mirror.ensures)
    (sym (c.deref.ensures.value ∙ c.in_ok-members.ensures.value)) c.in_ok-deactivated.ensures
