use Rattle.gm_changes.proofs.Common.{◌∙◌, sym, refl, seen_in, some_from, some_all}
use Rattle.gm_refusals.specs.declared.refusals.Refusal.TheVariants as refusals
use Rattle.gm_changes.proofs.MadeOfPart.{remove_made}
use Rattle.gm_changes.proofs.remove.remove.Goals as goal

pub unwrap-mirror-requires : goal.unwrap-mirror-requires
unwrap-mirror-requires c =
    rw c.mirror.ensures.value (some_from _ (c.requires refusals.NoMirror refl refl))

pub removed-requires : goal.removed-requires
removed-requires c =
    some_all _ _ _ c.mirror.ensures.state (sym c.mirror.ensures.value ∙ c.unwrap-mirror.ensures)

pub returns : goal.returns
returns c =
    remove_made c.args.part.now (seen_in c.args.facts.now) c.args.name c.args.provider _ _ _
    (sym c.mirror.ensures.value ∙ c.unwrap-mirror.ensures)
    (sym (c.deref.ensures.value ∙ c.in_ok-members.ensures.value)) c.in_ok-removed.ensures
