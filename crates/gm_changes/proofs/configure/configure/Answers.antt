use Rattle.gm_changes.proofs.Common.{◌∙◌, sym, refl, seen_in, some_from}
use Rattle.gm_refusals.specs.declared.refusals.Refusal.TheVariants as refusals
use Rattle.gm_changes.proofs.MadeOfPart.{configure_made}
use Rattle.gm_changes.proofs.configure.configure.Goals as goal

pub unwrap-mirror-requires : goal.unwrap-mirror-requires
unwrap-mirror-requires c =
    rw c.mirror.ensures.value (some_from _ (c.requires refusals.NoMirror refl refl))

pub returns : goal.returns
returns c =
    configure_made c.args.part.now (seen_in c.args.facts.now) c.args.name c.args.settings.now _ _ _
    (sym c.mirror.ensures.value ∙ c.unwrap-mirror.ensures)
    (sym (c.deref.ensures.value ∙ c.in_ok-members.ensures.value)) c.in_ok-configured.ensures
