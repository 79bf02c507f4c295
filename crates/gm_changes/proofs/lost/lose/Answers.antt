use Rattle.gm_changes.proofs.Common.{◌∙◌, sym, refl, seen_in, some_from, one_more_loss}
use Rattle.gm_refusals.specs.declared.refusals.Refusal.TheVariants as refusals
use Rattle.gm_changes.proofs.MadeOfPart.{lost_made}
use Rattle.gm_changes.proofs.lost.lose.Goals as goal

pub unwrap-mirror-requires : goal.unwrap-mirror-requires
unwrap-mirror-requires c =
    rw c.mirror.ensures.value (some_from _ (c.requires refusals.NoMirror refl refl))

pub lost-requires : goal.lost-requires
lost-requires c =
    one_more_loss c.args.part.now c.args.name _ c.mirror.ensures.state
    (sym c.mirror.ensures.value ∙ c.unwrap-mirror.ensures)
    (c.requires refusals.LastGenid refl refl)

pub returns : goal.returns
returns c =
    lost_made c.args.part.now (seen_in c.args.facts.now) c.args.name c.args.providers.now _ _ _
    (sym c.mirror.ensures.value ∙ c.unwrap-mirror.ensures)
    (sym (c.deref.ensures.value ∙ c.in_ok-members.ensures.value))
    (rw c.as_slice.ensures.value at c.in_ok-lost.ensures)
