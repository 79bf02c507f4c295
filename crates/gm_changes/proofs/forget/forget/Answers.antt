use Rattle.gm_changes.proofs.Common.{◌∙◌, sym, refl, seen_in, some_from, few_members}
use Rattle.gm_refusals.specs.declared.refusals.Refusal.TheVariants as refusals
use Rattle.gm_changes.proofs.MadeOfPart.{forget_made}
use Rattle.gm_changes.proofs.forget.forget.Goals as goal

pub unwrap-mirror-requires : goal.unwrap-mirror-requires
unwrap-mirror-requires c =
    rw c.mirror.ensures.value (some_from _ (c.requires refusals.NoMirror refl refl))

pub forgotten-requires : goal.forgotten-requires
forgotten-requires c =
    rw (c.deref.ensures.value ∙ c.in_ok-members.ensures.value)
    (few_members c.args.part.now c.args.name _ c.mirror.ensures.state
    (sym c.mirror.ensures.value ∙ c.unwrap-mirror.ensures))

pub returns : goal.returns
returns c =
    forget_made c.args.part.now (seen_in c.args.facts.now) c.args.name _ _ _
    (sym c.mirror.ensures.value ∙ c.unwrap-mirror.ensures)
    (sym (c.deref.ensures.value ∙ c.in_ok-members.ensures.value)) c.in_ok-forgotten.ensures
