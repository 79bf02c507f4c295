use Rattle.gm_changes.proofs.Common.{◌∙◌, ◌+◌, ◌≤◌, arith, length, sym, refl, seen_in, ends_within, few_data, one_more_sync, some_from}
use Rattle.gm_refusals.specs.declared.refusals.Refusal.TheVariants as refusals
use Rattle.gm_changes.proofs.MadeOfPart.{patch_made}
use Rattle.gm_changes.proofs.patch.patch.Goals as goal

pub unwrap-mirror-requires : goal.unwrap-mirror-requires
unwrap-mirror-requires c =
    rw c.mirror.ensures.value (some_from _ (c.requires refusals.NoMirror refl refl))

pub patched-requires-clause-another : goal.patched-requires-clause-another
patched-requires-clause-another c =
    one_more_sync c.args.part.now c.args.name _ c.mirror.ensures.state
    (sym c.mirror.ensures.value ∙ c.unwrap-mirror.ensures)
    (c.requires refusals.LastSyncid refl refl)

pub patched-requires-clause-within : goal.patched-requires-clause-within
patched-requires-clause-within c =
    let found = sym c.mirror.ensures.value ∙ c.unwrap-mirror.ensures in
    let few = few_data c.args.part.now c.args.name _ c.mirror.ensures.state found in
    let ends : c.args.first + length c.args.sectors.now
    ≤ c.unwrap-mirror.result.data_sectors =
    ends_within _ c.args.name c.args.first c.args.sectors.now _ found
    (c.requires refusals.BeyondEnd refl refl) in
    rw c.as_slice.ensures.value (omega (arith, few, ends))

pub returns : goal.returns
returns c =
    patch_made c.args.part.now (seen_in c.args.facts.now) c.args.name c.args.first
    c.args.sectors.now _ _ _
    (sym c.mirror.ensures.value ∙ c.unwrap-mirror.ensures)
    (sym (c.deref.ensures.value ∙ c.in_ok-members.ensures.value))
    (rw c.as_slice.ensures.value at c.in_ok-patched.ensures)
