use Rattle.gm_changes.proofs.Common.{◌∙◌, sym, refl, subst, List, is_none, is_some, or_parts, same_label, Component, Has, component_of, Has-filter, seen_in, is_there_and, has_wrong_size, size_in, any_one, some_from, none_from, fits_32, few_all, new_name}
use Rattle.gm_refusals.specs.declared.refusals.Refusal.TheVariants as refusals
use Rattle.gm_changes.proofs.MadeOfPart.{insert_made}
use Rattle.gm_changes.proofs.insert.insert.Goals as goal

pub unwrap-mirror-requires : goal.unwrap-mirror-requires
unwrap-mirror-requires c =
    rw c.mirror.ensures.value (some_from _ (c.requires refusals.NoMirror refl refl))

pub sectors_of-sectors-requires-clause-there : goal.sectors_of-sectors-requires-clause-there
sectors_of-sectors-requires-clause-there c =
    some_from _ (any_one (λ p. is_none (size_in c.args.facts.now p)) c.args.new.now.provider
    (or_parts _ _ (c.requires refusals.Absent refl refl)).0)

pub sectors_of-sectors-requires-clause-fits : goal.sectors_of-sectors-requires-clause-fits
sectors_of-sectors-requires-clause-fits c =
    fits_32 _ (any_one (λ p. is_there_and (size_in c.args.facts.now p) has_wrong_size)
    c.args.new.now.provider (c.requires refusals.WrongSize refl refl))

pub inserted-requires-clause-room : goal.inserted-requires-clause-room
inserted-requires-clause-room c =
    few_all _ _ _ c.mirror.ensures.state (sym c.mirror.ensures.value ∙ c.unwrap-mirror.ensures)

pub inserted-requires-clause-fresh : goal.inserted-requires-clause-fresh
inserted-requires-clause-fresh c k h =
    rw c.spare-spare.ensures (new_name c.args.part.now c.args.new.now.provider
    (none_from _ (any_one (λ p. is_some (component_of c.args.part.now p)) c.args.new.now.provider
    (c.requires refusals.ProviderTaken refl refl))) k
    (Has-filter (λ (a : Component). same_label a.mirror c.args.new.now.name)
    c.args.part.now.components k
    (subst (λ (l : List Component). Has l k) c.in_ok-members.ensures.value h)).0)

pub returns : goal.returns
returns c =
    insert_made c.args.part.now (seen_in c.args.facts.now) c.args.new.now _ _ _ _ _
    (sym c.mirror.ensures.value ∙ c.unwrap-mirror.ensures)
    (sym c.in_ok-members.ensures.value) c.sectors_of-sectors.ensures
    (none_from _ (any_one (λ p. is_some (component_of c.args.part.now p)) c.args.new.now.provider
    (c.requires refusals.ProviderTaken refl refl)))
    c.spare-spare.ensures c.in_ok-inserted.ensures
