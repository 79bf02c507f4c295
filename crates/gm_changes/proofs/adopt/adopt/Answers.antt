use Rattle.gm_changes.proofs.Common.{◌≡◌, refl, subst, true, ℕ, List, not-false, Has, none_any, seen_in, is_there_and, size_in, is_adoptable, has_wrong_size, fits_32}
use Rattle.gm_refusals.specs.declared.refusals.Refusal.TheVariants as refusals
use Rattle.gm_changes.proofs.MadeOfPart.{adopt_made}
use Rattle.gm_changes.proofs.adopt.adopt.Goals as goal

pub adopted_on-requires-clause-adoptable : goal.adopted_on-requires-clause-adoptable
adopted_on-requires-clause-adoptable c =
    rw c.as_slice.ensures.value
    (not-false _ (c.requires refusals.NotAdoptable refl refl))

pub adopted_on-requires-clause-sizes : goal.adopted_on-requires-clause-sizes
adopted_on-requires-clause-sizes c p h =
    fits_32 (size_in c.args.facts.now p)
    (none_any (λ q. is_there_and (size_in c.args.facts.now q) has_wrong_size)
    c.args.providers.now
    (c.requires refusals.WrongSize refl refl)
    p (subst (λ (l : List (List ℕ)). Has l p) c.as_slice.ensures.value h))

pub returns : goal.returns
returns c =
    let fit : is_adoptable (seen_in c.args.facts.now) c.args.name c.args.providers.now ≡ true
    = not-false _ (c.requires refusals.NotAdoptable refl refl) in
    adopt_made c.args.part.now (seen_in c.args.facts.now) c.args.name c.args.providers.now _ fit
    (rw c.as_slice.ensures.value at c.in_ok-adopted_on.ensures)
