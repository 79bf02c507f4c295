use Rattle.gm_looks.proofs.Common.{◌≡◌, ◌∙◌, ◌<◌, ℕ, List, sym, ap, subst, same_is, IsDifference, count_some}
use Rattle.gm_looks.proofs.scrub.flaw_of.Goals as goal

pub returns-then-eq-clause-told : goal.returns-then-eq-clause-told
returns-then-eq-clause-told g c h =
    let seen = (g.H.Shelf.view c.args.shelf.now).seen in
    let source = c.source_of_mirror-source.result in
    let component = c.args.component.now in
    let same : source.provider ≡ component.provider =
    same_is source.provider component.provider (sym c.eq.ensures ∙ c.if-eq.true) in (
      source,
      c.source_of_mirror-source.ensures c.requires.state c.args.mirror.now c.requires.active,
      record {
        comparable = record {
          component = c.has_its_size-else-not-has_its_size.ensures.0 c.if-not-has_its_size-2.false;
          source = c.has_its_size.ensures.0 c.if-not-has_its_size.false;
        };
        same = λ i low. ap (λ (p : List ℕ). seen p i) (sym same);
      },
    )

pub returns-then-found-sectors-clause-told : goal.returns-then-found-sectors-clause-told
returns-then-found-sectors-clause-told g c h =
    let seen = (g.H.Shelf.view c.args.shelf.now).seen in
    let source = c.source_of_mirror-source.result in
    let component = c.args.component.now in
    let found = c.in_ok-found.found in
    let told : IsDifference (seen source.provider) (seen component.provider)
    c.args.mirror.now.data_sectors found =
    subst (λ (n : ℕ). IsDifference (seen source.provider) (seen component.provider) n found)
    c.from-sectors.ensures (c.in_ok-found.ensures.told h) in
    let within : found.first < c.args.mirror.now.data_sectors =
    subst (λ (n : ℕ). found.first < n) c.from-sectors.ensures c.if-found-sectors.true in (
      source,
      c.source_of_mirror-source.ensures c.requires.state c.args.mirror.now c.requires.active,
      record {
        comparable = record {
          component = c.has_its_size-else-not-has_its_size.ensures.0 c.if-not-has_its_size-2.false;
          source = c.has_its_size.ensures.0 c.if-not-has_its_size.false;
        };
        some = subst (λ (n : ℕ). 0 < n) (sym told.sectors)
            (count_some (seen source.provider) (seen component.provider)
            c.args.mirror.now.data_sectors found.first within (told.first within));
        within = within;
        by = told;
      },
    )
