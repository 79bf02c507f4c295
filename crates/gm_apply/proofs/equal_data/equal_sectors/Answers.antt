use Rattle.gm_apply.proofs.Common.{◌≡◌, ◌∙◌, ℕ, rules, sym, subst, bytes_eq-Decides, CountsEqual, reach_of}
use Rattle.gm_apply.proofs.EqualSectors.{itself_counted}
use Rattle.gm_apply.proofs.equal_data.equal_sectors.Goals as goal

pub returns-then-eq : goal.returns-then-eq
returns-then-eq g c =
    let size = g.H.Shelf.size c.args.shelf.now in
    let seen = (g.H.Shelf.view c.args.shelf.now).seen in
    let source = c.args.source in
    let provider = c.args.provider in
    let reach : ℕ = reach_of size source provider c.args.limit in
    let same : provider ≡ source =
    (bytes_eq-Decides provider source).0 (sym c.eq.ensures ∙ c.if-eq.true) in
    record {
      equal = λ h.
          subst (λ (n : ℕ). CountsEqual seen source provider reach n)
          (sym c.reach_of-reach.ensures) (itself_counted seen source provider reach same);
      within = search rules;
      looks = search rules;
    }
