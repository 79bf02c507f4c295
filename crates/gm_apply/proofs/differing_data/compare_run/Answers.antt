use Rattle.gm_apply.proofs.Common.{◌≡◌, ◌∙◌, ◌+◌, ℕ, length, rules, subst, arith, sector_of, IsDifference, IsWithin}
use Rattle.gm_apply.proofs.DifferingSectors.{difference_read}
use Rattle.gm_apply.proofs.differing_data.compare_run.Goals as goal

pub returns : goal.returns
returns g c =
    let first = c.args.first in
    let mid = c.read_run.ensures in
    let long : length c.read_run.new.out ≡ length c.args.wanted.now = c.read_run.auto.out in
    let within : IsWithin (length c.args.wanted.now) c.difference_of.result =
    subst (λ (n : ℕ). IsWithin n c.difference_of.result) long c.difference_of.ensures.within in
    record {
      told = λ h. let later = c.in_ok-read_run-2.ensures.bytes (mid.honest h) in
          difference_read (g.H.Shelf.view c.args.shelf.now).seen c.args.source c.args.provider first
          _ c.read_run.new.out c.read_run-2.new.out c.difference_of.result
          long (omega (arith, c.read_run-2.auto.out, c.requires.lengths))
          (c.in_ok-read_run.ensures.bytes h)
          (λ k low. later k low ∙ (mid.quiet h).seen c.args.provider (first + k)) within
          (subst (λ (n : ℕ). IsDifference (sector_of c.read_run.new.out)
          (sector_of c.read_run-2.new.out) n c.difference_of.result) long
          c.difference_of.ensures.told);
      within = within;
      fails = search rules;
      only = search rules;
    }
