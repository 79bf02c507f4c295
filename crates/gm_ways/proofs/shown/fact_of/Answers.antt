use Rattle.std.proofs.Common.{◌∙◌, ap, refl}
use Rattle.std.specs.Option.{unwrap_or}
use Rattle.gm_metadata.specs.Images.{zeros}
use Rattle.gm_shelf.proofs.LastRead.{last_read}
use Rattle.gm_ways.proofs.shown.fact_of.Goals as goal

pub returns-clause-fact : goal.returns-clause-fact
returns-clause-fact g c h =
    let j = g.H.Shelf in
    let size = j.size c.args.shelf.now in (
      record {
        sectors = search c.in-Some.ensures;
        last = c.unwrap_or-last.ensures
            ∙ (ap (λ o. unwrap_or o zeros) (c.in_ok-read_last.ensures.last h)
            ∙ last_read size (j.view c.args.shelf.now).seen c.args.provider c.in-Some.sectors
            (search c.in-Some.ensures));
      },
      refl,
    )
